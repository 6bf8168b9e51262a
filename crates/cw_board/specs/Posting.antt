-- What a post adds to what is published. Internal: no public contract cites this.
use Rattle.cw_board.specs.declared.shelves.Post.{Post}
use Rattle.cw_board.specs.Shelving.{Shelved, added, add_at}

-- what is published behind a post
abbrev pub behind : Shelved → Post → Shelved
behind s post = record {
  book = post.front.book;
  log = post.front.log;
  shelved = add_at post.posted.worker (added post.posted.applied) s.shelved;
}
