-- What a board's writer keeps. Internal: no public contract cites this.
use Rattle.std.specs.Prelude.{◌≡◌, ℕ, List, [], ◌∷◌, ◌++◌, fold, Option, Some, None}
use Rattle.logbook.specs.Pages.{Book}
use Rattle.cw_board.specs.declared.shelves.Post.{Post}
use Rattle.cw_board.specs.Books.{Begun}
use Rattle.cw_board.specs.Shelving.{Shelved, IsOfBoard}
use Rattle.cw_board.specs.Posting.{behind}
use Rattle.cw_board.specs.Pressing.{Pressed}

-- what is published once all these posts are shown
abbrev pub last_of : Shelved → List Post → Shelved
last_of shown posts = fold behind shown posts

-- a post that is held back, as a list
abbrev pub held_in : Option Post → List Post
held_in None = []
held_in (Some post) = post ∷ []

-- what readers will see once all that was given is shown to them
abbrev pub due : Pressed → Option Post → Shelved
due press held = last_of press.shown (press.waiting ++ held_in held)

-- all that was given is of the board, whether readers see it or not
pub record IsWriting (book : Book) (workers : ℕ) (press : Pressed) (held : Option Post) (published given : Begun)
    : Type 0 where
  pub published_book : published.book ≡ book
  pub given_book : given.book ≡ book
  pub shown : press.shown.log ≡ published.log
  pub of_board : IsOfBoard book workers (due press held)
  pub all : (due press held).log ≡ given.log
