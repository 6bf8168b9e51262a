-- What a view keeps. Internal: no public contract cites this.
use Rattle.std.specs.Prelude.{◌≡◌, ℕ, ◌<◌}
use Rattle.logbook.specs.Pages.{Book}
use Rattle.cw_board.specs.Books.{Begun}
use Rattle.cw_board.specs.Shelving.{Shelved, IsOfBoard}

-- what is looked at is of the board, and is what the view tells
pub record IsViewing (book : Book) (workers : ℕ) (seen : Shelved) (shown : Begun) (worker : ℕ) : Type 0 where
  pub of_board : IsOfBoard book workers seen
  pub shown_book : shown.book ≡ book
  pub shown_log : shown.log ≡ seen.log
  pub below : worker < workers
