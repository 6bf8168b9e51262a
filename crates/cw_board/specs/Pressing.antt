-- What the writer of the two copies has. Internal: no public contract cites this.
use Rattle.std.specs.Prelude.{List, [], drop, Option, Some, None}
use Rattle.left_right.specs.declared.Absorb.{Ghosts}
use Rattle.left_right.specs.declared.writer.Writer.{Writer}
use Rattle.cw_board.specs.declared.shelves.Post.{Post}
use Rattle.cw_board.specs.Books.{no_book}
use Rattle.cw_board.specs.Shelving.{Shelved}

-- what readers see, and what waits to be shown to them
pub record Pressed : Type 0 where
  pub shown : Shelved
  pub waiting : List Post

-- nothing
abbrev pub nothing : Shelved
nothing = record { book = no_book; log = []; shelved = [] }

module _ {V P A S : Type 0} {g : Ghosts Shelved Post S} where
  abbrev pub shown_in : Option (Writer Shelved Post V P A S g) → Shelved
  shown_in None = nothing
  shown_in (Some writer) = writer.desk.shown.value

  abbrev pub waiting_in : Option (Writer Shelved Post V P A S g) → List Post
  waiting_in None = []
  waiting_in (Some writer) = drop writer.behind writer.log.items
