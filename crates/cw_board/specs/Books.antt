-- The history of what was put. Internal: no public contract cites this but for its name.
use Rattle.std.specs.Prelude.{◌≡◌, ℕ, ◌==◌, true, List, [], ◌∷◌, ◌++◌, length, MatchBool}
use Rattle.std.specs.Bool.{⊤}
use Rattle.logbook.specs.Pages.{Cell, Step, View, Book, Named}
use Rattle.cw_board.specs.declared.posted.Posted.{Posted}

-- the first word is the length of the history; the second isn't used
abbrev pub IsKept : List Cell → List Posted → Type 0
IsKept cells log = cells ≡ (length log, true) ∷ (0, true) ∷ []

-- the first word of a book
abbrev pub head_of : Book → Named
head_of book = record { tracked = true; key = 0; book = book }

-- the name of no book
abbrev pub no_book : Book
no_book = record { number = 0; log_name = 0; cells_name = 0 }

-- the record was added to all that had been seen, where nothing else had been
abbrev pub Adds : Step Posted → View Posted ℕ → ℕ → View Posted ℕ → Type 0
Adds s v found w = MatchBool (found == s.old) (w.0 ≡ v.0 ++ s.ask ∷ []) ⊤

-- the beginning of a history
pub record Begun : Type 0 where
  pub book : Book
  pub log : List Posted
