-- A script is lines, each ended by a line feed. The last may lack its end. This project's own format.
use Rattle.std.specs.Prelude.{ℕ, ◌==◌, Bool, true, false, List, [], ◌∷◌, count_by, if◌then◌else◌}
use Rattle.std.specs.List.{slice_split}

-- the texts between the line ends: one more than there are line ends, and the last has no end
unfoldable pub lines_of : List ℕ → List (List ℕ)
lines_of bytes = slice_split (λ c. c == 10) bytes

-- whether a text has no line end
unfoldable pub is_line : List ℕ → Bool
is_line [] = true
is_line (c ∷ cs) = if c == 10 then false else is_line cs

-- how many lines of a text are whole: its line ends
unfoldable pub line_ends : List ℕ → ℕ
line_ends bytes = count_by (λ c. c == 10) bytes
