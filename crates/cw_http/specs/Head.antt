-- The refusals of a head that are told by its lines alone: too many of them (RFC 6585, 5), and another version than
-- HTTP/1.0 and HTTP/1.1 (RFC 9110, 15.6.6).
use Rattle.std.specs.Prelude.{ℕ, ◌-◌, ◌==◌, ◌&&◌, ◌||◌, not, Bool, false, nat_lt, List, [], ◌∷◌, length, take, drop}
use Rattle.std.specs.Prelude.{position, count_by, codes, bytes_eq, slice_index, Option, Some, None, if◌then◌else◌}
use Rattle.std.specs.Char.{is_ascii_digit}

-- the bytes before a place, or all
abbrev pub before : List ℕ → Option ℕ → List ℕ
before bytes None = bytes
before bytes (Some at) = take at bytes

-- a line without the CR at its end
abbrev pub without_return : List ℕ → List ℕ
without_return line = if slice_index line (length line - 1) == 13 then take (length line - 1) line else line

-- the first line, without its line end
abbrev pub first_line : List ℕ → List ℕ
first_line head = without_return (before head (position (λ c. c == 10) head))

-- two digits with a point between them, other than 1.0 and 1.1
abbrev pub is_other_version : List ℕ → Bool
is_other_version (major ∷ point ∷ minor ∷ []) =
    is_ascii_digit major && (point == 46) && is_ascii_digit minor
    && not ((major == 49) && ((minor == 48) || (minor == 49)))
is_other_version _ = false

-- ` HTTP/` and such a version
abbrev pub marks_other_version : List ℕ → Bool
marks_other_version mark = bytes_eq (take 6 mark) (codes " HTTP/") && is_other_version (drop 6 mark)

-- a line ends so
abbrev pub has_other_version : List ℕ → Bool
has_other_version line = if nat_lt (length line) 9 then false else marks_other_version (drop (length line - 9) line)

-- how many lines a head has between its first line and its empty line
abbrev pub lines_between : List ℕ → ℕ
lines_between head = count_by (λ c. c == 10) head - 2

-- the refusal by the lines of a head, if there is one
abbrev pub refusal_of_lines : List ℕ → Option ℕ
refusal_of_lines head =
    if nat_lt 64 (lines_between head) then Some 431 else
    if has_other_version (first_line head) then Some 505 else None
