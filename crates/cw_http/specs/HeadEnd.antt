-- Where the head of a message ends (RFC 9112, 2.1): with the empty line, the first line end that another one follows.
use Rattle.std.specs.Prelude.{ℕ, ◌==◌, suc, List, [], ◌∷◌, Option, Some, None, if◌then◌else◌}
use Rattle.std.specs.Option.{option_map}

-- how long the empty line is that begins there: LF or CR LF
abbrev pub empty_line : List ℕ → Option ℕ
empty_line [] = None
empty_line (c ∷ []) = if c == 10 then Some 1 else None
empty_line (c ∷ d ∷ cs) = if c == 10 then Some 1 else if c == 13 then (if d == 10 then Some 2 else None) else None

-- the first that is there
abbrev pub first_of_two : Option ℕ → Option ℕ → Option ℕ
first_of_two (Some n) m = Some n
first_of_two None m = m

-- how long the head at the front of bytes is, its empty line included
abbrev pub head_length : List ℕ → Option ℕ
head_length [] = None
head_length (c ∷ cs) =
    option_map suc (if c == 10 then first_of_two (empty_line cs) (head_length cs) else head_length cs)
