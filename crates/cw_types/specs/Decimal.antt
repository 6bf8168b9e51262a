-- Numbers as decimal text, with no sign and no leading zero.
use Rattle.std.specs.Prelude.{ℕ, ◌+◌, ◌-◌, ◌*◌, ◌==◌, ◌&&◌, Bool, false, nat_le, List, [], ◌∷◌, length, slice_index}
use Rattle.std.specs.Prelude.{Option, Some, None, if◌then◌else◌}
use Rattle.std.specs.Char.{is_ascii_digit}
use Rattle.std.specs.List.{list_all}

-- the number that digits write behind those of n
abbrev pub read_on : ℕ → List ℕ → ℕ
read_on n [] = n
read_on n (c ∷ cs) = read_on (10 * n + (c - 48)) cs

-- digits, the first of which is 0 only where it stands alone
abbrev pub is_numeral : List ℕ → Bool
is_numeral text =
    if length text == 0 then false else
    if length text == 1 then list_all is_ascii_digit text else
    if slice_index text 0 == 48 then false else list_all is_ascii_digit text

-- the number that a text is, if it is one of at most `most`
abbrev pub number_of : ℕ → List ℕ → Option ℕ
number_of most text = if is_numeral text && nat_le (read_on 0 text) most then Some (read_on 0 text) else None
