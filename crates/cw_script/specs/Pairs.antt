-- The parts that a commit names, each with its new end. A commit names 1 to 16 parts, and none twice.
use Rattle.std.specs.Prelude.{ℕ, ◌==◌, ◌%◌, ◌-◌, ◌≤◌, ◌^◌, Bool, false, List, [], ◌∷◌, ◌++◌, length, map, nat_eq}
use Rattle.std.specs.Prelude.{nat_lt, Option, Some, None, if◌then◌else◌}
use Rattle.std.specs.Option.{option_and_then}
use Rattle.std.specs.List.{list_any, IsDistinct}
use Rattle.cw_types.specs.Decimal.{number_of}
use Rattle.cw_script.specs.declared.directive.PartEnd.{PartEnd}

-- whether so many words are 1 to 16 pairs
abbrev pub is_pair_count : ℕ → Bool
is_pair_count n = if nat_lt n 2 then false else if nat_lt 32 n then false else n % 2 == 0

-- one more pair, whose part isn't among the others
abbrev pub add_pair : List PartEnd → Option ℕ → Option ℕ → Option (List PartEnd)
add_pair found None to = None
add_pair found (Some part) None = None
add_pair found (Some part) (Some to) =
    if list_any (λ pair. pair.part == part) found then None else Some (found ++ record { part = part; to = to } ∷ [])

-- one more pair, of the words that spell its part and its end
abbrev pub pair_onto : List PartEnd → List ℕ → List ℕ → Option (List PartEnd)
pair_onto found part to = add_pair found (number_of (2 ^ 32 - 1) part) (number_of (2 ^ 64 - 1) to)

-- parts and ends in turn, behind the pairs found
abbrev pub pairs_onto : Option (List PartEnd) → List (List ℕ) → Option (List PartEnd)
pairs_onto found [] = found
pairs_onto found (part ∷ []) = None
pairs_onto found (part ∷ to ∷ ws) =
    pairs_onto (option_and_then (λ pairs. pair_onto pairs part to) found) ws

-- the pairs that words spell, each part once
abbrev pub pairs_of : List (List ℕ) → Option (List PartEnd)
pairs_of ws = pairs_onto (Some []) ws

-- what a commit may name
pub record ArePairs (pairs : List PartEnd) : Type 0 where
  pub some : 1 ≤ length pairs
  pub few : length pairs ≤ 16
  pub distinct : IsDistinct nat_eq (map (λ pair. pair.part) pairs)
