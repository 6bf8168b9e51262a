-- Bytes that are told or not: what a source has left to read, what a sink holds. This project's own rule.
use Rattle.std.specs.Prelude.{◌≡◌, ℕ, List, [], ◌++◌, Option, Some}
use Rattle.std.specs.Option.{option_map}

-- bytes in front of those that are told
abbrev pub with_front : List ℕ → Option (List ℕ) → Option (List ℕ)
with_front front told = option_map (λ rest. front ++ rest) told

-- bytes behind those that are told
abbrev pub with_back : List ℕ → Option (List ℕ) → Option (List ℕ)
with_back back told = option_map (λ bytes. bytes ++ back) told

-- no bytes are left, where it is told
abbrev pub IsAtEnd : Option (List ℕ) → Type 0
IsAtEnd told = (bytes : List ℕ) → told ≡ Some bytes → bytes ≡ []
