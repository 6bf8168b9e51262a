-- Looking up a property by its key.
use Rattle.std.specs.Prelude.{ℕ, List, [], ◌∷◌, Option, Some, None, bytes_eq, if◌then◌else◌}

-- the value of a key
abbrev pub value_in : List (List ℕ × List ℕ) → List ℕ → Option (List ℕ)
value_in [] key = None
value_in (p ∷ ps) key = if bytes_eq p.0 key then Some p.1 else value_in ps key
