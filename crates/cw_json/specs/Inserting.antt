-- The value of a key is set: its pair stands between the pairs of lesser and of greater keys, by bytes, and each key
-- has one pair.
use Rattle.std.specs.Prelude.{ℕ, List, ◌∷◌, ◌++◌}
use Rattle.std.specs.List.{filter}
use Rattle.std.specs.Ordering.{nat_cmp, is_lt, is_gt}
use Rattle.std.specs.Cmp.Lexicographic.{slice_cmp}

-- the pairs whose keys stand below a key
abbrev pub below : List ℕ → List (List ℕ × List ℕ) → List (List ℕ × List ℕ)
below key pairs = filter (λ p. is_lt (slice_cmp nat_cmp p.0 key)) pairs

-- the pairs whose keys stand above a key
abbrev pub above : List ℕ → List (List ℕ × List ℕ) → List (List ℕ × List ℕ)
above key pairs = filter (λ p. is_gt (slice_cmp nat_cmp p.0 key)) pairs

-- properties with this value of a key, whether they had one or not
abbrev pub with_value : List ℕ → List ℕ → List (List ℕ × List ℕ) → List (List ℕ × List ℕ)
with_value key value pairs = below key pairs ++ (key, value) ∷ above key pairs
