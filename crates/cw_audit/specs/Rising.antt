-- Lists that rise by the bytes of a text that each member has. This project's own order of a report's lines.
use Rattle.std.specs.Prelude.{ℕ, List, [], ◌∷◌, map, All, Contains}
use Rattle.std.specs.List.{fold}
use Rattle.std.specs.List.Sorted.{IsStrictlySortedBy}
use Rattle.std.specs.Ordering.{match_ordering}
use Rattle.cw_types.specs.Order.{name_cmp}

-- a member at its place in a list that rises by a text; it takes the place of the one with its text, if there is one
abbrev pub placed : {A : Type 0} → (A → List ℕ) → A → List A → List A
placed text x [] = x ∷ []
placed text x (y ∷ ys) = match_ordering (name_cmp (text x) (text y)) (x ∷ y ∷ ys) (x ∷ ys) (y ∷ placed text x ys)

-- these members, rising by their texts, each text once
abbrev pub rising_by : {A : Type 0} → (A → List ℕ) → List A → List A
rising_by text xs = fold (λ list x. placed text x list) [] xs

-- a list has just the things of which a fact holds: each of its members is one, and each of them has its text in it,
-- where the texts rise
pub record ListsJust {A : Type 0} (text : A → List ℕ) (P : A → Type 0) (list : List A) : Type 0 where
  pub rising : IsStrictlySortedBy name_cmp (map text list)
  pub only : All P list
  pub all : (x : A) → P x → Contains (map text list) (text x)
