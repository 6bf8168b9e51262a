-- A fact of each element, and of what each is mapped to.
use Rattle.std.proofs.Common.{List, [], ◌∷◌, All, Bool, IsTrue, ◌↔◌, map}
use Rattle.std.proofs.lemmas.List.Elements.{All-nil, All-cons, All-head, All-tail, All-map}

pub All-of_map : {X Y : Type 0} (P : X → Type 0) (f : Y → X) (ys : List Y) → All P (map f ys) → All (λ y. P (f y)) ys
All-of_map {X} {Y} P f [] each = All-nil (λ (y : Y). P (f y))
All-of_map {X} {Y} P f (y ∷ ys) each = All-cons (λ (y : Y). P (f y)) y ys (All-head P (f y) (map f ys) each) (All-of_map P f ys (All-tail P (f y) (map f ys) each))

-- a test of the elements is one of what they are mapped to
pub iff-map : {X Y : Type 0} (P : X → Type 0) (f : Y → X) (ys : List Y) (b : Bool) → (IsTrue b ↔ All (λ y. P (f y)) ys) → IsTrue b ↔ All P (map f ys)
iff-map P f ys b test = (λ yes. All-map P f ys (test.0 yes), λ each. test.1 (All-of_map P f ys each))
