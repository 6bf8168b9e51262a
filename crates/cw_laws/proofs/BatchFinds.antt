-- What a filter that keeps one element says: a search finds it, a stronger test keeps it, and whatever passes is that one.
use Rattle.std.proofs.Common.{◌≡◌, ◌&&◌, Bool, true, false, cond, List, [], ◌∷◌, Some, refl, ap}
use Rattle.std.specs.List.{AllByRecursion, filter, find}

module _ {X : Type 0} (p : X → Bool) where
  -- the first that is kept is found
  pub find-first : (xs : List X) (x : X) (rest : List X) → filter p xs ≡ x ∷ rest → find p xs ≡ Some x
  find-first [] x rest is = cc
  find-first (y ∷ ys) x rest is = by (p y) (find-first ys x rest) is where
    by : (b : Bool) → (filter p ys ≡ x ∷ rest → find p ys ≡ Some x) → cond b (y ∷ filter p ys) (filter p ys) ≡ x ∷ rest → cond b (Some y) (find p ys) ≡ Some x
    by true later kept = cc
    by false later kept = later kept

  -- what holds of all that are kept holds of all that pass
  pub each-passing : (Q : X → Type 0) (xs : List X) → AllByRecursion Q (filter p xs) → AllByRecursion (λ x. p x ≡ true → Q x) xs
  each-passing Q [] each = tt
  each-passing Q (y ∷ ys) each = by (p y) refl (each-passing Q ys) each where
    by : (b : Bool) → p y ≡ b → (AllByRecursion Q (filter p ys) → AllByRecursion (λ x. p x ≡ true → Q x) ys) → AllByRecursion Q (cond b (y ∷ filter p ys) (filter p ys)) →
        AllByRecursion (λ x. p x ≡ true → Q x) (y ∷ ys)
    by true is later kept = (λ _. kept.0, later kept.1)
    by false is later kept = (λ passes. cc, later kept)

  -- a second test is one of what is kept
  pub filter-and : (q : X → Bool) (xs : List X) → filter (λ x. p x && q x) xs ≡ filter q (filter p xs)
  filter-and q [] = refl
  filter-and q (y ∷ ys) = by (p y) (filter-and q ys) where
    by : (b : Bool) → filter (λ x. p x && q x) ys ≡ filter q (filter p ys) → cond (b && q y) (y ∷ filter (λ x. p x && q x) ys) (filter (λ x. p x && q x) ys) ≡ filter q (cond b (y ∷ filter p ys) (filter p ys))
    by true later = ap (λ rest. cond (q y) (y ∷ rest) rest) later
    by false later = later
