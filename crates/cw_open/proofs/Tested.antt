-- A list of which each member is tested.
use Rattle.std.proofs.Common.{◌≡◌, ◌↔◌, ℕ, ◌+◌, ◌<◌, ◌≤◌, Bool, true, false, IsTrue, List, [], ◌∷◌, ◌++◌, length, take, get_or, sym, ap, subst, ◌∙◌}
use Rattle.std.specs.List.{AllByRecursion}
use Rattle.std.proofs.lemmas.List.{take_all, take_more}
use Rattle.cw_laws.proofs.Lists.{each-push, each-at}
use Rattle.cw_open.proofs.Steps.{refuted, never, always}

module _ {A : Type 0} (P : A → Type 0) (xs : List A) (at : ℕ) where
  module _ (x : A) (within : at < length xs) (is : x ≡ get_or xs at x) where
    pub each_more : AllByRecursion P (take at xs) → (b : Bool) → (IsTrue b ↔ P x) → b ≡ true → AllByRecursion P (take (at + 1) xs)
    each_more each b test told = subst (AllByRecursion P) (sym (take_more xs at x within ∙ ap (λ (y : A). take at xs ++ y ∷ []) (sym is))) (each-push P (take at xs) x (test.0 told) each)

    pub each_not : (b : Bool) → (IsTrue b ↔ P x) → b ≡ false → IsTrue false ↔ AllByRecursion P xs
    each_not b test not = never (λ each. refuted b test not (subst P (sym is) (each-at P xs at x within each)))

  pub each_all : AllByRecursion P (take at xs) → length xs ≤ at → IsTrue true ↔ AllByRecursion P xs
  each_all each all = always (subst (AllByRecursion P) (take_all at xs all) each)
