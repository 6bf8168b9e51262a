-- Two lists without repetition have as many items in common, seen from either.
use Rattle.std.proofs.Common.{◌≡◌, ℕ, ◌+◌, ◌<◌, ◌≤◌, Bool, true, false, ◌&&◌, ◌||◌, List, [], ◌∷◌, refl, sym, ap, ◌∙◌, subst, arith, ltb}
use Rattle.std.specs.List.{count_by, AllByRecursion, IsDistinct}
use Rattle.std.proofs.lemmas.Map.Keys.{IsDistinct-head, IsDistinct-tail}
use Rattle.std.proofs.lemmas.Bool.Decides.{nat_tests}
use Rattle.cw_types.specs.declared.ids.Item.{Item}
use Rattle.cw_assign.specs.Items.{same_item, has}
use Rattle.cw_assign.proofs.ItemLemmas.{same_item-Decides, same_item-flip}
use Rattle.cw_assign.proofs.Counts.{count-cons, digit, list_any-count, once}

module _ (f : Item → Bool) where
  both_no : (b : Bool) → (b && false) ≡ false
  both_no true = refl
  both_no false = refl

  nothing : (p : Item → Bool) (ys : List Item) → ((y : Item) → p y ≡ false) → count_by p ys ≡ 0
  nothing p [] fails = refl
  nothing p (y ∷ ys) fails = omega (arith, count-cons p y ys, ap digit (fails y), nothing p ys fails)

  agree : (p q : Item → Bool) → ((y : Item) → p y ≡ q y) → (ys : List Item) → count_by p ys ≡ count_by q ys
  agree p q same [] = refl
  agree p q same (y ∷ ys) = omega (arith, count-cons p y ys, count-cons q y ys, ap digit (same y), agree p q same ys)

  apart_has : (x : Item) (xs : List Item) → AllByRecursion (λ y. same_item x y ≡ false) xs → has xs x ≡ false
  apart_has x [] apart = refl
  apart_has x (y ∷ ys) apart = neither (same_item x y) (has ys x) apart.0 (apart_has x ys apart.1) where
    neither : (a b : Bool) → a ≡ false → b ≡ false → (a || b) ≡ false
    neither true b e g = cc
    neither false b e g = g

  split : (x : Item) (xs ys : List Item) → has xs x ≡ false
      → count_by (λ y. f y && (same_item y x || has xs y)) ys ≡ count_by (λ y. f y && same_item y x) ys + count_by (λ y. f y && has xs y) ys
  split x xs [] new = refl
  split x xs (y ∷ ys) new = pick (f y) (same_item y x) refl refl (split x xs ys new) where
    pick : (a b : Bool) → f y ≡ a → same_item y x ≡ b → count_by (λ z. f z && (same_item z x || has xs z)) ys ≡ count_by (λ z. f z && same_item z x) ys + count_by (λ z. f z && has xs z) ys
        → count_by (λ z. f z && (same_item z x || has xs z)) (y ∷ ys) ≡ count_by (λ z. f z && same_item z x) (y ∷ ys) + count_by (λ z. f z && has xs z) (y ∷ ys)
    pick a b fy same rest = omega (arith, count-cons (λ z. f z && (same_item z x || has xs z)) y ys, count-cons (λ z. f z && same_item z x) y ys, count-cons (λ z. f z && has xs z) y ys, rest, one a b fy same) where
      one : (a b : Bool) → f y ≡ a → same_item y x ≡ b → digit (f y && (same_item y x || has xs y)) ≡ digit (f y && same_item y x) + digit (f y && has xs y)
      one a true fy same =
          let old : has xs y ≡ false = subst (λ (w : Item). has xs w ≡ false) (sym ((same_item-Decides y x).0 same)) new in
          by_cases (f y) (same_item y x) (has xs y) same old where
            by_cases : (u v w : Bool) → v ≡ true → w ≡ false → digit (u && (v || w)) ≡ digit (u && v) + digit (u && w)
            by_cases u v true e g = cc
            by_cases true true false e g = refl
            by_cases false true false e g = refl
            by_cases u false false e g = cc
      one a false fy same = by_cases (f y) (same_item y x) (has xs y) same where
        by_cases : (u v w : Bool) → v ≡ false → digit (u && (v || w)) ≡ digit (u && v) + digit (u && w)
        by_cases u true w e = cc
        by_cases true false true e = refl
        by_cases true false false e = refl
        by_cases false false w e = refl

  single : (x : Item) (ys : List Item) → IsDistinct same_item ys → count_by (λ y. f y && same_item y x) ys ≡ digit (f x && has ys x)
  single x ys distinct = pick (f x) refl where
    tell : (n : ℕ) (b : Bool) → n ≤ 1 → b ≡ ltb 0 n → n ≡ digit b
    tell n b e g = ap_digit (ltb 0 n) refl where
      ap_digit : (c : Bool) → ltb 0 n ≡ c → n ≡ digit b
      ap_digit true is = omega (arith, up is, e, ap digit (g ∙ is)) where
        up : ltb 0 n ≡ true → 0 < n
        up h = grind (arith, nat_tests)
      ap_digit false is = omega (arith, down is, ap digit (g ∙ is)) where
        down : ltb 0 n ≡ false → n ≤ 0
        down h = grind (arith, nat_tests)

    pick : (b : Bool) → f x ≡ b → count_by (λ y. f y && same_item y x) ys ≡ digit (f x && has ys x)
    pick true fx =
        agree (λ y. f y && same_item y x) (λ y. same_item x y) (λ y. here y (same_item y x) refl) ys
        ∙ tell (count_by (λ y. same_item x y) ys) (has ys x) (once x ys distinct) (list_any-count (λ y. same_item x y) ys)
        ∙ sym (ap (λ b. digit (b && has ys x)) fx) where
          here : (y : Item) (b : Bool) → same_item y x ≡ b → (f y && same_item y x) ≡ same_item x y
          here y true same = ap (λ b. b && same_item y x) (ap f ((same_item-Decides y x).0 same) ∙ fx) ∙ same_item-flip y x
          here y false same = ap (λ b. f y && b) same ∙ both_no (f y) ∙ sym (same_item-flip x y ∙ same)
    pick false fx =
        nothing (λ y. f y && same_item y x) ys (λ y. here y (same_item y x) refl) ∙ sym (ap (λ b. digit (b && has ys x)) fx) where
          here : (y : Item) (b : Bool) → same_item y x ≡ b → (f y && same_item y x) ≡ false
          here y true same = ap (λ b. b && same_item y x) (ap f ((same_item-Decides y x).0 same) ∙ fx)
          here y false same = ap (λ b. f y && b) same ∙ both_no (f y)

  pub common : (xs ys : List Item) → IsDistinct same_item xs → IsDistinct same_item ys → count_by (λ x. f x && has ys x) xs ≡ count_by (λ y. f y && has xs y) ys
  common [] ys xs_apart ys_apart = sym (nothing (λ y. f y && false) ys (λ y. both_no (f y)))
  common (x ∷ xs) ys xs_apart ys_apart =
      omega (arith, count-cons (λ z. f z && has ys z) x xs, split x xs ys (apart_has x xs (IsDistinct-head same_item x xs xs_apart)), single x ys ys_apart, common xs ys (IsDistinct-tail same_item x xs xs_apart) ys_apart)
