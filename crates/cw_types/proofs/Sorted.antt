-- Lists in a strict order: one is told by what it contains, so that a list to which one element after the other was
-- added in its place is the sorted list of all of them.
use Rattle.std.proofs.Common.{◌≡◌, Bool, true, false, ◌||◌, List, [], ◌∷◌, refl, ap, sym, subst, ◌∙◌, true≢false}
use Rattle.std.specs.List.{list_any, fold}
use Rattle.std.specs.List.Sorted.{IsStrictlySortedBy}
use Rattle.std.specs.Ordering.{is_eq, eq_by_cmp, match_ordering, ordering_reverse}
use Rattle.std.specs.declared.cmp.Ordering.{Ordering}
use Rattle.std.specs.declared.cmp.Ordering.TheVariants.{Less, Equal, Greater}
use Rattle.std.specs.Cmp.{IsTotalOrder}
use Rattle.std.specs.BTreeSet.{insert_key}
use Rattle.cw_types.proofs.Rising.{Above as AboveIn, above_less, greater, rising-none, rising-fold}

or_false : (b : Bool) → (b || false) ≡ b
or_false true = refl
or_false false = refl

or_twice : (b c : Bool) → (b || c) ≡ (b || (b || c))
or_twice true c = refl
or_twice false c = refl

or_swap : (a b c : Bool) → (a || (b || c)) ≡ (b || (a || c))
or_swap true true c = refl
or_swap true false c = refl
or_swap false true c = refl
or_swap false false c = refl

or_move : (a b c : Bool) → ((a || b) || c) ≡ (b || (a || c))
or_move true true c = refl
or_move true false c = refl
or_move false true c = refl
or_move false false c = refl

module _ {K : Type 0} (R : K → K → Ordering) (o : IsTotalOrder R) (exact : (x y : K) → R x y ≡ Equal → x ≡ y) where
  abbrev pub has : K → List K → Bool
  has k xs = list_any (eq_by_cmp R k) xs

  abbrev Above : K → List K → Type 0
  Above = AboveIn R o

  own : (x : K) (r : Ordering) → R x x ≡ r → r ≡ ordering_reverse r → R x x ≡ Equal
  own x Less is turned = absurd (cc)
  own x Equal is turned = is
  own x Greater is turned = absurd (cc)

  itself : (x : K) → R x x ≡ Equal
  itself x = own x (R x x) refl (o.antisymm x x)

  not_above : (x : K) (ys : List K) → Above x ys → has x ys ≡ false
  not_above x [] above = refl
  not_above x (y ∷ ys) above = ap (λ (r : Ordering). is_eq r || has x ys) above.0 ∙ not_above x ys above.1

  tail_has : (x : K) (xs ys : List K) (k : K) → Above x xs → Above x ys
      → (is_eq (R k x) || has k xs) ≡ (is_eq (R k x) || has k ys) → (r : Ordering) → R k x ≡ r → has k xs ≡ has k ys
  tail_has x xs ys k above below same Less is = subst (λ (r : Ordering). (is_eq r || has k xs) ≡ (is_eq r || has k ys)) is same
  tail_has x xs ys k above below same Equal is =
      subst (λ (q : K). has q xs ≡ has q ys) (sym (exact k x is)) (not_above x xs above ∙ sym (not_above x ys below))
  tail_has x xs ys k above below same Greater is = subst (λ (r : Ordering). (is_eq r || has k xs) ≡ (is_eq r || has k ys)) is same

  lesser_head : (x y : K) (xs ys : List K) → Above y ys → R x y ≡ Less
      → (is_eq (R x x) || has x xs) ≡ (is_eq (R x y) || has x ys) → true ≡ false
  lesser_head x y xs ys above less same =
      sym (ap (λ (r : Ordering). is_eq r || has x xs) (itself x)) ∙ same
      ∙ ap (λ (r : Ordering). is_eq r || has x ys) less ∙ not_above x ys (above_less R o x y ys less above)

  heads : (x y : K) (xs ys : List K) → Above x xs → Above y ys
      → ((k : K) → (is_eq (R k x) || has k xs) ≡ (is_eq (R k y) || has k ys))
      → (((k : K) → has k xs ≡ has k ys) → xs ≡ ys) → (r : Ordering) → R x y ≡ r → (x ∷ xs) ≡ (y ∷ ys)
  heads x y xs ys above below same tails Less is = absurd (true≢false (lesser_head x y xs ys below is (same x)))
  heads x y xs ys above below same tails Equal is =
      let one : x ≡ y = exact x y is in
      ap (λ (q : K). q ∷ xs) one
      ∙ ap (λ (zs : List K). y ∷ zs) (tails (λ k. tail_has x xs ys k above (subst (λ (q : K). Above q ys) (sym one) below)
      (subst (λ (q : K). (is_eq (R k x) || has k xs) ≡ (is_eq (R k q) || has k ys)) (sym one) (same k)) (R k x) refl))
  heads x y xs ys above below same tails Greater is =
      absurd (true≢false (lesser_head y x ys xs above (greater R o x y is) (sym (same y))))

  -- two strictly sorted lists that contain the same are one
  pub unique : (xs ys : List K) → IsStrictlySortedBy R xs → IsStrictlySortedBy R ys → ((k : K) → has k xs ≡ has k ys) → xs ≡ ys
  unfolding IsStrictlySortedBy
  unique [] [] rising falling same = refl
  unique [] (y ∷ ys) rising falling same = absurd (true≢false (sym (same y ∙ ap (λ (r : Ordering). is_eq r || has y ys) (itself y))))
  unique (x ∷ xs) [] rising falling same = absurd (true≢false (sym (sym (same x) ∙ ap (λ (r : Ordering). is_eq r || has x xs) (itself x))))
  unique (x ∷ xs) (y ∷ ys) rising falling same =
      heads x y xs ys rising.0 falling.0 same (unique xs ys rising.1 falling.1) (R x y) refl

  has-insert_at : (q k x : K) (xs : List K) → has q (insert_key R xs k) ≡ (eq_by_cmp R q k || has q xs) → (r : Ordering) → R k x ≡ r
      → has q (match_ordering r (k ∷ x ∷ xs) (x ∷ xs) (x ∷ insert_key R xs k)) ≡ (eq_by_cmp R q k || has q (x ∷ xs))
  has-insert_at q k x xs more Less is = refl
  has-insert_at q k x xs more Equal is =
      or_twice (eq_by_cmp R q x) (has q xs) ∙ ap (λ (z : K). eq_by_cmp R q z || has q (x ∷ xs)) (sym (exact k x is))
  has-insert_at q k x xs more Greater is =
      ap (λ (b : Bool). eq_by_cmp R q x || b) more ∙ or_swap (eq_by_cmp R q x) (eq_by_cmp R q k) (has q xs)

  has-insert : (q k : K) (xs : List K) → has q (insert_key R xs k) ≡ (eq_by_cmp R q k || has q xs)
  has-insert q k [] = refl
  has-insert q k (x ∷ xs) = has-insert_at q k x xs (has-insert q k xs) (R k x) refl

  has-fold : (q : K) (xs acc : List K) → has q (fold (insert_key R) acc xs) ≡ (has q acc || has q xs)
  has-fold q [] acc = sym (or_false (has q acc))
  has-fold q (x ∷ xs) acc =
      has-fold q xs (insert_key R acc x) ∙ ap (λ (b : Bool). b || has q xs) (has-insert q x acc)
      ∙ or_move (eq_by_cmp R q x) (has q acc) (has q xs)

  -- a strictly sorted list of what some elements are is the list to which these were added one by one
  pub sorted : (ys xs : List K) → IsStrictlySortedBy R ys → ((k : K) → has k ys ≡ has k xs) → ys ≡ fold (insert_key R) [] xs
  sorted ys xs rising same = unique ys (fold (insert_key R) [] xs) rising (rising-fold R o xs [] (rising-none R o)) (λ k. same k ∙ sym (has-fold k xs []))

  -- lists that contain the same, added one by one, are one
  pub same_fold : (xs ys : List K) → ((k : K) → has k xs ≡ has k ys) → fold (insert_key R) [] xs ≡ fold (insert_key R) [] ys
  same_fold xs ys same = sorted (fold (insert_key R) [] xs) ys (rising-fold R o xs [] (rising-none R o)) (λ k. has-fold k xs [] ∙ same k)
