-- Counting what a plan gives: as often as it is free, and in no other place.
use Rattle.std.proofs.Common.{◌≡◌, ℕ, ◌+◌, ◌<◌, ◌≤◌, Bool, true, false, ◌&&◌, ◌||◌, cond, List, [], ◌∷◌, ◌++◌, length, map, refl, sym, ap, ◌∙◌, subst, arith, ltb, nat_le}
use Rattle.std.specs.List.{list_any, list_all, fold, filter, flat_map, count_by, IsDistinct, AllByRecursion}
use Rattle.std.proofs.lemmas.List.Sums.{sum_by-cons, sum_by-append}
use Rattle.std.proofs.lemmas.Map.Keys.{IsDistinct-head, IsDistinct-tail}
use Rattle.std.proofs.lemmas.Bool.Decides.{nat_tests}
use Rattle.cw_types.specs.declared.ids.Item.{Item}
use Rattle.cw_types.specs.declared.ids.Item.TheVariants.{Connector, Task}
use Rattle.cw_assign.specs.declared.items.Kind.TheVariants.{Connectors, Tasks}
use Rattle.cw_assign.specs.declared.share.Holder.{Holder}
use Rattle.cw_assign.specs.Items.{same_item, has, is_of}
use Rattle.cw_assign.specs.Plan.{Hand, load_of, give, shares_of}
use Rattle.cw_assign.specs.Valid.{fresh_in}
use Rattle.cw_assign.proofs.ItemLemmas.{same_item-Decides}
use Rattle.cw_assign.proofs.Dealing.{with_item, length-give}

abbrev pub fresh_of : Hand → List Item
fresh_of hand = hand.fresh

abbrev pub digit : Bool → ℕ
digit b = cond b 1 0

-- 1 for an item that passes
abbrev pub one : (Item → Bool) → Item → ℕ
one q x = cond (q x) 1 0

module _ (q : Item → Bool) where
  pub count-cons : (x : Item) (xs : List Item) → count_by q (x ∷ xs) ≡ one q x + count_by q xs
  count-cons x xs = sum_by-cons (one q) x xs

  pub count-append : (xs ys : List Item) → count_by q (xs ++ ys) ≡ count_by q xs + count_by q ys
  count-append xs ys = sum_by-append (one q) xs ys

  pub count-push : (xs : List Item) (x : Item) → count_by q (xs ++ x ∷ []) ≡ count_by q xs + one q x
  count-push xs x = count-append xs (x ∷ []) ∙ ap (λ n. count_by q xs + n) (count-cons x [] ∙ omega arith)

  -- what hands were given
  abbrev pub dealt : List Hand → ℕ
  dealt hands = count_by q (flat_map fresh_of hands)

  dealt-cons : (h : Hand) (hs : List Hand) → dealt (h ∷ hs) ≡ count_by q h.fresh + dealt hs
  dealt-cons h hs = count-append h.fresh (flat_map fresh_of hs)

  dealt-cond : (b : Bool) (xs ys : List Hand) (n : ℕ) → (b ≡ true → dealt xs ≡ n) → (b ≡ false → dealt ys ≡ n) → dealt (cond b xs ys) ≡ n
  dealt-cond true xs ys n e f = e refl
  dealt-cond false xs ys n e f = f refl

  dealt-give : (h : Hand) (hs : List Hand) (x : Item) → dealt (give (h ∷ hs) x) ≡ dealt (h ∷ hs) + one q x
  dealt-give h [] x =
      dealt-cons (with_item x h) [] ∙ omega (arith, count-push h.fresh x, dealt-cons h [])
  dealt-give h (k ∷ hs) x =
      dealt-cond (list_all (λ other. nat_le (load_of h) (load_of other)) (k ∷ hs)) (with_item x h ∷ k ∷ hs) (h ∷ give (k ∷ hs) x) (dealt (h ∷ k ∷ hs) + one q x)
      (λ _. omega (arith, dealt-cons (with_item x h) (k ∷ hs), count-push h.fresh x, dealt-cons h (k ∷ hs)))
      (λ _. omega (arith, dealt-cons h (give (k ∷ hs) x), dealt-give k hs x, dealt-cons h (k ∷ hs)))

  dealt-give_some : (hands : List Hand) (x : Item) → 0 < length hands → dealt (give hands x) ≡ dealt hands + one q x
  dealt-give_some [] x some = absurd (omega arith)
  dealt-give_some (h ∷ hs) x some = dealt-give h hs x

  pub dealt-deal : (hands : List Hand) (xs : List Item) → 0 < length hands → dealt (fold give hands xs) ≡ dealt hands + count_by q xs
  dealt-deal hands [] some = omega arith
  dealt-deal hands (x ∷ xs) some =
      omega (arith, dealt-deal (give hands x) xs (omega (arith, length-give hands x, some)), dealt-give_some hands x some, count-cons x xs)

  -- hands that were given nothing
  pub dealt-none : (f : Holder → List Item) (members : List Holder) → dealt (map (λ m. record { kept = f m; fresh = [] }) members) ≡ 0
  dealt-none f [] = refl
  dealt-none f (m ∷ members) = dealt-none f members

  -- what shares give is what the hands of both classes were given
  pub dealt-shares : (members : List Holder) (cs ts : List Hand) → length cs ≡ length members → length ts ≡ length members
      → count_by q (fresh_in (shares_of members cs ts)) ≡ dealt cs + dealt ts
  dealt-shares [] [] [] e f = refl
  dealt-shares [] [] (t ∷ ts) e f = absurd (omega arith)
  dealt-shares [] (c ∷ cs) ts e f = absurd (omega arith)
  dealt-shares (m ∷ members) [] ts e f = absurd (omega arith)
  dealt-shares (m ∷ members) (c ∷ cs) [] e f = absurd (omega arith)
  dealt-shares (m ∷ members) (c ∷ cs) (t ∷ ts) e f =
      omega (
        arith,
        count-append (c.fresh ++ t.fresh) (fresh_in (shares_of members cs ts)),
        count-append c.fresh t.fresh,
        dealt-shares members cs ts (omega arith) (omega arith),
        dealt-cons c cs,
        dealt-cons t ts,
      )

  -- an item is of one class
  pub count-classes : (f : Item → Bool) (xs : List Item) → count_by q (filter (λ x. is_of Connectors x && f x) xs) + count_by q (filter (λ x. is_of Tasks x && f x) xs) ≡ count_by q (filter f xs)
  count-classes f [] = refl
  count-classes f (Connector a ∷ xs) = first (f (Connector a)) (count-classes f xs) where
    first : (b : Bool) → count_by q (filter (λ x. is_of Connectors x && f x) xs) + count_by q (filter (λ x. is_of Tasks x && f x) xs) ≡ count_by q (filter f xs) → count_by q (cond b (Connector a ∷ filter (λ x. is_of Connectors x && f x) xs) (filter (λ x. is_of Connectors x && f x) xs)) + count_by q (filter (λ x. is_of Tasks x && f x) xs) ≡ count_by q (cond b (Connector a ∷ filter f xs) (filter f xs))
    first true rest = omega (arith, count-cons (Connector a) (filter (λ x. is_of Connectors x && f x) xs), count-cons (Connector a) (filter f xs), rest)
    first false rest = rest
  count-classes f (Task a ∷ xs) = first (f (Task a)) (count-classes f xs) where
    first : (b : Bool) → count_by q (filter (λ x. is_of Connectors x && f x) xs) + count_by q (filter (λ x. is_of Tasks x && f x) xs) ≡ count_by q (filter f xs) → count_by q (filter (λ x. is_of Connectors x && f x) xs) + count_by q (cond b (Task a ∷ filter (λ x. is_of Tasks x && f x) xs) (filter (λ x. is_of Tasks x && f x) xs)) ≡ count_by q (cond b (Task a ∷ filter f xs) (filter f xs))
    first true rest = omega (arith, count-cons (Task a) (filter (λ x. is_of Tasks x && f x) xs), count-cons (Task a) (filter f xs), rest)
    first false rest = rest

  -- some item passes exactly where their count isn't 0
  pub list_any-count : (xs : List Item) → list_any q xs ≡ ltb 0 (count_by q xs)
  list_any-count [] = refl
  list_any-count (x ∷ xs) = any (q x) refl (list_any-count xs) where
    any : (b : Bool) → q x ≡ b → list_any q xs ≡ ltb 0 (count_by q xs) → (b || list_any q xs) ≡ ltb 0 (count_by q (x ∷ xs))
    any true is rest = sym (above (count_by q (x ∷ xs)) (omega (arith, count-cons x xs, ap digit is))) where
      above : (n : ℕ) → 0 < n → ltb 0 n ≡ true
      above n h = grind (arith, nat_tests)
    any false is rest = rest ∙ ap (λ n. ltb 0 n) (omega (arith, count-cons x xs, ap digit is))

-- two lists with the same counts have the same items
pub has-count : (xs ys : List Item) → ((q : Item → Bool) → count_by q xs ≡ count_by q ys) → (x : Item) → has xs x ≡ has ys x
has-count xs ys same x = list_any-count (λ y. same_item x y) xs ∙ ap (λ n. ltb 0 n) (same (λ y. same_item x y)) ∙ sym (list_any-count (λ y. same_item x y) ys)

none : (x : Item) (xs : List Item) → AllByRecursion (λ y. same_item x y ≡ false) xs → count_by (λ y. same_item x y) xs ≡ 0
none x [] apart = refl
none x (y ∷ ys) apart = omega (arith, count-cons (λ z. same_item x z) y ys, none x ys apart.1, ap digit apart.0)

none_back : (x : Item) (xs : List Item) → count_by (λ y. same_item x y) xs ≡ 0 → AllByRecursion (λ y. same_item x y ≡ false) xs
none_back x [] zero_is = tt
none_back x (y ∷ ys) zero_is = (no (same_item x y) refl, none_back x ys (omega (arith, count-cons (λ z. same_item x z) y ys, zero_is))) where
  no : (b : Bool) → same_item x y ≡ b → same_item x y ≡ false
  no false is = is
  no true is = absurd (omega (arith, count-cons (λ z. same_item x z) y ys, zero_is, ap digit is))

same_self : (x : Item) → same_item x x ≡ true
same_self x = (same_item-Decides x x).1 refl

-- distinct items come at most once
pub once : (x : Item) (xs : List Item) → IsDistinct same_item xs → count_by (λ y. same_item x y) xs ≤ 1
once x [] distinct = omega arith
once x (y ∷ ys) distinct = pick (same_item x y) refl (once x ys (IsDistinct-tail same_item y ys distinct)) where
  pick : (b : Bool) → same_item x y ≡ b → count_by (λ z. same_item x z) ys ≤ 1 → count_by (λ z. same_item x z) (y ∷ ys) ≤ 1
  pick false is rest = omega (arith, count-cons (λ z. same_item x z) y ys, rest, ap digit is)
  pick true is most =
      let same : x ≡ y = (same_item-Decides x y).0 is in
      let rest : count_by (λ z. same_item y z) ys ≡ 0 = none y ys (IsDistinct-head same_item y ys distinct) in
      let rest' = subst (λ (w : Item). count_by (λ z. same_item w z) ys ≡ 0) (sym same) rest in
      omega (arith, count-cons (λ z. same_item x z) y ys, rest', ap digit is)

-- items that come at most once are distinct
pub distinct_from_once : (xs : List Item) → ((x : Item) → count_by (λ y. same_item x y) xs ≤ 1) → IsDistinct same_item xs
unfolding IsDistinct
distinct_from_once [] most = tt
distinct_from_once (x ∷ xs) most = (
  none_back x xs (omega (arith, count-cons (λ z. same_item x z) x xs, most x, ap digit (same_self x))),
  distinct_from_once xs (λ y. omega (arith, count-cons (λ z. same_item y z) x xs, most y)),
)
