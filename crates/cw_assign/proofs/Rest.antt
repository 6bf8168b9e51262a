-- With the second of two plans a group has come to rest.
use Rattle.std.proofs.Common.{◌≡◌, ℕ, zero, suc, ◌+◌, ◌/◌, ◌<◌, ◌≤◌, Bool, true, false, not, ◌&&◌, ◌||◌, cond, List, [], ◌∷◌, ◌++◌, length, map, take, refl, sym, ap, ◌∙◌, subst, arith, ltb}
use Rattle.std.specs.List.{filter, flat_map, count_by, AllByRecursion, IsDistinct}
use Rattle.std.specs.List.Sorted.{IsStrictlySortedBy}
use Rattle.std.proofs.lemmas.List.Sums.{length-filter}
use Rattle.std.proofs.lemmas.List.Folds.{list_any-append}
use Rattle.std.proofs.lemmas.List.Kept.{IsStrictlySortedBy-filter}
use Rattle.std.proofs.lemmas.Map.Keys.{IsDistinct-from_sorted}
use Rattle.std.proofs.lemmas.Bool.Decides.{nat_tests}
use Rattle.cw_types.specs.declared.ids.Item.{Item}
use Rattle.cw_types.specs.declared.ids.Item.TheVariants.{Connector, Task}
use Rattle.cw_types.specs.Order.{item_cmp}
use Rattle.cw_assign.specs.declared.items.Kind.{Kind}
use Rattle.cw_assign.specs.declared.items.Kind.TheVariants.{Connectors, Tasks}
use Rattle.cw_assign.specs.declared.share.Share.{Share}
use Rattle.cw_assign.specs.declared.share.Holder.{Holder}
use Rattle.cw_assign.specs.Items.{same_item, has, is_of, of_kind}
use Rattle.cw_assign.specs.Quota.{quota}
use Rattle.cw_assign.specs.Plan.{Hand, load_of, own, standing_of, kept_of, class_hands, held_by, share_of, shares_of, plan_of}
use Rattle.cw_assign.specs.Valid.{fresh_in}
use Rattle.cw_assign.specs.Settled.{given_by, share_load, HoldWhatWasGiven, IsReady, IsSettled}
use Rattle.cw_assign.proofs.ItemLemmas.{same_item-Decides}
use Rattle.cw_assign.proofs.PlanLemmas.{length-hands}
use Rattle.cw_assign.proofs.Counts.{count-append, count-cons, count-classes, list_any-count, has-count, once, distinct_from_once}
use Rattle.cw_assign.proofs.Validity.{AreKept, hands_kept, free, given_count, has-filter}
use Rattle.cw_assign.proofs.Settling.{AtLeast}
use Rattle.cw_assign.proofs.TwoPlans.{Each, HandOwn, AllTook, own_hands, pick_hand, of_both, count_both, has_each, count_each, count_none}
use Rattle.cw_assign.proofs.Settles.{took, some_second, keeps, stood, all, final_least, final_most}

pass : (p : Item → Bool) (xs : List Item) → Each p xs → filter (λ x. not (p x)) xs ≡ []
pass p [] e = refl
pass p (x ∷ xs) e = pick (p x) e.0 (pass p xs e.1) where
  pick : (b : Bool) → b ≡ true → filter (λ y. not (p y)) xs ≡ [] → cond (not b) (x ∷ filter (λ y. not (p y)) xs) (filter (λ y. not (p y)) xs) ≡ []
  pick true is rest = rest
  pick false is rest = cc

keep_all : (p : Item → Bool) (xs : List Item) → Each p xs → filter p xs ≡ xs
keep_all p [] e = refl
keep_all p (x ∷ xs) e = pick (p x) e.0 (keep_all p xs e.1) where
  pick : (b : Bool) → b ≡ true → filter p xs ≡ xs → cond b (x ∷ filter p xs) (filter p xs) ≡ x ∷ xs
  pick true is rest = ap (λ (ys : List Item). x ∷ ys) rest
  pick false is rest = cc

count-take : (p : Item → Bool) (n : ℕ) (xs : List Item) → count_by p (take n xs) ≤ count_by p xs
count-take p zero xs = omega arith
count-take p (suc n) [] = omega arith
count-take p (suc n) (x ∷ xs) = omega (arith, count-cons p x (take n xs), count-cons p x xs, count-take p n xs)

count-filter : (p f : Item → Bool) (xs : List Item) → count_by p (filter f xs) ≤ count_by p xs
count-filter p f [] = omega arith
count-filter p f (x ∷ xs) = pick (f x) (count-filter p f xs) where
  pick : (b : Bool) → count_by p (filter f xs) ≤ count_by p xs → count_by p (cond b (x ∷ filter f xs) (filter f xs)) ≤ count_by p (x ∷ xs)
  pick true rest = omega (arith, count-cons p x (filter f xs), count-cons p x xs, rest)
  pick false rest = omega (arith, count-cons p x xs, rest)

has_none : (x : Item) (xs : List Item) → has xs x ≡ false → count_by (λ y. same_item x y) xs ≡ 0
has_none x xs e = zero_is (count_by (λ y. same_item x y) xs) (sym (list_any-count (λ y. same_item x y) xs) ∙ e) where
  zero_is : (n : ℕ) → ltb 0 n ≡ false → n ≡ 0
  zero_is n h = grind (arith, nat_tests)

-- an item that is held isn't given, and each is held and given once at most
at_most_once : (configured held : List Item) (f : Item → Bool) → IsStrictlySortedBy item_cmp configured → IsDistinct same_item held → ((x : Item) → has held x ≡ true → f x ≡ false)
    → (x : Item) (n : ℕ) → n ≤ count_by (λ y. same_item x y) held → n + count_by (λ y. same_item x y) (filter f configured) ≤ 1
at_most_once configured held f rising apart not_held x n few = pick (has held x) refl where
  given : count_by (λ y. same_item x y) (filter f configured) ≤ 1
  given = once x (filter f configured) (IsDistinct-from_sorted item_cmp (filter f configured) (IsStrictlySortedBy-filter item_cmp f configured rising))

  pick : (b : Bool) → has held x ≡ b → n + count_by (λ y. same_item x y) (filter f configured) ≤ 1
  pick true is = omega (arith, few, once x held apart, has_none x (filter f configured) (none_there (has configured x) (f x) (not_held x is) (has-filter f configured x))) where
    none_there : (a b : Bool) → b ≡ false → has (filter f configured) x ≡ (a && b) → has (filter f configured) x ≡ false
    none_there true b e g = g ∙ e
    none_there false b e g = g
  pick false is = omega (arith, few, has_none x held is, given)

module _ (configured : List Item) where
  -- counting what a plan leaves the members with
  sums : (p : Item → Bool) (ms : List Holder) (cs ts : List Hand) → length cs ≡ length ms → length ts ≡ length ms
      → count_by p (flat_map given_by (shares_of ms cs ts)) ≡ count_by p (flat_map (λ s. s.kept) (shares_of ms cs ts)) + count_by p (fresh_in (shares_of ms cs ts))
  sums p [] [] [] e g = refl
  sums p [] [] (t ∷ ts) e g = absurd (omega arith)
  sums p [] (c ∷ cs) ts e g = absurd (omega arith)
  sums p (m ∷ ms) [] ts e g = absurd (omega arith)
  sums p (m ∷ ms) (c ∷ cs) [] e g = absurd (omega arith)
  sums p (m ∷ ms) (c ∷ cs) (t ∷ ts) e g =
      omega (
        arith,
        count-append p (of_both configured c t) (flat_map given_by (shares_of ms cs ts)),
        count-append p (c.kept ++ t.kept) (c.fresh ++ t.fresh),
        count-append p (c.kept ++ t.kept) (flat_map (λ s. s.kept) (shares_of ms cs ts)),
        count-append p (c.fresh ++ t.fresh) (fresh_in (shares_of ms cs ts)),
        sums p ms cs ts (omega arith) (omega arith),
      )

  held_sum : (p : Item → Bool) (cs ts : List Hand) (ms first : List Holder) → AllTook configured cs ts ms → length first ≡ length ms → count_by p (held_by ms) ≡ count_by p (flat_map given_by (shares_of first cs ts))
  held_sum p [] [] [] [] took e = refl
  held_sum p [] [] [] (n ∷ first) took e = absurd (omega arith)
  held_sum p [] [] (m ∷ ms) first took e = absurd took
  held_sum p [] (t ∷ ts) ms first took e = absurd took
  held_sum p (c ∷ cs) [] ms first took e = absurd took
  held_sum p (c ∷ cs) (t ∷ ts) [] first took e = absurd took
  held_sum p (c ∷ cs) (t ∷ ts) (m ∷ ms) [] took e = absurd (omega arith)
  held_sum p (c ∷ cs) (t ∷ ts) (m ∷ ms) (n ∷ first) took e =
      omega (arith, count-append p m.held (held_by ms), count-append p (of_both configured c t) (flat_map given_by (shares_of first cs ts)), took.0.counts p, held_sum p cs ts ms first took.1 (omega arith))

  module _ (members : List Holder) where
    abbrev keeps_of : Kind → Holder → List Item
    keeps_of kind m = kept_of kind members (length (of_kind kind configured)) (has configured) false m

    kept_few : (p : Item → Bool) (kind : Kind) (m : Holder) → count_by p (keeps_of kind m) ≤ count_by p (own kind (has configured) m.held)
    kept_few p kind m = count-take p (quota (length (of_kind kind configured)) (map (standing_of kind (has configured)) members) (standing_of kind (has configured) m)) (own kind (has configured) m.held)

    -- what is kept is held
    kept_sum : (p : Item → Bool) (ms : List Holder) (cs ts : List Hand) → AreKept (keeps_of Connectors) ms cs → AreKept (keeps_of Tasks) ms ts
        → count_by p (flat_map (λ s. s.kept) (shares_of ms cs ts)) ≤ count_by p (held_by ms)
    kept_sum p [] [] [] e g = omega arith
    kept_sum p [] [] (t ∷ ts) e g = elim g [ ]
    kept_sum p [] (c ∷ cs) ts e g = elim e [ ]
    kept_sum p (m ∷ ms) [] ts e g = elim e [ ]
    kept_sum p (m ∷ ms) (c ∷ cs) [] e g = elim g [ ]
    kept_sum p (m ∷ ms) (c ∷ cs) (t ∷ ts) e g =
        omega (
          arith,
          count-append p (c.kept ++ t.kept) (flat_map (λ s. s.kept) (shares_of ms cs ts)),
          count-append p c.kept t.kept,
          count-append p m.held (held_by ms),
          kept_sum p ms cs ts e.1 g.1,
          ap (count_by p) e.0,
          ap (count_by p) g.0,
          kept_few p Connectors m,
          kept_few p Tasks m,
          count-classes p (has configured) m.held,
          count-filter p (has configured) m.held,
        )

  -- what all is kept of
  module _ (members : List Holder) where
    Kept : Kind → Holder → Type 0
    Kept kind m = kept_of kind members (length (of_kind kind configured)) (has configured) false m ≡ own kind (has configured) m.held

    all_kept : (p : Item → Bool) (ms : List Holder) (cs ts : List Hand) → AreKept (keeps_of members Connectors) ms cs → AreKept (keeps_of members Tasks) ms ts
        → AllByRecursion (λ m. keeps_of members Connectors m ≡ own Connectors (has configured) m.held) ms → AllByRecursion (λ m. keeps_of members Tasks m ≡ own Tasks (has configured) m.held) ms
        → AllByRecursion (λ m. Each (has configured) m.held) ms → count_by p (flat_map (λ s. s.kept) (shares_of ms cs ts)) ≡ count_by p (held_by ms)
    all_kept p [] [] [] e g kc kt known = refl
    all_kept p [] [] (t ∷ ts) e g kc kt known = elim g [ ]
    all_kept p [] (c ∷ cs) ts e g kc kt known = elim e [ ]
    all_kept p (m ∷ ms) [] ts e g kc kt known = elim e [ ]
    all_kept p (m ∷ ms) (c ∷ cs) [] e g kc kt known = elim g [ ]
    all_kept p (m ∷ ms) (c ∷ cs) (t ∷ ts) e g kc kt known =
        omega (
          arith,
          count-append p (c.kept ++ t.kept) (flat_map (λ s. s.kept) (shares_of ms cs ts)),
          count-append p c.kept t.kept,
          count-append p m.held (held_by ms),
          all_kept p ms cs ts e.1 g.1 kc.1 kt.1 known.1,
          ap (count_by p) (e.0 ∙ kc.0),
          ap (count_by p) (g.0 ∙ kt.0),
          count-classes p (has configured) m.held,
          ap (count_by p) (keep_all (has configured) m.held known.0),
        )

    own_has : (held : List Item) (x : Item) → has held x ≡ true → has configured x ≡ true → has (own Connectors (has configured) held ++ own Tasks (has configured) held) x ≡ true
    own_has held x there known = has-count (own Connectors (has configured) held ++ own Tasks (has configured) held) (filter (has configured) held)
        (λ p. count-append p (own Connectors (has configured) held) (own Tasks (has configured) held) ∙ count-classes p (has configured) held) x ∙ has-filter (has configured) held x ∙ two (has held x) (has configured x) there known where
          two : (a b : Bool) → a ≡ true → b ≡ true → (a && b) ≡ true
          two true b u v = v
          two false b u v = cc

    none_revoked : (ms : List Holder) (cs ts : List Hand) → AreKept (keeps_of members Connectors) ms cs → AreKept (keeps_of members Tasks) ms ts
        → AllByRecursion (λ m. keeps_of members Connectors m ≡ own Connectors (has configured) m.held) ms → AllByRecursion (λ m. keeps_of members Tasks m ≡ own Tasks (has configured) m.held) ms
        → AllByRecursion (λ m. Each (has configured) m.held) ms → AllByRecursion (λ s. s.revoked ≡ []) (shares_of ms cs ts)
    none_revoked [] [] [] e g kc kt known = tt
    none_revoked [] [] (t ∷ ts) e g kc kt known = elim g [ ]
    none_revoked [] (c ∷ cs) ts e g kc kt known = elim e [ ]
    none_revoked (m ∷ ms) [] ts e g kc kt known = elim e [ ]
    none_revoked (m ∷ ms) (c ∷ cs) [] e g kc kt known = elim g [ ]
    none_revoked (m ∷ ms) (c ∷ cs) (t ∷ ts) e g kc kt known = (
      ap (λ (k : List Item). filter (λ x. not (has (k ++ t.kept) x)) m.held) (e.0 ∙ kc.0) ∙ ap (λ (k : List Item). filter (λ x. not (has (own Connectors (has configured) m.held ++ k) x)) m.held) (g.0 ∙ kt.0)
          ∙ pass (has (own Connectors (has configured) m.held ++ own Tasks (has configured) m.held)) m.held (there m.held (has_each m.held) known.0),
      none_revoked ms cs ts e.1 g.1 kc.1 kt.1 known.1,
    ) where
      there : (xs : List Item) → Each (has m.held) xs → Each (has configured) xs → Each (has (own Connectors (has configured) m.held ++ own Tasks (has configured) m.held)) xs
      there [] u v = tt
      there (x ∷ xs) u v = (own_has m.held x u.0 v.0, there xs u.1 v.1)

  all_known : (cs ts : List Hand) (ms : List Holder) → AllTook configured cs ts ms → AllByRecursion (λ m. Each (has configured) m.held) ms
  all_known [] [] [] taken = tt
  all_known [] [] (m ∷ ms) taken = absurd taken
  all_known [] (t ∷ ts) ms taken = absurd taken
  all_known (c ∷ cs) [] ms taken = absurd taken
  all_known (c ∷ cs) (t ∷ ts) [] taken = absurd taken
  all_known (c ∷ cs) (t ∷ ts) (m ∷ ms) taken = (taken.0.known, all_known cs ts ms taken.1)

  known_held : (ms : List Holder) → AllByRecursion (λ m. Each (has configured) m.held) ms → (x : Item) → has (held_by ms) x ≡ true → has configured x ≡ true
  known_held [] known x e = cc
  known_held (m ∷ ms) known x e = pick (has m.held x) refl (known_held ms known.1 x) where
    find_in : (xs : List Item) → Each (has configured) xs → has xs x ≡ true → has configured x ≡ true
    find_in [] k e = cc
    find_in (y ∷ ys) k e = choose (same_item x y) refl e (find_in ys k.1) where
      choose : (b : Bool) → same_item x y ≡ b → (b || has ys x) ≡ true → (has ys x ≡ true → has configured x ≡ true) → has configured x ≡ true
      choose true is e rest = ap (has configured) ((same_item-Decides x y).0 is) ∙ k.0
      choose false is e rest = rest e

    behind : (a b : Bool) → (a || b) ≡ true → a ≡ false → b ≡ true
    behind true b u v = cc
    behind false b u v = u

    pick : (b : Bool) → has m.held x ≡ b → (has (held_by ms) x ≡ true → has configured x ≡ true) → has configured x ≡ true
    pick true is rest = find_in m.held known.0 is
    pick false is rest = rest (behind (has m.held x) (has (held_by ms) x) (sym (list_any-append (λ y. same_item x y) m.held (held_by ms)) ∙ e) is)

  -- loads of shares
  same_load : (kind : Kind) (c t : Hand) (m : Holder) → HandOwn configured Connectors c → HandOwn configured Tasks t → share_load kind (share_of m c t) ≡ load_of (pick_hand configured kind c t)
  same_load kind c t m e g = length-filter (is_of kind) (of_both configured c t) ∙ count_both configured (is_of kind) c t ∙ by_kind kind where
    is_one : (k : Kind) (x : Item) → (is_of k x && has configured x) ≡ true → is_of k x ≡ true
    is_one k x h = and_first (is_of k x) (has configured x) h where
      and_first : (a b : Bool) → (a && b) ≡ true → a ≡ true
      and_first true b u = refl
      and_first false b u = cc

    weaker : (p p' : Item → Bool) → ((x : Item) → p x ≡ true → p' x ≡ true) → (xs : List Item) → Each p xs → Each p' xs
    weaker p p' w [] u = tt
    weaker p p' w (x ∷ xs) u = (w x u.0, weaker p p' w xs u.1)

    not_tasks : (x : Item) → (is_of Tasks x && has configured x) ≡ true → is_of Connectors x ≡ false
    not_tasks (Connector a) h = cc
    not_tasks (Task a) h = refl

    not_connectors : (x : Item) → (is_of Connectors x && has configured x) ≡ true → is_of Tasks x ≡ false
    not_connectors (Connector a) h = refl
    not_connectors (Task a) h = cc

    whole : (k : Kind) (xs : List Item) → Each (λ x. is_of k x && has configured x) xs → count_by (is_of k) xs ≡ length xs
    whole k xs u = count_each (is_of k) xs (weaker (λ x. is_of k x && has configured x) (is_of k) (is_one k) xs u)

    by_kind : (k : Kind) → (count_by (is_of k) c.kept + count_by (is_of k) t.kept) + (count_by (is_of k) c.fresh + count_by (is_of k) t.fresh) ≡ load_of (pick_hand configured k c t)
    by_kind Connectors = omega (arith, whole Connectors c.kept e.0, whole Connectors c.fresh e.1, count_none (is_of Connectors) (λ x. is_of Tasks x && has configured x) not_tasks t.kept g.0, count_none (is_of Connectors) (λ x. is_of Tasks x && has configured x) not_tasks t.fresh g.1)
    by_kind Tasks = omega (arith, whole Tasks t.kept g.0, whole Tasks t.fresh g.1, count_none (is_of Tasks) (λ x. is_of Connectors x && has configured x) not_connectors c.kept e.0, count_none (is_of Tasks) (λ x. is_of Connectors x && has configured x) not_connectors c.fresh e.1)

  share_bounds : (kind : Kind) (n : ℕ) (ms : List Holder) (cs ts : List Hand) → AllByRecursion (HandOwn configured Connectors) cs → AllByRecursion (HandOwn configured Tasks) ts
      → AtLeast n (elim kind as (λ _. List Hand) [ Connectors ↦ cs | Tasks ↦ ts ]) → AllByRecursion (λ h. load_of h ≤ n + 1) (elim kind as (λ _. List Hand) [ Connectors ↦ cs | Tasks ↦ ts ])
      → AllByRecursion (λ s. (n ≤ share_load kind s) × (share_load kind s ≤ n + 1)) (shares_of ms cs ts)
  share_bounds kind n [] cs ts e g least most = tt
  share_bounds kind n (m ∷ ms) [] ts e g least most = tt
  share_bounds kind n (m ∷ ms) (c ∷ cs) [] e g least most = tt
  share_bounds Connectors n (m ∷ ms) (c ∷ cs) (t ∷ ts) e g least most =
      ((omega (arith, same_load Connectors c t m e.0 g.0, least.0), omega (arith, same_load Connectors c t m e.0 g.0, most.0)), share_bounds Connectors n ms cs ts e.1 g.1 least.1 most.1)
  share_bounds Tasks n (m ∷ ms) (c ∷ cs) (t ∷ ts) e g least most =
      ((omega (arith, same_load Tasks c t m e.0 g.0, least.0), omega (arith, same_load Tasks c t m e.0 g.0, most.0)), share_bounds Tasks n ms cs ts e.1 g.1 least.1 most.1)

evens : (kind : Kind) (n : ℕ) (ss all : List Share) → AllByRecursion (λ s. (n ≤ share_load kind s) × (share_load kind s ≤ n + 1)) ss → AllByRecursion (λ s. (n ≤ share_load kind s) × (share_load kind s ≤ n + 1)) all
    → AllByRecursion (λ s. AllByRecursion (λ o. share_load kind s ≤ share_load kind o + 1) all) ss
evens kind n [] all e g = tt
evens kind n (s ∷ ss) all e g = (each all g, evens kind n ss all e.1 g) where
  each : (os : List Share) → AllByRecursion (λ o. (n ≤ share_load kind o) × (share_load kind o ≤ n + 1)) os → AllByRecursion (λ o. share_load kind s ≤ share_load kind o + 1) os
  each [] h = tt
  each (o ∷ os) h = (omega (arith, e.0.1, h.0.0), each os h.1)

module _ (members second : List Holder) (configured lost later : List Item) (some : 0 < length members) (ready : IsReady members configured)
    (held : HoldWhatWasGiven (plan_of members configured lost false).shares second) where
  abbrev C : List Hand
  C = class_hands Connectors members configured lost false

  abbrev T : List Hand
  T = class_hands Tasks members configured lost false

  got : AllTook configured C T second
  got = took members second configured lost later some ready held

  many : (ms : List Holder) (gone : List Item) (kind : Kind) → length (class_hands kind ms configured gone false) ≡ length ms
  many ms gone kind = length-hands kind ms configured (has configured) (has (held_by ms)) (has gone) false (class_hands kind ms configured gone false) refl

  unheld : (ms : List Holder) (gone : List Item) (x : Item) → has (held_by ms) x ≡ true → free ms configured gone false x ≡ false
  unheld ms gone x e = ap (λ b. not b && true) e

  same_length : length members ≡ length second
  same_length = lengths C T second got (many members lost Connectors) where
    lengths : (cs ts : List Hand) (ms : List Holder) → AllTook configured cs ts ms → length cs ≡ length members → length members ≡ length ms
    lengths cs ts ms took e = sym e ∙ one cs ts ms took where
      one : (cs ts : List Hand) (ms : List Holder) → AllTook configured cs ts ms → length cs ≡ length ms
      one [] [] [] took = refl
      one [] [] (m ∷ ms) took = absurd took
      one [] (t ∷ ts) ms took = absurd took
      one (c ∷ cs) [] ms took = absurd took
      one (c ∷ cs) (t ∷ ts) [] took = absurd took
      one (c ∷ cs) (t ∷ ts) (m ∷ ms) took = ap suc (one cs ts ms took.1)

  held_apart : IsDistinct same_item (held_by second)
  held_apart = distinct_from_once (held_by second) (λ x. few x) where
    few : (x : Item) → count_by (λ y. same_item x y) (held_by second) ≤ 1
    few x =
        let p = λ (y : Item). same_item x y in
        let kept : count_by (λ y. same_item x y) (flat_map (λ s. s.kept) (shares_of members C T)) ≤ count_by (λ y. same_item x y) (held_by members) =
        kept_sum configured members p members C T (hands_kept members configured lost false Connectors) (hands_kept members configured lost false Tasks) in
        omega (
          arith,
          held_sum configured p C T second members got same_length,
          sums configured p members C T (many members lost Connectors) (many members lost Tasks),
          given_count members configured lost false some p,
          at_most_once configured (held_by members) (free members configured lost false) ready.rising ready.apart (unheld members lost) x (count_by p (flat_map (λ s. s.kept) (shares_of members C T))) kept,
        )

  abbrev second_connectors : List Hand
  second_connectors = class_hands Connectors second configured later false

  abbrev second_tasks : List Hand
  second_tasks = class_hands Tasks second configured later false

  some2 : 0 < length second
  some2 = some_second members second configured lost later some ready held

  known : AllByRecursion (λ m. Each (has configured) m.held) second
  known = all_known configured C T second got

  given_sum : (p : Item → Bool) → count_by p (flat_map given_by (shares_of second second_connectors second_tasks)) ≡ count_by p (held_by second) + count_by p (filter (free second configured later false) configured)
  given_sum p = sums configured p second second_connectors second_tasks (many second later Connectors) (many second later Tasks)
      ∙ ap (λ (n : ℕ). n + count_by p (fresh_in (shares_of second second_connectors second_tasks))) (all_kept configured second p second second_connectors second_tasks (hands_kept second configured later false Connectors) (hands_kept second configured later false Tasks)
      (keeps members second configured lost later some ready held Connectors) (keeps members second configured lost later some ready held Tasks) known)
      ∙ ap (λ (n : ℕ). count_by p (held_by second) + n) (given_count second configured later false some2 p)

  bounds : (kind : Kind) → AllByRecursion (λ s. (all members second configured lost later some ready held kind / length (stood members second configured lost later some ready held kind) ≤ share_load kind s)
      × (share_load kind s ≤ all members second configured lost later some ready held kind / length (stood members second configured lost later some ready held kind) + 1)) (shares_of second second_connectors second_tasks)
  bounds Connectors = share_bounds configured Connectors (all members second configured lost later some ready held Connectors / length (stood members second configured lost later some ready held Connectors)) second second_connectors second_tasks
      (own_hands configured Connectors second later) (own_hands configured Tasks second later) (final_least members second configured lost later some ready held held_apart Connectors) (final_most members second configured lost later some ready held held_apart Connectors)
  bounds Tasks = share_bounds configured Tasks (all members second configured lost later some ready held Tasks / length (stood members second configured lost later some ready held Tasks)) second second_connectors second_tasks
      (own_hands configured Connectors second later) (own_hands configured Tasks second later) (final_least members second configured lost later some ready held held_apart Tasks) (final_most members second configured lost later some ready held held_apart Tasks)

  -- the second plan is settled
  pub settles : IsSettled configured (plan_of second configured later false)
  settles = record {
    nothing_revoked = none_revoked configured second second second_connectors second_tasks (hands_kept second configured later false Connectors) (hands_kept second configured later false Tasks)
        (keeps members second configured lost later some ready held Connectors) (keeps members second configured lost later some ready held Tasks) known;
    all_given = λ x. has-count (flat_map given_by (shares_of second second_connectors second_tasks)) (held_by second ++ filter (free second configured later false) configured)
        (λ p. given_sum p ∙ sym (count-append p (held_by second) (filter (free second configured later false) configured))) x
        ∙ list_any-append (λ y. same_item x y) (held_by second) (filter (free second configured later false) configured)
        ∙ ap (λ b. has (held_by second) x || b) (has-filter (free second configured later false) configured x)
        ∙ join (has (held_by second) x) (has configured x) (known_held configured second known x);
    once = distinct_from_once (flat_map given_by (shares_of second second_connectors second_tasks)) (λ x. subst (λ (n : ℕ). n ≤ 1) (sym (given_sum (λ y. same_item x y)))
        (at_most_once configured (held_by second) (free second configured later false) ready.rising held_apart (unheld second later) x (count_by (λ y. same_item x y) (held_by second)) (omega arith)));
    even = λ kind. evens kind (all members second configured lost later some ready held kind / length (stood members second configured lost later some ready held kind)) (shares_of second second_connectors second_tasks) (shares_of second second_connectors second_tasks) (bounds kind) (bounds kind);
  } where
    join : (a b : Bool) → (a ≡ true → b ≡ true) → (a || (b && (not a && true))) ≡ b
    join true b e = sym (e refl)
    join false true e = refl
    join false false e = refl
