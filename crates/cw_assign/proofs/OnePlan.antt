-- One plan, one class: how the hands are filled.
use Rattle.std.proofs.Common.{◌≡◌, ℕ, ◌+◌, ◌*◌, ◌/◌, ◌%◌, ◌<◌, ◌≤◌, Bool, true, false, not, ◌&&◌, cond, List, [], ◌∷◌, length, map, take, min, refl, sym, ap, ◌∙◌, subst, arith, nat_lt}
use Rattle.std.specs.List.{fold, filter, count_by, sum_by, AllByRecursion, IsDistinct}
use Rattle.std.proofs.lemmas.List.{length-map, length-take}
use Rattle.std.proofs.lemmas.List.Sums.{sum_by-cons, length-filter}
use Rattle.std.proofs.lemmas.Bool.Decides.{nat_tests}
use Rattle.std.proofs.Math.Nat.{mod-lt, div-add-mod}
use Rattle.cw_types.specs.declared.ids.Item.{Item}
use Rattle.cw_assign.specs.declared.items.Kind.{Kind}
use Rattle.cw_assign.specs.declared.share.Holder.{Holder}
use Rattle.cw_assign.specs.declared.standing.Standing.{Standing}
use Rattle.cw_assign.specs.Items.{same_item, has, is_of, of_kind}
use Rattle.cw_assign.specs.Quota.{rank, quota}
use Rattle.cw_assign.specs.Plan.{Hand, load_of, give, own, standing_of, kept_of, first_hand, is_free, class_hands, held_by}
use Rattle.cw_assign.proofs.Counts.{count-append, count-cons}
use Rattle.cw_assign.proofs.Settling.{total, full, digit, Bounded, bounded_deal}
use Rattle.cw_assign.proofs.Ranks.{AreDistinct, few_first, counts-cons}
use Rattle.cw_assign.proofs.Overlap.{common}

module _ (kind : Kind) (members : List Holder) (configured : List Item) where
  abbrev all : ℕ
  all = length (of_kind kind configured)

  abbrev pub owns : Holder → List Item
  owns m = own kind (has configured) m.held

  abbrev pub stands : Holder → Standing
  stands m = standing_of kind (has configured) m

  abbrev pub standings : List Standing
  standings = map stands members

  abbrev pub starts : List Holder → List Hand
  starts ms = map (first_hand kind members all (has configured) false) ms

  -- what a class's items count of what the members hold, and what is free
  pub own_sum : (ms : List Holder) → sum_by (λ m. length (owns m)) ms ≡ count_by (λ x. is_of kind x && has configured x) (held_by ms)
  own_sum [] = refl
  own_sum (m ∷ ms) = omega (
    arith,
    sum_by-cons (λ n. length (owns n)) m ms,
    count-append (λ x. is_of kind x && has configured x) m.held (held_by ms),
    own_sum ms,
    length-filter (λ x. is_of kind x && has configured x) m.held,
  )

  parts : (f g : Item → Bool) (xs : List Item) → count_by (λ x. f x && g x) xs + count_by (λ x. f x && (not (g x) && true)) xs ≡ count_by f xs
  parts f g [] = refl
  parts f g (x ∷ xs) = omega (arith, count-cons (λ y. f y && g y) x xs, count-cons (λ y. f y && (not (g y) && true)) x xs, count-cons f x xs, parts f g xs, by_cases (f x) (g x)) where
    by_cases : (a b : Bool) → digit (a && b) + digit (a && (not b && true)) ≡ digit a
    by_cases true true = refl
    by_cases true false = refl
    by_cases false b = refl

  module _ (held_apart : IsDistinct same_item (held_by members)) (configured_apart : IsDistinct same_item configured) (lost : List Item) where
    -- what the members own and what is free are all the items of the class
    pub all_there : sum_by (λ m. length (owns m)) members + length (filter (is_free kind (has (held_by members)) (has lost) false) configured) ≡ all
    all_there = omega (
      arith,
      own_sum members,
      common (is_of kind) (held_by members) configured held_apart configured_apart,
      length-filter (is_free kind (has (held_by members)) (has lost) false) configured,
      parts (is_of kind) (has (held_by members)) configured,
      length-filter (is_of kind) configured,
    )

  kept_most : (m : Holder) → length (kept_of kind members all (has configured) false m) ≤ length (owns m)
  kept_most m = omega (arith, length-take (quota all standings (stands m)) (owns m))

  start_total : (ms : List Holder) → total (starts ms) ≤ sum_by (λ m. length (owns m)) ms
  start_total [] = omega arith
  start_total (m ∷ ms) = omega (arith, sum_by-cons load_of (first_hand kind members all (has configured) false m) (starts ms), sum_by-cons (λ n. length (owns n)) m ms, kept_most m, start_total ms)

  quota_most : (s : Standing) → quota all standings s ≤ all / length standings + 1
  quota_most s = pick (nat_lt (rank standings s) (all % length standings)) where
    pick : (b : Bool) → all / length standings + cond b 1 0 ≤ all / length standings + 1
    pick true = omega arith
    pick false = omega arith

  abbrev pub q : ℕ
  q = all / length standings

  abbrev pub r : ℕ
  r = all % length standings

  start_most : (ms : List Holder) → AllByRecursion (λ h. load_of h ≤ q + 1) (starts ms)
  start_most [] = tt
  start_most (m ∷ ms) = (omega (arith, length-take (quota all standings (stands m)) (owns m), quota_most (stands m)), start_most ms)

  abbrev ranked : Standing → Bool
  ranked s = nat_lt (rank standings s) r

  start_few : (ms : List Holder) → count_by (full q) (starts ms) ≤ count_by ranked (map stands ms)
  start_few [] = omega arith
  start_few (m ∷ ms) = omega (arith, sum_by-cons (λ h. cond (full q h) 1 0) (first_hand kind members all (has configured) false m) (starts ms), counts-cons ranked (stands m) (map stands ms), start_few ms, one) where
    pick : (b : Bool) → ranked (stands m) ≡ b → digit (full q (first_hand kind members all (has configured) false m)) ≤ digit b
    pick true is = small (full q (first_hand kind members all (has configured) false m)) where
      small : (c : Bool) → digit c ≤ 1
      small true = omega arith
      small false = omega arith
    pick false is = omega (arith, none (length-take (quota all standings (stands m)) (owns m)) (ap (λ b. q + digit b) is)) where
      none : length (take (quota all standings (stands m)) (owns m)) ≡ min (quota all standings (stands m)) (length (owns m)) → quota all standings (stands m) ≡ q + 0 → digit (full q (first_hand kind members all (has configured) false m)) ≡ 0
      none e f = grind (arith, nat_tests)

    one : digit (full q (first_hand kind members all (has configured) false m)) ≤ digit (ranked (stands m))
    one = pick (ranked (stands m)) refl

  module _ (some : 0 < length members) (rising : AreDistinct standings) (held_apart : IsDistinct same_item (held_by members)) (configured_apart : IsDistinct same_item configured) (lost : List Item) where
    abbrev free : List Item
    free = filter (is_free kind (has (held_by members)) (has lost) false) configured

    start_bounded : Bounded q r (starts members)
    start_bounded = record { most = start_most members; few = omega (arith, start_few members, few_first r standings rising) }

    long : length (starts members) ≡ length standings
    long = length-map members (first_hand kind members all (has configured) false) ∙ sym (length-map members stands)

    some_stand : 0 < length standings
    some_stand = omega (arith, length-map members stands, some)

    room : r < length (starts members)
    room = omega (arith, long, mod-lt all some_stand)

    divided : all ≡ length standings * q + r
    divided = sym (div-add-mod all (length standings))

    below : total (starts members) + length free ≤ length (starts members) * q + r
    below = subst (λ (n : ℕ). total (starts members) + length free ≤ n * q + r) (sym long) (omega (arith, start_total members, all_there held_apart configured_apart lost, divided))

    filled : Bounded q r (fold give (starts members) free) × (total (fold give (starts members) free) ≡ total (starts members) + length free)
    filled = bounded_deal q r (starts members) free start_bounded room below

    -- no hand of a plan has more than one item above the even part, and no more hands than the remainder have one
    pub hands_bounded : Bounded q r (class_hands kind members configured lost false)
    hands_bounded = filled.0

    pub hands_total : total (class_hands kind members configured lost false) ≡ total (starts members) + length free
    hands_total = filled.1
