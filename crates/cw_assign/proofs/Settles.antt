-- The second of two plans is settled.
use Rattle.std.proofs.Common.{◌≡◌, ◌==◌, ℕ, ◌+◌, ◌*◌, ◌/◌, ◌%◌, ◌<◌, ◌≤◌, Bool, true, false, cond, List, [], ◌∷◌, ◌++◌, length, map, refl, sym, ap, ◌∙◌, subst, arith, nat_le, nat_lt, ⊎_elim}
use Rattle.std.specs.List.{filter, count_by, sum_by, AllByRecursion, IsDistinct}
use Rattle.std.specs.List.Sorted.{IsStrictlySortedBy}
use Rattle.std.specs.Ordering.{nat_cmp}
use Rattle.std.specs.declared.cmp.Ordering.TheVariants.{Less, Equal, Greater}
use Rattle.std.proofs.lemmas.List.{length-map, take_all, map-append, append_assoc}
use Rattle.std.proofs.lemmas.List.Sums.{sum_by-cons}
use Rattle.std.proofs.lemmas.Map.Keys.{sorted_head, sorted_tail, IsDistinct-from_sorted}
use Rattle.std.proofs.lemmas.Bool.{cases_lt}
use Rattle.std.proofs.lemmas.Bool.Decides.{nat_tests}
use Rattle.std.proofs.Math.Nat.{div-add-mod}
use Rattle.cw_types.specs.declared.ids.Item.{Item}
use Rattle.cw_types.specs.Order.{item_cmp}
use Rattle.cw_assign.specs.declared.items.Kind.{Kind}
use Rattle.cw_assign.specs.declared.items.Kind.TheVariants.{Connectors, Tasks}
use Rattle.cw_assign.specs.declared.share.Holder.{Holder}
use Rattle.cw_assign.specs.declared.standing.Standing.{Standing}
use Rattle.cw_assign.specs.Items.{same_item, has, of_kind}
use Rattle.cw_assign.specs.Quota.{stands_before, rank, quota}
use Rattle.cw_assign.specs.Plan.{Hand, load_of, own, standing_of, kept_of, first_hand, is_free, class_hands, held_by, shares_of}
use Rattle.cw_assign.specs.Settled.{HoldWhatWasGiven, IsReady}
use Rattle.cw_assign.proofs.PlanLemmas.{length-hands}
use Rattle.cw_assign.proofs.Settling.{total, full, digit, Bounded, AtLeast, even_least}
use Rattle.cw_assign.proofs.Ranks.{AreDistinct, counts-lt, not_before_self, counts-cons}
use Rattle.cw_assign.proofs.OnePlan.{starts, all_there, hands_bounded, hands_total}
use Rattle.cw_assign.proofs.TwoPlans.{AllTook, all_took, own_hands, pick_hands}

below_from : (n k : ℕ) → nat_cmp n k ≡ Less → n < k
below_from n k e = pick (nat_lt n k) refl e where
  up : nat_lt n k ≡ true → n < k
  up h = grind (arith, nat_tests)

  last : (b : Bool) → cond b Equal Greater ≡ Less → n < k
  last true h = cc
  last false h = cc

  pick : (b : Bool) → nat_lt n k ≡ b → cond b Less (cond (n == k) Equal Greater) ≡ Less → n < k
  pick true is h = up is
  pick false is h = last (n == k) h

module _ (configured : List Item) where
  abbrev stand : Kind → Holder → Standing
  stand kind m = standing_of kind (has configured) m

  abbrev mine : Kind → Holder → List Item
  mine kind m = own kind (has configured) m.held

  above : (kind : Kind) (n : ℕ) (ms : List Holder) → AllByRecursion (λ y. nat_cmp n y ≡ Less) (map (λ m. m.worker) ms) → AllByRecursion (λ s. n < s.worker) (map (stand kind) ms)
  above kind n [] e = tt
  above kind n (m ∷ ms) e = (below_from n m.worker e.0, above kind n ms e.1)

  pub rising_stands : (kind : Kind) (ms : List Holder) → IsStrictlySortedBy nat_cmp (map (λ m. m.worker) ms) → AreDistinct (map (stand kind) ms)
  rising_stands kind [] e = tt
  rising_stands kind (m ∷ ms) e = (above kind m.worker ms (sorted_head nat_cmp m.worker (map (λ o. o.worker) ms) e), rising_stands kind ms (sorted_tail nat_cmp m.worker (map (λ o. o.worker) ms) e))

  loads_most : (kind : Kind) (n : ℕ) (cs ts : List Hand) (ms : List Holder) → AllTook configured cs ts ms → AllByRecursion (λ h. load_of h ≤ n) (pick_hands configured kind cs ts) → AllByRecursion (λ m. length (mine kind m) ≤ n) ms
  loads_most kind n [] [] [] took most = tt
  loads_most kind n [] [] (m ∷ ms) took most = absurd took
  loads_most kind n [] (t ∷ ts) ms took most = absurd took
  loads_most kind n (c ∷ cs) [] ms took most = absurd took
  loads_most kind n (c ∷ cs) (t ∷ ts) [] took most = tt
  loads_most Connectors n (c ∷ cs) (t ∷ ts) (m ∷ ms) took most = (omega (arith, took.0.loads Connectors, most.0), loads_most Connectors n cs ts ms took.1 most.1)
  loads_most Tasks n (c ∷ cs) (t ∷ ts) (m ∷ ms) took most = (omega (arith, took.0.loads Tasks, most.0), loads_most Tasks n cs ts ms took.1 most.1)

  abbrev tall : ℕ → Standing → Bool
  tall n s = nat_le (n + 1) s.load

  few_tall : (kind : Kind) (n : ℕ) (cs ts : List Hand) (ms : List Holder) → AllTook configured cs ts ms → count_by (tall n) (map (stand kind) ms) ≤ count_by (full n) (pick_hands configured kind cs ts)
  few_tall kind n [] [] [] took = omega arith
  few_tall kind n [] [] (m ∷ ms) took = absurd took
  few_tall kind n [] (t ∷ ts) ms took = absurd took
  few_tall kind n (c ∷ cs) [] ms took = absurd took
  few_tall kind n (c ∷ cs) (t ∷ ts) [] took = absurd took
  few_tall Connectors n (c ∷ cs) (t ∷ ts) (m ∷ ms) took = omega (
    arith,
    counts-cons (tall n) (stand Connectors m) (map (stand Connectors) ms),
    sum_by-cons (λ h. cond (full n h) 1 0) c cs,
    few_tall Connectors n cs ts ms took.1,
    ap (λ (k : ℕ). digit (nat_le (n + 1) k)) (took.0.loads Connectors),
  )
  few_tall Tasks n (c ∷ cs) (t ∷ ts) (m ∷ ms) took = omega (
    arith,
    counts-cons (tall n) (stand Tasks m) (map (stand Tasks) ms),
    sum_by-cons (λ h. cond (full n h) 1 0) t ts,
    few_tall Tasks n cs ts ms took.1,
    ap (λ (k : ℕ). digit (nat_le (n + 1) k)) (took.0.loads Tasks),
  )

  -- a member's quota is enough for what it holds
  quota_enough : (all : ℕ) (front : List Standing) (s : Standing) (back : List Standing)
      → s.load ≤ all / length (front ++ s ∷ back) + 1 → count_by (tall (all / length (front ++ s ∷ back))) (front ++ s ∷ back) ≤ all % length (front ++ s ∷ back)
      → s.load ≤ quota all (front ++ s ∷ back) s
  quota_enough all front s back most few = ⊎_elim
      (λ low. pick (nat_lt (rank (front ++ s ∷ back) s) (all % length (front ++ s ∷ back))) low)
      (λ high. first (omega (arith, counts-lt (λ o. stands_before o s) (tall (all / length (front ++ s ∷ back))) (wider high) front s back (not_before_self s) (reaches high), few)))
      (cases_lt s.load (all / length (front ++ s ∷ back) + 1)) where
        pick : (b : Bool) → s.load < all / length (front ++ s ∷ back) + 1 → s.load ≤ all / length (front ++ s ∷ back) + cond b 1 0
        pick true low = omega arith
        pick false low = omega arith

        reaches : all / length (front ++ s ∷ back) + 1 ≤ s.load → nat_le (all / length (front ++ s ∷ back) + 1) s.load ≡ true
        reaches e = grind (arith, nat_tests)

        wider : all / length (front ++ s ∷ back) + 1 ≤ s.load → (o : Standing) → stands_before o s ≡ true → nat_le (all / length (front ++ s ∷ back) + 1) o.load ≡ true
        wider high o e = taller o (heavier o (nat_lt s.load o.load) (o.load == s.load) refl refl e) high where
          taller : (o : Standing) → s.load ≤ o.load → all / length (front ++ s ∷ back) + 1 ≤ s.load → nat_le (all / length (front ++ s ∷ back) + 1) o.load ≡ true
          taller o e f = grind (arith, nat_tests)

          heavier : (o : Standing) (a b : Bool) → nat_lt s.load o.load ≡ a → (o.load == s.load) ≡ b → cond a true (cond b (nat_lt o.worker s.worker) false) ≡ true → s.load ≤ o.load
          heavier o true b is js e = more is where
            more : nat_lt s.load o.load ≡ true → s.load ≤ o.load
            more h = grind (arith, nat_tests)
          heavier o false true is js e = same js where
            same : (o.load == s.load) ≡ true → s.load ≤ o.load
            same h = grind (arith, nat_tests)
          heavier o false false is js e = cc

        first : rank (front ++ s ∷ back) s < all % length (front ++ s ∷ back) → s.load ≤ quota all (front ++ s ∷ back) s
        first e = subst (λ (b : Bool). s.load ≤ all / length (front ++ s ∷ back) + cond b 1 0) (sym (ranked e)) most where
          ranked : rank (front ++ s ∷ back) s < all % length (front ++ s ∷ back) → nat_lt (rank (front ++ s ∷ back) s) (all % length (front ++ s ∷ back)) ≡ true
          ranked e = grind (arith, nat_tests)

  -- so it keeps all of it
  keeps_rest : (kind : Kind) (ms front rest : List Holder) → ms ≡ front ++ rest → AllByRecursion (λ m. length (mine kind m) ≤ length (of_kind kind configured) / length (map (stand kind) ms) + 1) rest
      → count_by (tall (length (of_kind kind configured) / length (map (stand kind) ms))) (map (stand kind) ms) ≤ length (of_kind kind configured) % length (map (stand kind) ms)
      → AllByRecursion (λ m. kept_of kind ms (length (of_kind kind configured)) (has configured) false m ≡ mine kind m) rest
  keeps_rest kind ms front [] is most few = tt
  keeps_rest kind ms front (m ∷ rest) is most few = (
    take_all (quota (length (of_kind kind configured)) (map (stand kind) ms) (stand kind m)) (mine kind m)
        (subst (λ (ss : List Standing). length (mine kind m) ≤ quota (length (of_kind kind configured)) ss (stand kind m)) (sym split)
        (quota_enough (length (of_kind kind configured)) (map (stand kind) front) (stand kind m) (map (stand kind) rest)
        (subst (λ (ss : List Standing). length (mine kind m) ≤ length (of_kind kind configured) / length ss + 1) split most.0)
        (subst (λ (ss : List Standing). count_by (tall (length (of_kind kind configured) / length ss)) ss ≤ length (of_kind kind configured) % length ss) split few))),
    keeps_rest kind ms (front ++ m ∷ []) rest (is ∙ sym (append_assoc front (m ∷ []) rest)) most.1 few,
  ) where
    split : map (stand kind) ms ≡ map (stand kind) front ++ stand kind m ∷ map (stand kind) rest
    split = ap (map (stand kind)) is ∙ map-append (stand kind) front (m ∷ rest)

  starts_sum : (kind : Kind) (members ms : List Holder) → AllByRecursion (λ m. kept_of kind members (length (of_kind kind configured)) (has configured) false m ≡ mine kind m) ms
      → total (starts kind members configured ms) ≡ sum_by (λ m. length (mine kind m)) ms
  starts_sum kind members [] e = refl
  starts_sum kind members (m ∷ ms) e = omega (
    arith,
    sum_by-cons load_of (first_hand kind members (length (of_kind kind configured)) (has configured) false m) (starts kind members configured ms),
    sum_by-cons (λ n. length (mine kind n)) m ms,
    ap length e.0,
    starts_sum kind members ms e.1,
  )

module _ (members second : List Holder) (configured lost later : List Item) (some : 0 < length members) (ready : IsReady members configured)
    (held : HoldWhatWasGiven (shares_of members (class_hands Connectors members configured lost false) (class_hands Tasks members configured lost false)) second) where
  abbrev hands : Kind → List Hand
  hands kind = class_hands kind members configured lost false

  many : (kind : Kind) → length (hands kind) ≡ length members
  many kind = length-hands kind members configured (has configured) (has (held_by members)) (has lost) false (hands kind) refl

  behind : AllTook configured (hands Connectors) (hands Tasks) second × (map (λ m. m.worker) second ≡ map (λ m. m.worker) members)
  behind = all_took configured members (hands Connectors) (hands Tasks) second (many Connectors) (many Tasks) (own_hands configured Connectors members lost) (own_hands configured Tasks members lost) held

  pub took : AllTook configured (hands Connectors) (hands Tasks) second
  took = behind.0

  long : length second ≡ length members
  long = omega (arith, length-map second (λ m. m.worker), length-map members (λ m. m.worker), ap length behind.1)

  pub some_second : 0 < length second
  some_second = omega (arith, long, some)

  pub configured_apart : IsDistinct same_item configured
  configured_apart = IsDistinct-from_sorted item_cmp configured ready.rising

  pub workers_second : IsStrictlySortedBy nat_cmp (map (λ m. m.worker) second)
  workers_second = subst (IsStrictlySortedBy nat_cmp) (sym behind.1) ready.workers

  abbrev pub stood : Kind → List Standing
  stood kind = map (standing_of kind (has configured)) second

  same_long : (kind : Kind) → length (map (standing_of kind (has configured)) members) ≡ length (stood kind)
  same_long kind = omega (arith, length-map second (standing_of kind (has configured)), length-map members (standing_of kind (has configured)), long)

  abbrev pub all : Kind → ℕ
  all kind = length (of_kind kind configured)

  bounds : (kind : Kind) → Bounded (all kind / length (stood kind)) (all kind % length (stood kind)) (hands kind)
  bounds kind = subst (λ (n : ℕ). Bounded (all kind / n) (all kind % n) (hands kind)) (same_long kind)
      (hands_bounded kind members configured some (rising_stands configured kind members ready.workers) ready.apart configured_apart lost)

  picked : (kind : Kind) → pick_hands configured kind (hands Connectors) (hands Tasks) ≡ hands kind
  picked Connectors = refl
  picked Tasks = refl

  -- the second plan lets each member keep all that it holds
  pub keeps : (kind : Kind) → AllByRecursion (λ m. kept_of kind second (all kind) (has configured) false m ≡ own kind (has configured) m.held) second
  keeps kind = keeps_rest configured kind second [] second refl
      (loads_most configured kind (all kind / length (stood kind) + 1) (hands Connectors) (hands Tasks) second took (subst (AllByRecursion (λ h. load_of h ≤ all kind / length (stood kind) + 1)) (sym (picked kind)) (bounds kind).most))
      (omega (arith, few_tall configured kind (all kind / length (stood kind)) (hands Connectors) (hands Tasks) second took, ap (count_by (full (all kind / length (stood kind)))) (picked kind), (bounds kind).few))

  module _ (held_apart : IsDistinct same_item (held_by second)) where
    abbrev pub finals : Kind → List Hand
    finals kind = class_hands kind second configured later false

    final_bounds : (kind : Kind) → Bounded (all kind / length (stood kind)) (all kind % length (stood kind)) (finals kind)
    final_bounds kind = hands_bounded kind second configured some_second (rising_stands configured kind second workers_second) held_apart configured_apart later

    final_total : (kind : Kind) → total (finals kind) ≡ all kind
    final_total kind = hands_total kind second configured some_second (rising_stands configured kind second workers_second) held_apart configured_apart later
        ∙ ap (λ (n : ℕ). n + length (filter (is_free kind (has (held_by second)) (has later) false) configured)) (starts_sum configured kind second second (keeps kind))
        ∙ all_there kind second configured held_apart configured_apart later

    final_long : (kind : Kind) → length (finals kind) ≡ length (stood kind)
    final_long kind = length-hands kind second configured (has configured) (has (held_by second)) (has later) false (finals kind) refl ∙ sym (length-map second (standing_of kind (has configured)))

    -- each final hand has the even part, or one item more
    pub final_least : (kind : Kind) → AtLeast (all kind / length (stood kind)) (finals kind)
    final_least kind = even_least (all kind / length (stood kind)) (all kind % length (stood kind)) (finals kind) (final_bounds kind).most (final_bounds kind).few
        (subst (λ (n : ℕ). n * (all kind / length (stood kind)) + all kind % length (stood kind) ≤ total (finals kind)) (sym (final_long kind)) (omega (arith, final_total kind, div-add-mod (all kind) (length (stood kind)))))

    pub final_most : (kind : Kind) → AllByRecursion (λ h. load_of h ≤ all kind / length (stood kind) + 1) (finals kind)
    final_most kind = (final_bounds kind).most
