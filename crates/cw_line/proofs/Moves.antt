-- Each move keeps the rule.
use Rattle.std.proofs.Common.{◌≡◌, ◌≢◌, ℕ, zero, suc, ◌+◌, ◌-◌, ◌<◌, true, false, true≢false, List, [], ◌∷◌, ◌++◌, set, sym, refl, ap, ◌∙◌, subst, ⊎_elim, append_assoc, arith}
use Rattle.std.specs.List.Sorted.{IsPermutation}
use Rattle.std.proofs.lemmas.List.Sorted.{IsPermutation-append_left, IsPermutation-refl, IsPermutation-sym, IsPermutation-trans}
use Rattle.std.proofs.lemmas.List.{append-nil}
use mathlib.Core.Option.{some, some-injective, some-ne-none}
use lib.ListN.{get_elem?}
use Rattle.crossbeam_queue.specs.Fifo.{Pushes, Pops, Forks, Merges, Learns}
use Rattle.crossbeam_queue.proofs.Lists.{at_set, at_snoc, set_else}
use Rattle.cw_line.specs.declared.rule.Hand.{Hand}
use Rattle.cw_line.specs.declared.rule.Ticket.{Ticket}
use Rattle.cw_line.specs.Hands.{hand, all_taken, Accounts, IsWhole, Fits, AllFit, Handed}
use Rattle.cw_line.proofs.Counts.{parts_set, parts_snoc, set_apart, taken_less, taken_more, taken_snoc, taken_whole}

module _ {L : Type 0} where
  -- no pass but the one that pushes may push
  fits_taker : (pusher : ℕ) (put : List (Ticket L)) (pass : ℕ) (parts : ℕ) (taken : List (Ticket L)) → (parts ≡ 0 → taken ≡ []) → Fits pusher put pass (hand parts false [] taken)
  fits_taker pusher put pass parts taken none = record { only = λ p. absurd (true≢false (sym p)); knows = λ p. absurd (true≢false (sym p)); none = none }

  -- a change of one pass that fits
  fit_set : (pusher : ℕ) (put put' : List (Ticket L)) (views : List (Hand L)) (port : ℕ) (w : Hand L) → Fits pusher put' port w
      → ((j : ℕ) (u : Hand L) → j ≢ port → get_elem? views j ≡ some u → Fits pusher put' j u) → AllFit pusher put' (set views port w)
  fit_set pusher put put' views port w mine others j u e = ⊎_elim (λ (x : (j ≡ port) × (w ≡ u)). subst (λ (y : ℕ × Hand L). Fits pusher put' y.0 y.1) (λ i. (sym x.0 i, x.1 i)) mine)
      (λ (x : (j ≢ port) × (get_elem? views j ≡ some u)). others j u x.0 x.1) (at_set views port j w u e)

  first : (pass : ℕ) (v : Hand L) → get_elem? (hand 1024 true [] [] ∷ []) pass ≡ some v → Fits 0 [] pass v
  first zero v at = subst (Fits 0 [] zero) (some-injective _ v at) (record { only = λ _. refl; knows = λ _. refl; none = λ _. refl })
  first (suc p) v at = absurd (some-ne-none v (sym at))

  pub begins : Handed {L = L} [] (hand 1024 true [] [] ∷ [])
  begins = record { pusher = 0; put = []; got = []; in_order = refl; parts = omega arith; taken = IsPermutation-refl []; fit = first }

  -- what one pass took more, all took more
  takes_more : (views : List (Hand L)) (got : List (Ticket L)) (port : ℕ) (v w : Hand L) (more : List (Ticket L)) → get_elem? views port ≡ some v → w.taken ≡ v.taken ++ more → IsPermutation (all_taken views) got
      → IsPermutation (all_taken (set views port w)) (got ++ more)
  takes_more views got port v w more at is all =
      IsPermutation-trans (all_taken (set views port w)) (all_taken views ++ more) (got ++ more) (taken_more views port v w more at is) (IsPermutation-append_left more (all_taken views) got all)

  -- a change by which no pass took more
  takes_none : (views : List (Hand L)) (got : List (Ticket L)) (port : ℕ) (v w : Hand L) → get_elem? views port ≡ some v → w.taken ≡ v.taken → IsPermutation (all_taken views) got
      → IsPermutation (all_taken (set views port w)) got
  takes_none views got port v w at is all =
      subst (IsPermutation (all_taken (set views port w))) (append-nil got) (takes_more views got port v w [] at (is ∙ sym (append-nil v.taken)) all)

  abbrev Rule : List (Ticket L) → List (Hand L) → Type 0
  Rule items views = Handed items views

  pub puts : (n port : ℕ) (v : Hand L) (x : Ticket L) → v.pushes ≡ true → Pushes Rule n port v x (λ w. w ≡ hand v.parts v.pushes (v.put ++ x ∷ []) v.taken)
  puts n port v x may items views _ r at =
      let w : Hand L = hand v.parts v.pushes (v.put ++ x ∷ []) v.taken in
      let put = r.put ++ x ∷ [] in
      let mine = r.fit port v at in (
        w,
        record {
          pusher = r.pusher;
          put = put;
          got = r.got;
          in_order = ap (λ l. l ++ x ∷ []) r.in_order ∙ append_assoc r.got items (x ∷ []);
          parts = (let s = parts_set views port v w at in omega (arith, r.parts, s));
          taken = takes_none views r.got port v w at refl r.taken;
          fit = fit_set r.pusher r.put put views port w (record { only = λ _. mine.only may; knows = λ _. ap (λ l. l ++ x ∷ []) (mine.knows may); none = mine.none })
              (λ j u other e. record { only = (r.fit j u e).only; knows = λ p. absurd (other ((r.fit j u e).only p ∙ sym (mine.only may))); none = (r.fit j u e).none });
        },
        refl,
      )

  pub takes : (port : ℕ) (v : Hand L) → 0 < v.parts → Pops Rule port v (λ x w. w ≡ hand v.parts v.pushes v.put (v.taken ++ x ∷ []))
  takes port v some_part x items views r at =
      let w : Hand L = hand v.parts v.pushes v.put (v.taken ++ x ∷ []) in
      let mine = r.fit port v at in (
        w,
        record {
          pusher = r.pusher;
          put = r.put;
          got = r.got ++ x ∷ [];
          in_order = r.in_order ∙ sym (append_assoc r.got (x ∷ []) items);
          parts = (let s = parts_set views port v w at in omega (arith, r.parts, s));
          taken = takes_more views r.got port v w (x ∷ []) at refl r.taken;
          fit = fit_set r.pusher r.put r.put views port w (record { only = mine.only; knows = mine.knows; none = λ none. absurd (omega (arith, none, some_part)) }) (λ j u other e. r.fit j u e);
        },
        refl,
      )

  pub learns : (port : ℕ) (v : Hand L) → Learns Rule port v (λ items. IsWhole v → Accounts v.put v.taken items)
  learns port v items views r at whole =
      let mine = r.fit port v at in record {
        got = r.got;
        in_order = mine.knows whole.1 ∙ r.in_order;
        same = subst (λ l. IsPermutation l r.got) (taken_whole views port v at (λ p u e none. (r.fit p u e).none none) (r.parts ∙ sym whole.0)) r.taken;
      }

  pub forks : (port : ℕ) (v : Hand L) → 1 < v.parts → Forks Rule port v (hand (v.parts - 1) v.pushes v.put v.taken) (hand 1 false [] [])
  forks port v two items views r at =
      let l : Hand L = hand (v.parts - 1) v.pushes v.put v.taken in
      let n : Hand L = hand 1 false [] [] in
      let vs : List (Hand L) = set views port l in
      let mine = r.fit port v at in
      let old : AllFit r.pusher r.put vs = fit_set r.pusher r.put r.put views port l (record { only = mine.only; knows = mine.knows; none = λ none. absurd (omega (arith, none, two)) }) (λ j u other e. r.fit j u e) in
      record {
        pusher = r.pusher;
        put = r.put;
        got = r.got;
        in_order = r.in_order;
        parts = (let s = parts_set views port v l at in let t = parts_snoc vs n in omega (arith, r.parts, s, t, two));
        taken = subst (λ ts. IsPermutation ts r.got) (sym (taken_snoc vs n refl)) (takes_none views r.got port v l at refl r.taken);
        fit = λ j u e. ⊎_elim (λ x. old j u x) (λ (is : n ≡ u). subst (Fits r.pusher r.put j) is (fits_taker r.pusher r.put j 1 [] (λ none. refl))) (at_snoc vs n u j e);
      }

  -- what one pass took, another took over
  merged : (views : List (Hand L)) (port other : ℕ) (v u b gone : Hand L) → get_elem? views port ≡ some v → other ≢ port → get_elem? (set views port b) other ≡ some u → b.taken ≡ v.taken ++ u.taken → gone.taken ≡ []
      → IsPermutation (all_taken (set (set views port b) other gone)) (all_taken views)
  merged views port other v u b gone at apart at' both none =
      let there : get_elem? views other ≡ some u = sym (set_else views port other b apart) ∙ at' in
      let left : List (Hand L) = set views other gone in
      let here : get_elem? left port ≡ some v = set_else views other port gone (λ same. apart (sym same)) ∙ at in
      subst (λ vs. IsPermutation (all_taken vs) (all_taken views)) (set_apart views other port gone b apart)
      (IsPermutation-trans (all_taken (set left port b)) (all_taken left ++ u.taken) (all_taken views) (taken_more left port v b u.taken here both)
      (IsPermutation-sym (all_taken views) (all_taken left ++ u.taken) (taken_less views other u gone there none)))

  pub merges : (port : ℕ) (v : Hand L) (other : ℕ) (u : Hand L) → 0 < v.parts → Merges Rule port v other u (hand (v.parts + u.parts) v.pushes v.put (v.taken ++ u.taken)) (hand 0 false [] [])
  merges port v other u some_part items views r at apart at' =
      let b : Hand L = hand (v.parts + u.parts) v.pushes v.put (v.taken ++ u.taken) in
      let gone : Hand L = hand 0 false [] [] in
      let vs : List (Hand L) = set views port b in
      let mine = r.fit port v at in
      let now : AllFit r.pusher r.put vs = fit_set r.pusher r.put r.put views port b (record { only = mine.only; knows = mine.knows; none = λ none. absurd (omega (arith, none, some_part)) }) (λ j y _ e. r.fit j y e) in
      record {
        pusher = r.pusher;
        put = r.put;
        got = r.got;
        in_order = r.in_order;
        parts = (let s = parts_set views port v b at in let t = parts_set vs other u gone at' in omega (arith, r.parts, s, t));
        taken = IsPermutation-trans (all_taken (set vs other gone)) (all_taken views) r.got (merged views port other v u b gone at apart at' refl refl) r.taken;
        fit = fit_set r.pusher r.put r.put vs other gone (fits_taker r.pusher r.put other 0 [] (λ _. refl)) (λ j y _ e. now j y e);
      }
