-- A worker that is no member enters first, and then joins with nothing, which is never refused.
use Rattle.std.proofs.Common.{◌≡◌, ◌≢◌, ℕ, ◌==◌, Bool, true, false, not, cond, List, [], ◌∷◌, Option, Some, None, Result, Ok, Err, refl, sym, ap, ◌∙◌, subst, arith, nat_lt}
use Rattle.std.specs.Option.{option_map, option_map_or}
use Rattle.std.specs.Prelude.{unwrap_or}
use Rattle.std.proofs.lemmas.Bool.Decides.{nat_tests}
use Rattle.cw_types.specs.declared.ids.Item.{Item}
use Rattle.cw_types.specs.declared.logs.DiskName.{DiskName}
use Rattle.cw_group.specs.declared.answers.GroupFault.{GroupFault}
use Rattle.cw_group.specs.declared.answers.GroupFault.TheVariants.{Unknown, AlreadyJoined}
use Rattle.cw_group.specs.declared.answers.Phase.{Phase}
use Rattle.cw_group.specs.declared.member.Member.{Member}
use Rattle.cw_group.specs.Phases.{is_open}
use Rattle.cw_group.specs.Members.{member_of, new_member, with_member}
use Rattle.cw_group.specs.Group.{GroupState, next, unless, for_member, enters, opened, join_refusal, joins, join_row}
use Rattle.cw_model.specs.declared.fault.WorldFault.{WorldFault}
use Rattle.cw_model.specs.declared.fault.WorldFault.TheVariants.{Memory, Closed, Dead, Group}
use Rattle.cw_model.specs.State.{Cluster}
use Rattle.cw_model.specs.Answers.{Answer, refused, answered, unless_closed, at_worker, at_group}
use Rattle.cw_model.specs.Lookups.{row_of, held, is_member, is_same_incarnation}
use Rattle.cw_model.specs.EventsGroups.{entered, incarnation_in, joining, join}
use Rattle.cw_model.specs.Updates.{changes_row}
use Rattle.cw_rows.specs.Kept.{Kept, IsOrWants, HasSameLogs, open_test, worker_test}
use Rattle.cw_rows.specs.Joining.{with_entered, joins_group}

if_true : {A : Type 0} (b : Bool) (x y : A) → b ≡ true → cond b x y ≡ x
if_true true x y e = refl
if_true false x y e = cc

if_false : {A : Type 0} (b : Bool) (x y : A) → b ≡ false → cond b x y ≡ y
if_false true x y e = cc
if_false false x y e = refl

same : (n : ℕ) → (n == n) ≡ true
same n = grind (arith, nat_tests)

-- ---- what is looked up

pub known-member : (own known : ℕ) (m : Option Member) → option_map (λ o. o.incarnation) m ≡ Some known → is_same_incarnation (Some own) m ≡ (known == own)
known-member own known None e = absurd (clash e) where
  clash : None ≡ Some known → ⊥
  clash f = cc
known-member own known (Some m) e = ap (λ (n : ℕ). n == own) (inner e) where
  inner : Some m.incarnation ≡ Some known → m.incarnation ≡ known
  inner f = cc

pub no-member : (own : ℕ) (m : Option Member) → option_map (λ o. o.incarnation) m ≡ None → is_same_incarnation (Some own) m ≡ false
no-member own None e = refl
no-member own (Some m) e = absurd (clash e) where
  clash : Some m.incarnation ≡ None → ⊥
  clash f = cc

pub incarnation-is : (m : Option Member) → unwrap_or (option_map (λ o. o.incarnation) m) 0 ≡ option_map_or (λ o. o.incarnation) m 0
incarnation-is None = refl
incarnation-is (Some m) = refl

-- ---- a member that has entered

entered-found : (m : Member) (ms : List Member) → member_of m.worker (with_member m ms) ≡ Some m
entered-found m [] = if_true (m.worker == m.worker) (Some m) None (same m.worker)
entered-found m (o ∷ ms) = pick (nat_lt m.worker o.worker) (m.worker == o.worker) refl (entered-found m ms) where
  pick : (a b : Bool) → (m.worker == o.worker) ≡ b → member_of m.worker (with_member m ms) ≡ Some m
      → member_of m.worker (cond a (m ∷ o ∷ ms) (cond b (m ∷ ms) (o ∷ with_member m ms))) ≡ Some m
  pick true b is rest = if_true (m.worker == m.worker) (Some m) (member_of m.worker (o ∷ ms)) (same m.worker)
  pick false true is rest = if_true (m.worker == m.worker) (Some m) (member_of m.worker ms) (same m.worker)
  pick false false is rest = if_false (o.worker == m.worker) (Some o) (member_of m.worker (with_member m ms)) (other is) ∙ rest where
    other : (m.worker == o.worker) ≡ false → (o.worker == m.worker) ≡ false
    other e = grind (arith, nat_tests)

both-false : (b : Bool) → cond b false false ≡ false
both-false true = refl
both-false false = refl

-- one that has entered may join with nothing
free-to-join : (n : ℕ) (phase : Phase) (w : ℕ) → join_refusal n [] phase (new_member w n) ≡ None
free-to-join n phase w =
    if_false (not (n == n)) (Some Unknown) (cond (cond (is_open phase) false false) (Some AlreadyJoined) None) (ap not (same n))
    ∙ if_false (cond (is_open phase) false false) (Some AlreadyJoined) None (both-false (is_open phase))

-- so its joining is done
module _ (w : ℕ) (group : GroupState) where
  abbrev number : ℕ
  number = next group.made

  abbrev inside : GroupState
  inside = enters w group

  number-is : incarnation_in w inside ≡ number
  number-is = ap (λ (o : Option Member). option_map_or (λ m. m.incarnation) o 0) (entered-found (new_member w number) group.members)

  pub entered-joins : join_row w (incarnation_in w inside) [] inside ≡ Ok ((opened inside).round, joins w [] inside)
  entered-joins =
      ap (λ (n : ℕ). join_row w n [] inside) number-is
      ∙ ap (λ (o : Option Member). for_member o (λ m. unless (join_refusal number [] inside.phase m) ((opened inside).round, joins w [] inside))) (entered-found (new_member w number) group.members)
      ∙ ap (λ (o : Option GroupFault). unless o ((opened inside).round, joins w [] inside)) (free-to-join number inside.phase w)

-- ---- the event

abbrev Test : Type 0
Test = Result (Unit {0}) WorldFault

-- an event at a worker that isn't refused for the worker's sake
pub worker-passes : {A : Type 0} (event : Cluster → Answer A) (w : ℕ) (s : Cluster) → worker_test w s ≡ Ok tt → at_worker w event s ≡ event s
worker-passes {A} event w s passed = unclosed s.closed passed where
  live : (b : Bool) → ◌≡◌ {A = Test} (cond b (Ok tt) (Err (Dead w))) (Ok tt) → cond b (event s) (refused (Dead w) s) ≡ event s
  live true e = refl
  live false e = absurd (clash e) where
    clash : ◌≡◌ {A = Test} (Err (Dead w)) (Ok tt) → ⊥
    clash f = cc

  unclosed : (o : Option (DiskName × ℕ)) → ◌≡◌ {A = Test} (open_test o (cond (row_of w s).live (Ok tt) (Err (Dead w)))) (Ok tt)
      → unless_closed o (cond (row_of w s).live (event s) (refused (Dead w) s)) s ≡ event s
  unclosed None e = live (row_of w s).live e
  unclosed (Some fault) e = absurd (clash e) where
    clash : ◌≡◌ {A = Test} (Err (Closed fault.0 fault.1)) (Ok tt) → ⊥
    clash f = cc

module _ (w : ℕ) (s : Cluster) (may : is_member w s ≡ false → held w s ≡ []) where
  members-stay : is_member w s ≡ true → with_entered w s ≡ s
  members-stay e = ap (λ (g : GroupState). record s { group = g }) (if_true (is_member w s) s.group (enters w s.group) e)

  others-join : is_member w s ≡ false → join_row w (incarnation_in w (entered w s)) (held w s) (entered w s)
      ≡ Ok ((opened (enters w s.group)).round, joins w [] (enters w s.group))
  others-join e =
      ap (λ (g : GroupState). join_row w (incarnation_in w g) (held w s) g) (if_false (is_member w s) s.group (enters w s.group) e)
      ∙ ap (λ (items : List Item). join_row w (incarnation_in w (enters w s.group)) items (enters w s.group)) (may e)
      ∙ entered-joins w s.group

  refused-stays : (fault : GroupFault) → join_row w (incarnation_in w (entered w s)) (held w s) (entered w s) ≡ Err fault → with_entered w s ≡ s
  refused-stays fault is = pick (is_member w s) refl where
    clash : (a : ℕ × GroupState) → Ok a ≡ Err fault → ⊥
    clash a f = cc

    pick : (b : Bool) → is_member w s ≡ b → with_entered w s ≡ s
    pick true e = members-stay e
    pick false e = absurd (clash ((opened (enters w s.group)).round, joins w [] (enters w s.group)) (sym (others-join e) ∙ is))

  abbrev joined : ℕ × GroupState → Answer ℕ
  joined did = answered did.0 (changes_row w (joining (incarnation_in w did.1) (held w s)) (record s { group = did.1 }))

  stays-where-refused : (r : Result (ℕ × GroupState) GroupFault) → ((fault : GroupFault) → r ≡ Err fault → with_entered w s ≡ s)
      → at_group r joined (with_entered w s) ≡ at_group r joined s
  stays-where-refused (Ok did) stays = refl
  stays-where-refused (Err fault) stays = ap (λ (t : Cluster). refused (Group fault) t) (stays fault refl)

  join-is : worker_test w s ≡ Ok tt → joins_group w (held w s) (with_entered w s) ≡ join w s
  join-is passed =
      stays-where-refused (join_row w (incarnation_in w (entered w s)) (held w s) (entered w s)) refused-stays
      ∙ sym (worker-passes (λ t. at_group (join_row w (incarnation_in w (entered w t)) (held w t) (entered w t))
      (λ did. answered did.0 (changes_row w (joining (incarnation_in w did.1) (held w t)) (record t { group = did.1 }))) t) w s passed)

  wanting-stays : (held w s ≡ [] → ⊥) → with_entered w s ≡ s
  wanting-stays some = pick (is_member w s) refl where
    pick : (b : Bool) → is_member w s ≡ b → with_entered w s ≡ s
    pick true e = members-stay e
    pick false e = absurd (some (may e))

-- a worker has entered where it was no member, and then joined, or memory was wanting
module _ (w : ℕ) (old mid new : Kept) (result : Result ℕ WorldFault) (may : is_member w old.state ≡ false → held w old.state ≡ [])
    (passed : worker_test w old.state ≡ Ok tt) (inside : mid.state ≡ with_entered w old.state) (setting : mid.setting ≡ old.setting) where
  pub join-done : (items : List Item) → items ≡ held w old.state → IsOrWants (joins_group w items) mid new result → (items ≡ [] → result ≢ Err Memory)
      → IsOrWants (join w) old new result
  join-done items are is nothing =
      let logs = subst (λ (t : Cluster). HasSameLogs t new.state) inside is.logs in
      record {
        done = λ not_memory. sym (join-is w old.state may passed)
            ∙ ap (λ (xs : List Item). joins_group w xs (with_entered w old.state)) (sym are) ∙ ap (λ (t : Cluster). joins_group w items t) (sym inside) ∙ is.done not_memory;
        wants = λ memory. is.wants memory ∙ inside ∙ wanting-stays w old.state may (λ none. nothing (are ∙ none) memory);
        setting = is.setting ∙ setting;
        logs = record {
          config = logs.config;
          offsets = logs.offsets;
          status = logs.status;
          txn = logs.txn;
          batches = logs.batches;
          closed = logs.closed;
        };
      }
