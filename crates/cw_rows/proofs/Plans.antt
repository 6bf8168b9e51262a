-- A plan that is stored: the model's, once a delay that has run out has ended.
use Rattle.std.proofs.Common.{◌≡◌, ℕ, Bool, true, false, nat_le, cond, List, [], Option, Ok, Err, refl, sym, ap, ◌∙◌, subst}
use Rattle.cw_types.specs.declared.ids.Item.{Item}
use Rattle.cw_types.specs.declared.logs.DiskName.{DiskName}
use Rattle.cw_assign.specs.declared.share.Plan.{Plan}
use Rattle.cw_assign.specs.declared.delay.Delay.{Delay}
use Rattle.cw_assign.specs.declared.delay.Delay.TheVariants.{Idle, Until}
use Rattle.cw_group.specs.declared.answers.GroupFault.{GroupFault}
use Rattle.cw_group.specs.Group.{GroupState, store_row}
use Rattle.cw_model.specs.declared.fault.WorldFault.TheVariants.{Group}
use Rattle.cw_model.specs.declared.journal.JournalEntry.{JournalEntry}
use Rattle.cw_model.specs.State.{Cluster}
use Rattle.cw_model.specs.Answers.{Answer, answered, at_group}
use Rattle.cw_model.specs.Lookups.{configured_items}
use Rattle.cw_model.specs.EventsGroups.{without_due_delay, plan_for, store_plan}
use Rattle.cw_topics.specs.Topics.{TopicsState}
use Rattle.cw_rows.specs.Kept.{state_of, worker_test}
use Rattle.cw_rows.specs.Crew.{CrewState}
use Rattle.cw_group.specs.Circle.{CircleState, with_group, freed, without_due, plan_in, StoresPlan, is_due}
use Rattle.cw_group.specs.Circle.{is_due as is_over}
use Rattle.cw_rows.proofs.Joins.{worker-passes}

module _ (topics : TopicsState) (circle : CircleState) (crew : CrewState) (journal : List JournalEntry) (closed : Option (DiskName × ℕ)) (w : ℕ) where
  abbrev state : Cluster
  state = state_of topics circle crew journal closed

  abbrev items : List Item
  items = configured_items topics.configs

  abbrev circle_at : Delay → CircleState
  circle_at d = record circle { delay = d }

  abbrev state_at : Delay → Cluster
  state_at d = state_of topics (circle_at d) crew journal closed

  same-plan : plan_for (without_due_delay state) ≡ plan_in items (without_due circle)
  same-plan = pick circle.delay where
    until : (at : ℕ) (b : Bool) → plan_for (cond b (record (state_at (Until at)) { lost = []; delay = Idle }) (state_at (Until at)))
        ≡ plan_in items (cond b (freed (circle_at (Until at))) (circle_at (Until at)))
    until at true = refl
    until at false = refl

    pick : (d : Delay) → plan_for (cond (is_due circle.moment d) (record (state_at d) { lost = []; delay = Idle }) (state_at d))
        ≡ plan_in items (cond (is_over circle.moment d) (freed (circle_at d)) (circle_at d))
    pick Idle = refl
    pick (Until at) = until at (nat_le at circle.moment)

  same-state : (group : GroupState) → record (without_due_delay state) { group = group } ≡ state_of topics (with_group group (without_due circle)) crew journal closed
  same-state group = pick circle.delay where
    until : (at : ℕ) (b : Bool) → record (cond b (record (state_at (Until at)) { lost = []; delay = Idle }) (state_at (Until at))) { group = group }
        ≡ state_of topics (with_group group (cond b (freed (circle_at (Until at))) (circle_at (Until at)))) crew journal closed
    until at true = refl
    until at false = refl

    pick : (d : Delay) → record (cond (is_due circle.moment d) (record (state_at d) { lost = []; delay = Idle }) (state_at d)) { group = group }
        ≡ state_of topics (with_group group (cond (is_over circle.moment d) (freed (circle_at d)) (circle_at d))) crew journal closed
    pick Idle = refl
    pick (Until at) = until at (nat_le at circle.moment)

  abbrev event : Cluster → Answer (Unit {0})
  event s = at_group (store_row w s.group.round (plan_for (without_due_delay s)).shares (configured_items s.configs) s.group)
      (λ group. answered tt (record (without_due_delay s) { group = group })) s

  same-row : store_row w circle.group.round (plan_for (without_due_delay state)).shares items circle.group
      ≡ store_row w circle.group.round (plan_in items (without_due circle)).shares items circle.group
  same-row = ap (λ (plan : Plan). store_row w circle.group.round plan.shares items circle.group) same-plan

  module _ (passed : worker_test w state ≡ Ok tt) (configured : List Item) (are : configured ≡ items) where
    pub plan-stored : (new : CircleState) → StoresPlan w configured circle new → store_plan w state ≡ (Ok tt, state_of topics new crew journal closed)
    plan-stored new stores =
        let stored = subst (λ (xs : List Item). StoresPlan w xs circle new) are stores in
        worker-passes event w state passed
        ∙ ap (λ r. at_group r (λ group. answered tt (record (without_due_delay state) { group = group })) state) (same-row ∙ stored.row)
        ∙ ap (λ (s : Cluster). (Ok tt, s)) (same-state new.group ∙ ap (λ (c : CircleState). state_of topics c crew journal closed) (sym stored.rest))

    pub plan-refused : (fault : GroupFault) → store_row w circle.group.round (plan_in configured (without_due circle)).shares configured circle.group ≡ Err fault
        → store_plan w state ≡ (Err (Group fault), state)
    plan-refused fault refuses =
        let is = subst (λ (xs : List Item). store_row w circle.group.round (plan_in xs (without_due circle)).shares xs circle.group ≡ Err fault) are refuses in
        worker-passes event w state passed
        ∙ ap (λ r. at_group r (λ group. answered tt (record (without_due_delay state) { group = group })) state) (same-row ∙ is)
