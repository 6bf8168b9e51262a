-- A round of the group (KIP-415): its members join with what they hold, the leader closes it and plans, and each is
-- told its share.
use Rattle.std.specs.Prelude.{◌≡◌, ℕ, ◌==◌, Bool, true, false, List, [], length, nat_le, Some, None, if◌then◌else◌}
use Rattle.std.specs.Option.{option_map_or}
use Rattle.cw_types.specs.declared.ids.Item.{Item}
use Rattle.cw_assign.specs.declared.delay.Delay.{Delay}
use Rattle.cw_assign.specs.declared.delay.Delay.TheVariants.{Idle, Until}
use Rattle.cw_assign.specs.declared.share.Plan.{Plan}
use Rattle.cw_assign.specs.Plan.{plan_of}
use Rattle.cw_group.specs.declared.answers.Synced.{Synced}
use Rattle.cw_group.specs.Members.{member_of, holders_of}
use Rattle.cw_group.specs.Group.{GroupState, enters, join_row, close_row, store_row, sync_row}
use Rattle.cw_model.specs.declared.row.Row.{Row}
use Rattle.cw_model.specs.declared.row.RowPhase.TheVariants.{Joining, Stable}
use Rattle.cw_model.specs.State.{Cluster}
use Rattle.cw_model.specs.Lookups.{row_of, held, is_member, configured_items}
use Rattle.cw_model.specs.Answers.{Answer, answered, at_worker, at_group}
use Rattle.cw_model.specs.Updates.{changes_row}
use Rattle.cw_group.specs.Circle.{is_due, is_running}

-- the group, which a worker has entered where it isn't a member
abbrev pub entered : ℕ → Cluster → GroupState
entered w s = if is_member w s then s.group else enters w s.group

-- as which member the group has a worker
abbrev pub incarnation_in : ℕ → GroupState → ℕ
incarnation_in w group = option_map_or (λ m. m.incarnation) (member_of w group.members) 0

-- a worker that has joined with what it holds
abbrev pub joining : (incarnation : ℕ) → List Item → Row → Row
joining incarnation items row = record row {
  incarnation = Some incarnation;
  phase = Joining;
  assigned = items;
  revoked = [];
}

-- a worker joins, and may run what it holds: the answer is the round
abbrev pub join : ℕ → Cluster → Answer ℕ
join w = at_worker w (λ s. at_group (join_row w (incarnation_in w (entered w s)) (held w s) (entered w s))
    (λ did. answered did.0 (changes_row w (joining (incarnation_in w did.1) (held w s))
    (record s { group = did.1 }))) s)

-- a worker that enters holds nothing
abbrev pub MayJoin : ℕ → Cluster → Type 0
MayJoin w s = is_member w s ≡ false → held w s ≡ []

-- all have joined, and nobody joins this round any more
abbrev pub close_round : ℕ → Cluster → Answer (Unit {0})
close_round w = at_worker w (λ s. at_group (close_row w s.group.round s.group)
    (λ group. answered tt (record s { group = group })) s)

-- a delay that has run out ends, and what was lost is free
abbrev pub without_due_delay : Cluster → Cluster
without_due_delay s = if is_due s.moment s.delay then record s { lost = []; delay = Idle } else s

-- the plan for the members, of what is configured
abbrev pub plan_for : Cluster → Plan
plan_for s = plan_of (holders_of s.group.members) (configured_items s.configs) s.lost (is_running s.delay)

-- the leader plans, and each member gets its share
abbrev pub store_plan : ℕ → Cluster → Answer (Unit {0})
store_plan w = at_worker w (λ s. at_group
    (store_row w s.group.round (plan_for (without_due_delay s)).shares (configured_items s.configs) s.group)
    (λ group. answered tt (record (without_due_delay s) { group = group })) s)

-- whoever plans has read the whole config log
abbrev pub MayStorePlan : ℕ → Cluster → Type 0
MayStorePlan w s = (row_of w s).prefix ≡ length s.configs

-- a worker with its share; it leads only where it is the leader of this round
abbrev pub stable_with : ℕ → Synced → Row → Row
stable_with w told row = record row {
  phase = Stable told.round told.leader;
  round = told.round;
  assigned = told.assigned;
  revoked = told.revoked;
  lead = if told.leader == w then row.lead else None;
}

-- a worker is told its share
abbrev pub sync : ℕ → Cluster → Answer (Unit {0})
sync w = at_worker w (λ s. at_group (sync_row w s.group.round s.group)
    (λ told. answered tt (changes_row w (stable_with w told) s)) s)
