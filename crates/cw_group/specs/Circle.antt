-- A group over time: what departed members held waits through the scheduled delay of KIP-415, and then is free.
use Rattle.std.specs.Prelude.{◌≡◌, ℕ, ◌+◌, ◌-◌, ◌^◌, min, Bool, true, false, nat_le, List, [], ◌∷◌, ◌++◌, Ok}
use Rattle.std.specs.Prelude.{if◌then◌else◌}
use Rattle.cw_types.specs.declared.ids.Item.{Item}
use Rattle.cw_assign.specs.declared.delay.Delay.{Delay}
use Rattle.cw_assign.specs.declared.delay.Delay.TheVariants.{Idle, Until}
use Rattle.cw_assign.specs.declared.share.Plan.{Plan}
use Rattle.cw_assign.specs.Plan.{plan_of}
use Rattle.cw_group.specs.Members.{holders_of}
use Rattle.cw_group.specs.Group.{GroupState, empty_group, expire_row, store_row}

-- the group, what departed members held, until when that waits, and the time
pub record CircleState : Type 0 where
  pub group : GroupState
  pub lost : List Item
  pub delay : Delay
  pub moment : ℕ

-- no member, and nothing waits
abbrev pub empty_circle : CircleState
empty_circle = record { group = empty_group; lost = []; delay = Idle; moment = 0 }

-- another group
abbrev pub with_group : GroupState → CircleState → CircleState
with_group group s = record s { group = group }

-- the delay behind the loss of some items: it begins where it didn't run and something is lost
abbrev pub delay_behind : (scheduled moment : ℕ) → List Item → Delay → Delay
delay_behind scheduled moment [] running = running
delay_behind scheduled moment (x ∷ lost) Idle = Until (min (moment + scheduled) (2 ^ 64 - 1))
delay_behind scheduled moment (x ∷ lost) (Until at) = Until at

-- a member has departed: what it might run is lost
abbrev pub loses_in : (scheduled : ℕ) → List Item × GroupState → CircleState → CircleState
loses_in scheduled gone s = record {
  group = gone.1;
  lost = s.lost ++ gone.0;
  delay = delay_behind scheduled s.moment gone.0 s.delay;
  moment = s.moment;
}

-- the group has let a member go
pub record Departs (scheduled w : ℕ) (old new : CircleState) : Type 0 where
  pub gone : List Item × GroupState
  pub row : expire_row w old.group ≡ Ok gone
  pub after : new ≡ loses_in scheduled gone old

-- whether a delay has run out
abbrev pub is_due : (moment : ℕ) → Delay → Bool
is_due moment Idle = false
is_due moment (Until at) = nat_le at moment

-- whether a delay runs
abbrev pub is_running : Delay → Bool
is_running Idle = false
is_running (Until at) = true

-- no delay runs, and what was lost is free
abbrev pub freed : CircleState → CircleState
freed s = record s { lost = []; delay = Idle }

-- a delay that has run out ends
abbrev pub without_due : CircleState → CircleState
without_due s = if is_due s.moment s.delay then freed s else s

-- the plan for the members
abbrev pub plan_in : List Item → CircleState → Plan
plan_in configured s = plan_of (holders_of s.group.members) configured s.lost (is_running s.delay)

-- the leader has planned, and each member has its share
pub record StoresPlan (w : ℕ) (configured : List Item) (old new : CircleState) : Type 0 where
  pub row : store_row w old.group.round (plan_in configured (without_due old)).shares configured old.group ≡
      Ok new.group
  pub rest : new ≡ with_group new.group (without_due old)
