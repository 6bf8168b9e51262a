-- Workers come, are killed, turn deaf and hear again; and the group lets a lost member go, whose items wait for it
-- through the scheduled delay (KIP-415). The clock, that a worker may be deaf, and how many there are at most, is this
-- project's own.
use Rattle.std.specs.Prelude.{ℕ, ◌+◌, ◌-◌, ◌^◌, List, [], ◌∷◌, ◌++◌, length, min, max, true, false, nat_lt}
use Rattle.std.specs.Prelude.{if◌then◌else◌}
use Rattle.cw_types.specs.declared.ids.Item.{Item}
use Rattle.cw_assign.specs.declared.delay.Delay.{Delay}
use Rattle.cw_assign.specs.declared.delay.Delay.TheVariants.{Idle, Until}
use Rattle.cw_group.specs.Group.{GroupState, expire_row}
use Rattle.cw_model.specs.declared.fault.WorldFault.TheVariants.{TooMany}
use Rattle.cw_model.specs.declared.row.Row.{Row}
use Rattle.cw_model.specs.State.{Setting, Cluster}
use Rattle.cw_model.specs.Lookups.{new_row, is_at}
use Rattle.cw_model.specs.Answers.{Answer, refused, answered, at_open, at_worker, at_group}
use Rattle.cw_model.specs.Updates.{changes_row, ends_instances}
use Rattle.cw_group.specs.Circle.{delay_behind}

-- how many workers there may be
abbrev pub most_workers : ℕ
most_workers = 64

-- a new worker: the answer is its number
abbrev pub spawn : Cluster → Answer ℕ
spawn = at_open (λ s. if nat_lt (length s.rows) most_workers
    then answered (length s.rows) (record s { rows = s.rows ++ new_row ∷ [] })
    else refused TooMany s)

-- a worker that was killed
abbrev pub killed : Row → Row
killed row = record row { live = false }

-- a worker is killed, and what it ran ends
abbrev pub kill : ℕ → Cluster → Answer (Unit {0})
kill w = at_worker w (λ s. answered tt (ends_instances (is_at w) (changes_row w killed s)))

-- a worker no longer hears the group
abbrev pub deaf : ℕ → Cluster → Answer (Unit {0})
deaf w = at_worker w (λ s. answered tt (changes_row w (λ row. record row { hearing = false }) s))

-- a worker hears the group again
abbrev pub hear : ℕ → Cluster → Answer (Unit {0})
hear w = at_worker w (λ s. answered tt (changes_row w (λ row. record row { hearing = true }) s))

-- a member has departed: what it might run is lost
abbrev pub loses : Setting → List Item × GroupState → Cluster → Cluster
loses setting gone s = record s {
  group = gone.1;
  lost = s.lost ++ gone.0;
  delay = delay_behind setting.delay s.moment gone.0 s.delay;
}

-- the group lets a member go
abbrev pub expire : Setting → ℕ → Cluster → Answer (Unit {0})
expire setting w = at_open (λ s. at_group (expire_row w s.group) (λ gone. answered tt (loses setting gone s)) s)

-- the clock is set to a time in milliseconds, and never back: the answer is the moment then. It is no event, and moves
-- in a closed cluster too
abbrev pub clock : ℕ → Cluster → Answer ℕ
clock to s = answered (max s.moment to) (record s { moment = max s.moment to })
