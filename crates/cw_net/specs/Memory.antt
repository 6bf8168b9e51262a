-- What clauses see of the listener and the clock in memory.
use Rattle.std.specs.Prelude.{ℕ, ◌+◌, ◌-◌, ◌^◌, min, List, Bool}
use Rattle.cw_io.specs.Calls.{Calls}

-- the links that are left, those that were given, whether it was said that there are no more, and the calls
pub record ListenerState (L : Type 0) : Type 0 where
  pub left : List L
  pub given : List L
  pub ended : Bool
  pub calls : Calls

-- the time that was told last, and by how much each is above the one before
pub record ClockState : Type 0 where
  pub last : ℕ
  pub step : ℕ

-- the next time; the greatest u64 stays
abbrev pub next_time : ClockState → ℕ
next_time clock = min (clock.last + clock.step) (2 ^ 64 - 1)
