-- What a task runner does next with an instance. This project's own.
use Rattle.std.specs.Prelude.{◌≡◌, ◌≢◌, ◌<◌, ◌||◌, ⊤, ℕ, Bool, true, false, not, length, nat_lt, None, if◌then◌else◌}
use Rattle.cw_feed.specs.declared.cut.CutAnswer.{CutAnswer}
use Rattle.cw_model.specs.declared.instance.Instance.{Instance}
use Rattle.cw_model.specs.declared.instance.InstancePhase.{InstancePhase}
use Rattle.cw_model.specs.declared.instance.InstancePhase.TheVariants as phase
use Rattle.cw_model.specs.State.{Cluster}
use Rattle.cw_model.specs.Lookups.{instance_of}
use Rattle.cw_model.specs.Steps.{waits}
use Rattle.cw_model.specs.Polls.{is_something}
use Rattle.cw_model.specs.Tasks.{is_sink, parts_of}
use Rattle.cw_serve.specs.declared.polling.Work.{Work}
use Rattle.cw_serve.specs.declared.polling.Work.TheVariants as work
use Rattle.cw_serve.specs.Sharing.{SharedState, goes_on}

-- ---- what is done next

-- with an instance in a phase: a poll of a source or of a sink, unless its connector is paused, or a step
abbrev pub work_by : InstancePhase → (waits sink : Bool) → Work
work_by phase.Polling true sink = work.Paused
work_by phase.Polling false true = work.Gather
work_by phase.Polling false false = work.Scan
work_by phase.Ended waits sink = work.Nothing
work_by other waits sink = work.Step

-- with an instance of a cluster
abbrev pub work_with : Instance → Cluster → Work
work_with own s = work_by own.phase (waits own s) (is_sink own)

abbrev pub work_in : ℕ → Cluster → Work
work_in i s = if nat_lt i (length s.instances) then work_with (instance_of i s) s else work.Nothing

-- with an instance of what lies under the lock
abbrev pub work_for : {D : Type 0} → ℕ → SharedState D → Work
work_for i s = if goes_on s then work_in i s.world.state else work.Over

-- what was found may be taken: there is nothing, or the instance has the part of that turn
abbrev pub fits : Instance → CutAnswer → (turn : ℕ) → Bool
fits own found turn = not (is_something found) || nat_lt turn (length (parts_of own))

-- ---- what may be done then

-- it may step, and no disk has failed
pub record MayStep (i : ℕ) (s : Cluster) : Type 0 where
  pub there : i < length s.instances
  pub alive : s.closed ≡ None
  pub polls : (instance_of i s).phase ≢ phase.Polling

-- it polls, as a sink's task or as a source's
pub record MayPoll (i : ℕ) (s : Cluster) : Type 0 where
  pub there : i < length s.instances
  pub alive : s.closed ≡ None
  pub polls : (instance_of i s).phase ≡ phase.Polling

-- this may be done with it
abbrev pub IsWork : ℕ → Cluster → Work → Type 0
IsWork i s work.Over = ⊤
IsWork i s work.Nothing = ⊤
IsWork i s work.Paused = ⊤
IsWork i s work.Step = MayStep i s
IsWork i s work.Scan = MayPoll i s × (is_sink (instance_of i s) ≡ false)
IsWork i s work.Gather = MayPoll i s × (is_sink (instance_of i s) ≡ true)
