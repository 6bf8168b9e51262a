-- What the turns of a cluster come to where they are taken one by one: each is done or refused as the cluster has it,
-- or memory is wanting, or a disk or an outlet fails. This project's own.
use Rattle.std.specs.Prelude.{◌≡◌, ◌≤◌, ◌<◌, ◌+◌, ◌||◌, ℕ, Bool, not, List, Some, None, is_none, Result, Ok, Err}
use Rattle.std.specs.List.{fold}
use Rattle.cw_io.specs.Shelf.{Files}
use Rattle.cw_types.specs.Faults.{Rose}
use Rattle.cw_model.specs.declared.did.Did.{Did}
use Rattle.cw_model.specs.declared.fault.WorldFault.{WorldFault}
use Rattle.cw_model.specs.declared.fault.WorldFault.TheVariants as world
use Rattle.cw_model.specs.declared.tick.Tick.{Tick}
use Rattle.cw_model.specs.State.{Setting, Cluster}
use Rattle.cw_model.specs.EventsItems.{is_active}
use Rattle.cw_model.specs.Steps.{step}
use Rattle.cw_model.specs.Tick.{rule_for}
use Rattle.cw_lines.specs.Players.{Faults, HasRisen}
use Rattle.cw_run.specs.Amid.{IsHalfSettled, IsCutSettling}
use Rattle.cw_run.specs.Flight.{IsBehindTurn}
use Rattle.cw_run.specs.Ran.{Ran, RanAnswer, ran_tick, ran_step, IsCutIn}
use Rattle.cw_run.specs.Settling.{Settled, settled, ticks, steps, is_rest}
use Rattle.cw_cluster.specs.declared.turn.TurnFault.{TurnFault}
use Rattle.cw_cluster.specs.declared.turn.TurnFault.TheVariants.{Refused, Memory, Store, Outlet}

-- ---- one turn

-- it was done or refused; or memory is wanting, and nothing has changed; or a disk failed; or an outlet failed, and
-- what was to be written there was cut off
abbrev pub IsTurn : {A : Type 0} → (broken : Ran → Cluster → Type 0) → (cut : Ran → Ran → Type 0) → RanAnswer A →
    (old new : Ran) → Result A TurnFault → Type 0
IsTurn broken cut turn old new (Ok x) = turn ≡ (Ok x, new)
IsTurn broken cut turn old new (Err (Refused fault)) = turn ≡ (Err fault, new)
IsTurn broken cut turn old new (Err Memory) = new ≡ old
IsTurn broken cut turn old new (Err (Store disk count)) = broken old turn.1.cluster
IsTurn broken cut turn old new (Err Outlet) = cut old new

-- why an event's refusal is no turn: memory is wanting, a disk failed, or the cluster refuses it
abbrev pub fault_of_turn : WorldFault → TurnFault
fault_of_turn (world.StoreFault disk count) = Store disk count
fault_of_turn world.Memory = Memory
fault_of_turn (world.Fenced own current) = Refused (world.Fenced own current)
fault_of_turn (world.StaleGeneration own current) = Refused (world.StaleGeneration own current)
fault_of_turn world.PendingFence = Refused world.PendingFence
fault_of_turn (world.BadCut from to) = Refused (world.BadCut from to)
fault_of_turn (world.Gone i) = Refused (world.Gone i)
fault_of_turn (world.Full log length frame) = Refused (world.Full log length frame)
fault_of_turn (world.Closed disk count) = Refused (world.Closed disk count)
fault_of_turn (world.Dead w) = Refused (world.Dead w)
fault_of_turn (world.Group cause) = Refused (world.Group cause)
fault_of_turn world.TooMany = Refused world.TooMany

-- a worker's tick, which writes no file
abbrev pub IsTick : (broken : Ran → Cluster → Type 0) → ℕ → (old new : Ran) → Result Tick TurnFault → Type 0
IsTick broken w old new result = IsTurn broken (λ r t. ⊥) (ran_tick w old) old new result

-- an instance's step, whose delivery is cut off where the outlet fails
abbrev pub IsStep : (broken : Ran → Cluster → Type 0) → Setting → ℕ → (old new : Ran) → Result Did TurnFault → Type 0
IsStep broken setting i old new result = IsTurn broken (IsCutIn i) (ran_step setting i old) old new result

-- what is so where a turn failed: of a disk and of an outlet, that its count of faults rose
abbrev pub TurnCaused : (old new : Faults) → TurnFault → Type 0
TurnCaused old new (Refused fault) = Unit {0}
TurnCaused old new Memory = Unit {0}
TurnCaused old new (Store disk count) = HasRisen (old.disks disk) (new.disks disk) count
TurnCaused old new Outlet = Rose old.outlet new.outlet

-- nothing is broken, unless a disk failed
abbrev pub UnlessBroken : {A : Type 0} → Type 0 → Result A TurnFault → Type 0
UnlessBroken alive (Ok x) = alive
UnlessBroken alive (Err (Refused fault)) = alive
UnlessBroken alive (Err Memory) = alive
UnlessBroken alive (Err (Store disk count)) = Unit {0}
UnlessBroken alive (Err Outlet) = alive

-- ---- turns

-- turns by the most that may move
abbrev pub Turns : Type 0
Turns = (most : ℕ) → Settled → Settled

-- so much has moved, and nothing refused
abbrev pub moved_to : ℕ → Ran → Settled
moved_to moved r = record { moved = moved; refused = None; ran = r }

-- Turns are taken as far as others are left. It is the same with any limit that what has moved is within.
pub record LeadsTo (turns left : Turns) (most from : ℕ) (r : Ran) (to : ℕ) (t : Ran) : Type 0 where
  pub rises : from ≤ to
  pub within : to ≤ most
  pub same : (k : ℕ) → to ≤ k → k ≤ most → turns k (moved_to from r) ≡ left k (moved_to to t)

-- all are taken
abbrev pub none_left : Turns
none_left most g = g

-- fewer of them have moved something
pub record IsStage (turns : Turns) (most from : ℕ) (r t : Ran) : Type 0 where
  pub moved : ℕ
  pub rises : from ≤ moved
  pub within : moved ≤ most
  pub is : turns moved (moved_to from r) ≡ moved_to moved t

-- Fewer have, and the delivery of an instance was cut off in its step. Where files are told and no disk has failed,
-- that is the next that moves something.
pub record IsCutStage (setting : Setting) (turns : Turns) (most from : ℕ) (r t : Ran) : Type 0 where
  pub moved : ℕ
  pub at : Ran
  pub rises : from ≤ moved
  pub within : moved < most
  pub is : turns moved (moved_to from r) ≡ moved_to moved at
  pub instance : ℕ
  pub cut : IsCutIn instance at t
  pub next : (held : Files) → at.files ≡ Some held → at.cluster.closed ≡ None →
      turns (moved + 1) (moved_to from r) ≡ moved_to (moved + 1) (ran_step setting instance at).1

-- a disk failed where a state that was come to was to become the one behind its next turn
pub record IsBroken (broken : Ran → Cluster → Type 0) (setting : Setting) (stage : Ran → Type 0) : Type 0 where
  pub at : Ran
  pub next : Cluster
  pub came : stage at
  pub turn : IsBehindTurn setting at.cluster next
  pub left : broken at next

-- one of them refused
pub record IsRefused (g : Settled) (fault : WorldFault) (t : Ran) : Type 0 where
  pub refused : g.refused ≡ Some fault
  pub ran : g.ran ≡ t

-- why they stopped, where that is so at the end and these are the states that they may be left in, or cut off in
abbrev pub Stops : (broken : Ran → Cluster → Type 0) → Setting → Settled → (stage cut : Ran → Type 0) → (new : Ran) →
    TurnFault → Type 0
Stops broken setting g stage cut new (Refused fault) = IsRefused g fault new
Stops broken setting g stage cut new Memory = stage new
Stops broken setting g stage cut new (Store disk count) = IsBroken broken setting stage
Stops broken setting g stage cut new Outlet = cut new

-- some turns were taken from a state on, in which so much had moved
abbrev pub TakesTurns : (broken : Ran → Cluster → Type 0) → Setting → Turns → (most from : ℕ) → (old new : Ran) →
    Result ℕ TurnFault → Type 0
TakesTurns broken setting turns most from old new (Ok to) = LeadsTo turns none_left most from old to new
TakesTurns broken setting turns most from old new (Err fault) =
    Stops broken setting (turns most (moved_to from old)) (IsStage turns most from old)
    (IsCutStage setting turns most from old) new fault

-- a worker's
abbrev pub ticks_of : ℕ → Turns
ticks_of w most g = ticks most g w

-- those of some workers
abbrev pub tick_each : List ℕ → Turns
tick_each ws most g = fold (ticks most) g ws

-- an instance's
abbrev pub steps_of : Setting → ℕ → Turns
steps_of setting i most g = steps setting most g i

-- those of some instances
abbrev pub step_each : Setting → List ℕ → Turns
step_each setting is most g = fold (steps setting most) g is

-- ---- a cluster settles

-- it settled
pub record HasSettled (setting : Setting) (most : ℕ) (old new : Ran) (moved : ℕ) : Type 0 where
  pub ran : new ≡ (settled setting most old).ran
  pub count : moved ≡ (settled setting most old).moved
  pub refused : (settled setting most old).refused ≡ None

-- it settled, or stopped on its way
abbrev pub Settles : (broken : Ran → Cluster → Type 0) → Setting → (most : ℕ) → (old new : Ran) →
    Result ℕ TurnFault → Type 0
Settles broken setting most old new (Ok moved) = HasSettled setting most old new moved
Settles broken setting most old new (Err fault) =
    Stops broken setting (settled setting most old) (IsHalfSettled setting most old) (IsCutSettling setting most old)
    new fault

-- ---- a look at each

-- whether a worker takes no part or is idle
abbrev pub is_idle_at : ℕ → Cluster → Bool
is_idle_at w s = not (is_active s w) || is_none (rule_for w s)

-- whether an instance's step would find nothing to do
abbrev pub rests_at : Setting → ℕ → Cluster → Bool
rests_at setting i s = is_rest (step setting i s).0
