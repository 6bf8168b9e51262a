-- The world: a state of the cluster, and the five logs that hold what stands in it; and what an event does to both.
use Rattle.std.specs.Prelude.{◌≡◌, ◌≢◌, ◌⊎◌, ℕ, List, Some, None, Result, Ok, Err}
use Rattle.logbook.specs.Pages.{Book}
use Rattle.cw_types.specs.declared.logs.LogName.{LogName}
use Rattle.cw_types.specs.declared.logs.DiskName.{DiskName}
use Rattle.cw_disk.specs.declared.device.Disk.{Ghosts}
use Rattle.cw_model.specs.declared.fault.WorldFault.{WorldFault}
use Rattle.cw_model.specs.declared.fault.WorldFault.TheVariants.{Memory, StoreFault}
use Rattle.cw_model.specs.State.{Setting, Cluster}
use Rattle.cw_model.specs.Answers.{Answer}
use Rattle.cw_model.specs.Facts.{AreFacts}
use Rattle.cw_model.specs.Reopening.{stored_of, closed_by}
use Rattle.cw_world.specs.Logs.{LogsState, HoldAll, AreSides, HaveSameOthers, HasSameBodies, KeepsOn, AddsTo, LeavesNow}
use Rattle.cw_world.specs.Logs.{IsApart, view_in, list_in, faults_in}
use Rattle.cw_world.specs.Write.{FailsOn}

-- the state, what stays the same, the logs, and which world it is
pub record WorldState (D : Type 0) : Type 0 where
  pub setting : Setting
  pub state : Cluster
  pub logs : LogsState D
  pub name : Book

-- all facts of the state; and while it is open, the logs hold just what stands in it, each on the side of its number
pub record IsWorld {D : Type 0} (G : Ghosts D) (setting : Setting) (s : Cluster) (logs : LogsState D) : Type 0 where
  pub facts : AreFacts setting s
  pub holds : s.closed ≡ None → HoldAll G (stored_of s) logs
  pub sides : s.closed ≡ None → AreSides (stored_of s) logs

-- ---- what an event that touches no log does

-- it is done, or is refused, just as the model says
pub record Does {D A : Type 0} (event : Cluster → Answer A) (old new : WorldState D) (result : Result A WorldFault)
    : Type 0 where
  pub row : event old.state ≡ (result, new.state)
  pub setting : new.setting ≡ old.setting
  pub logs : new.logs ≡ old.logs
  pub name : new.name ≡ old.name

-- the same, or memory is wanting and nothing has changed
pub record DoesOrWants {D A : Type 0} (event : Cluster → Answer A) (old new : WorldState D)
    (result : Result A WorldFault) : Type 0 where
  pub done : result ≢ Err Memory → event old.state ≡ (result, new.state)
  pub wants : result ≡ Err Memory → new.state ≡ old.state
  pub setting : new.setting ≡ old.setting
  pub logs : new.logs ≡ old.logs
  pub name : new.name ≡ old.name

-- ---- what an event that writes to a log does

-- memory is wanting: the state and the log's list are as before
pub record RunsOut {D A : Type 0} (G : Ghosts D) (log : LogName) (old new : WorldState D) (result : Result A WorldFault)
    : Type 0 where
  pub answer : result ≡ Err Memory
  pub state : new.state ≡ old.state
  pub same : HasSameBodies (view_in G log old.logs) (view_in G log new.logs)

-- A disk of the log failed where the event would have been done: its count rose in this call, and all writing has
-- ended. Whichever image a stop leaves of the log's disks, it stands for the list before the event or the one behind
-- it. The event changes the list of no other log.
pub record Breaks {D A : Type 0} (G : Ghosts D) (log : LogName) (event : Cluster → Answer A) (old new : WorldState D)
    (result : Result A WorldFault) : Type 0 where
  pub disk : DiskName
  pub count : ℕ
  pub answer : result ≡ Err (StoreFault disk count)
  pub meant : A
  pub due : (event old.state).0 ≡ Ok meant
  pub state : new.state ≡ closed_by disk count old.state
  pub fails : FailsOn log (faults_in G log old.logs) (faults_in G log new.logs) disk count
  pub same : HasSameBodies (view_in G log old.logs) (view_in G log new.logs)
  pub left : (told : List (List ℕ)) → (view_in G log old.logs).bodies ≡ Some told →
      LeavesNow G log new.logs (λ list. (list ≡ list_in log (stored_of old.state)) ⊎
      (list ≡ list_in log (stored_of (event old.state).1)))
  pub apart : IsApart log (stored_of old.state) (stored_of (event old.state).1)

-- The event is done, or is refused, just as the model says; or memory is wanting, or a disk failed. No other log
-- changes, and of its own a stop at any moment of the call leaves the list before the event or the one behind it.
pub record Writes {D A : Type 0} (G : Ghosts D) (log : LogName) (event : Cluster → Answer A) (old new : WorldState D)
    (result : Result A WorldFault) : Type 0 where
  pub answers : (event old.state ≡ (result, new.state)) ⊎
      (RunsOut G log old new result ⊎ Breaks G log event old new result)
  pub setting : new.setting ≡ old.setting
  pub name : new.name ≡ old.name
  pub others : HaveSameOthers log old.logs new.logs
  pub leaves : (told : List (List ℕ)) → (view_in G log old.logs).bodies ≡ Some told →
      AddsTo G log old.logs new.logs (λ list. (list ≡ list_in log (stored_of old.state)) ⊎
      (list ≡ list_in log (stored_of (event old.state).1)))
  pub keeps : KeepsOn (view_in G log old.logs) (view_in G log new.logs) (faults_in G log old.logs)
      (faults_in G log new.logs)

-- ---- what any event does

-- The event is done, or is refused, just as the model says; or memory is wanting, or a disk of one log failed. No other
-- log changes, and of each log a stop at any moment of the call leaves the list before the event or the one behind it.
pub record Acts {D A : Type 0} (G : Ghosts D) (event : Cluster → Answer A) (old new : WorldState D)
    (result : Result A WorldFault) : Type 0 where
  pub log : LogName
  pub answers : (event old.state ≡ (result, new.state)) ⊎
      (RunsOut G log old new result ⊎ Breaks G log event old new result)
  pub setting : new.setting ≡ old.setting
  pub name : new.name ≡ old.name
  pub others : HaveSameOthers log old.logs new.logs
  pub leaves : (any : LogName) → (told : List (List ℕ)) → (view_in G any old.logs).bodies ≡ Some told →
      AddsTo G any old.logs new.logs (λ list. (list ≡ list_in any (stored_of old.state)) ⊎
      (list ≡ list_in any (stored_of (event old.state).1)))
  pub keeps : (any : LogName) → KeepsOn (view_in G any old.logs) (view_in G any new.logs)
      (faults_in G any old.logs) (faults_in G any new.logs)
