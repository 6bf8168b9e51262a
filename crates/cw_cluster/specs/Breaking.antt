-- What is left of a world and of its outlet where a disk failed in a directive: of the one log that was written to
-- whichever images a stop leaves stand for its list before the event in flight or behind it, and all others hold what
-- stood before it. This project's own.
use Rattle.std.specs.Prelude.{◌≡◌, ◌≢◌, ◌⊎◌, ℕ, ◌&&◌, Bool, true, List, Option, None, is_some}
use Rattle.cw_types.specs.declared.logs.LogName.{LogName}
use Rattle.cw_types.specs.declared.logs.LogName.TheVariants.{Config, Offsets, Status, Txn, Batches}
use Rattle.cw_disk.specs.declared.device.Disk.{Ghosts}
use Rattle.cw_io.specs.declared.outlet.Outlet as outlet
use Rattle.cw_io.specs.Shelf.{Files}
use Rattle.cw_log.specs.Log.{kind_of}
use Rattle.cw_script.specs.declared.directive.Directive.{Directive}
use Rattle.cw_model.specs.State.{Setting, Cluster}
use Rattle.cw_model.specs.Reopening.{stored_of}
use Rattle.cw_world.specs.Logs.{LogsState, Holds, IsApart, LeavesNow, view_in, list_in}
use Rattle.cw_world.specs.World.{WorldState}
use Rattle.cw_run.specs.Flight.{IsInFlight, IsLastWord}
use Rattle.cw_run.specs.Ran.{Ran}

-- whether all logs tell what they hold
abbrev pub tell_all : {D : Type 0} → Ghosts D → LogsState D → Bool
tell_all G logs = is_some (view_in G Config logs).bodies && is_some (view_in G Offsets logs).bodies &&
    is_some (view_in G Status logs).bodies && is_some (view_in G Txn logs).bodies &&
    is_some (view_in G Batches logs).bodies

-- the running cluster of a world, beside files that are told
abbrev pub ran_with : {D : Type 0} → Ghosts D → WorldState D → Option Files → Ran
ran_with G world files = record { cluster = world.state; files = files; tells = tell_all G world.logs }

-- and beside those of an outlet
abbrev pub ran_of : {D U : Type 0} → Ghosts D → outlet.Ghosts U → WorldState D → U → Ran
ran_of G O world out = ran_with G world (O.files out)

-- each log has the kind of its name
abbrev pub HaveKinds : {D : Type 0} → Ghosts D → LogsState D → Type 0
HaveKinds G logs = (any : LogName) → (view_in G any logs).kind ≡ kind_of any

-- no disk has failed, and each log has the kind of its name
pub record IsAlive {D : Type 0} (G : Ghosts D) (world : WorldState D) : Type 0 where
  pub alive : world.state.closed ≡ None
  pub kinds : HaveKinds G world.logs

-- a disk failed in a directive that was played from a running cluster; these files are told
pub record IsBrokenWith {D : Type 0} (G : Ghosts D) (setting : Setting) (directive : Directive) (ran : Ran)
    (world : WorldState D) (files : Option Files) (said : List ℕ) : Type 0 where
  pub at : Ran
  pub next : Cluster
  pub log : LogName
  pub in_flight : IsInFlight setting directive ran at next
  pub apart : IsApart log (stored_of at.cluster) (stored_of next)
  pub left : at.tells ≡ true → LeavesNow G log world.logs
      (λ list. (list ≡ list_in log (stored_of at.cluster)) ⊎ (list ≡ list_in log (stored_of next)))
  pub others : (any : LogName) → log ≢ any → Holds any (stored_of at.cluster) (view_in G any world.logs)
  pub kinds : HaveKinds G world.logs
  pub tells : tell_all G world.logs ≡ at.tells
  pub same : files ≡ at.files
  pub last : IsLastWord directive said

-- and these are an outlet's
abbrev pub IsBrokenIn : {D U : Type 0} → Ghosts D → outlet.Ghosts U → Setting → Directive → Ran → WorldState D → U →
    List ℕ → Type 0
IsBrokenIn G O setting directive ran world out said =
    IsBrokenWith G setting directive ran world (O.files out) said
