-- What is left where a disk failed in a turn of a cluster that settles. This project's own.
use Rattle.std.specs.Prelude.{◌≡◌, ◌≢◌, ◌⊎◌, ℕ, true, List, Option}
use Rattle.cw_types.specs.declared.logs.LogName.{LogName}
use Rattle.cw_disk.specs.declared.device.Disk.{Ghosts}
use Rattle.cw_io.specs.Shelf.{Files}
use Rattle.cw_model.specs.State.{Cluster}
use Rattle.cw_model.specs.Reopening.{stored_of}
use Rattle.cw_world.specs.Logs.{Holds, IsApart, LeavesNow, view_in, list_in}
use Rattle.cw_world.specs.World.{WorldState}
use Rattle.cw_run.specs.Ran.{Ran}
use Rattle.cw_cluster.specs.Breaking.{HaveKinds, tell_all}

-- A disk failed where the one running cluster was to get the other state: of the one log that was written to whichever
-- images a stop leaves stand for its list before or behind the event, and all else is as it was.
pub record IsBrokenAt {D : Type 0} (G : Ghosts D) (at : Ran) (next : Cluster) (world : WorldState D)
    (files : Option Files) : Type 0 where
  pub log : LogName
  pub apart : IsApart log (stored_of at.cluster) (stored_of next)
  pub left : at.tells ≡ true → LeavesNow G log world.logs
      (λ list. (list ≡ list_in log (stored_of at.cluster)) ⊎ (list ≡ list_in log (stored_of next)))
  pub others : (any : LogName) → log ≢ any → Holds any (stored_of at.cluster) (view_in G any world.logs)
  pub kinds : HaveKinds G world.logs
  pub tells : tell_all G world.logs ≡ at.tells
  pub same : files ≡ at.files
