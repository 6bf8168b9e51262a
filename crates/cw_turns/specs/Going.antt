-- How a server's world stands to the one that the server began with: its state is behind a run from there, whichever
-- turns were taken in whatever order; and where a disk failed, the state before the event in flight is behind such a
-- run, and so is the one that the event was to make. This project's own.
use Rattle.std.specs.Prelude.{◌≡◌, ◌≢◌, ◌⊎◌, ◌≤◌, ℕ, Bool, true, Some}
use Rattle.logbook.specs.Pages.{Book}
use Rattle.cw_types.specs.Faults.{Rose}
use Rattle.cw_types.specs.declared.logs.DiskName.{DiskName}
use Rattle.cw_types.specs.declared.logs.LogName.{LogName}
use Rattle.cw_disk.specs.declared.device.Disk.{Ghosts}
use Rattle.cw_model.specs.State.{Setting, Cluster}
use Rattle.cw_model.specs.Reopening.{stored_of}
use Rattle.cw_world.specs.Ending.{disks_of}
use Rattle.cw_world.specs.Logs.{Holds, IsApart, LeavesNow, view_in, list_in}
use Rattle.cw_world.specs.World.{WorldState}
use Rattle.cw_open.specs.Reopened.{disk_in}
use Rattle.cw_run.specs.Reaches.{Reaches, HaveNames}
use Rattle.cw_cluster.specs.Breaking.{HaveKinds, tell_all}

-- what was so where a server began: what its cluster is set to, its state, the world's name, each disk's count of
-- faults, and whether all logs told what they hold
pub record Start : Type 0 where
  pub setting : Setting
  pub state : Cluster
  pub name : Book
  pub counts : DiskName → ℕ
  pub tells : Bool

-- a server begins with this world
abbrev pub start_of : {D : Type 0} → Ghosts D → WorldState D → Start
start_of G world = record {
  setting = world.setting;
  state = world.state;
  name = world.name;
  counts = λ disk. G.count (disk_in disk (disks_of world.logs));
  tells = tell_all G world.logs;
}

-- A disk failed where the cluster was to come from one state to another, and its count of faults rose since the
-- beginning. Of the one log that was written to, whichever images a stop leaves stand for its list before the event or
-- behind it; all others hold what they held.
pub record IsBroken {D : Type 0} (G : Ghosts D) (start : Start) (now : WorldState D) (disk : DiskName) (count : ℕ)
    : Type 0 where
  pub before : Cluster
  pub next : Cluster
  pub log : LogName
  pub before_reached : Reaches start.setting start.state before
  pub next_reached : Reaches start.setting start.state next
  pub same : stored_of now.state ≡ stored_of before
  pub apart : IsApart log (stored_of before) (stored_of next)
  pub left : start.tells ≡ true → LeavesNow G log now.logs
      (λ list. (list ≡ list_in log (stored_of before)) ⊎ (list ≡ list_in log (stored_of next)))
  pub others : (any : LogName) → log ≢ any → Holds any (stored_of before) (view_in G any now.logs)
  pub count_is : count ≡ G.count (disk_in disk (disks_of now.logs))
  pub rose : Rose (start.counts disk) count

-- a server's world goes on from where it began
pub record GoesOn {D : Type 0} (G : Ghosts D) (start : Start) (now : WorldState D) : Type 0 where
  pub names : HaveNames start.setting
  pub reached : Reaches start.setting start.state now.state
  pub setting : now.setting ≡ start.setting
  pub name : now.name ≡ start.name
  pub kinds : HaveKinds G now.logs
  pub tells : tell_all G now.logs ≡ start.tells
  pub later : (disk : DiskName) → start.counts disk ≤ G.count (disk_in disk (disks_of now.logs))
  pub broken : (disk : DiskName) (count : ℕ) → now.state.closed ≡ Some (disk, count) →
      IsBroken G start now disk count
