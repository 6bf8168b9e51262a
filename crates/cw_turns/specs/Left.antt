-- What a server's world leaves of its disks where it ends: files that stand for its state, whichever images a stop
-- leaves of them; or where a disk failed, for the state before the event in flight or for the one behind it. This
-- project's own.
use Rattle.std.specs.Prelude.{◌≡◌, ◌⊎◌, ◌≤◌, ℕ, true, None, Some}
use Rattle.cw_types.specs.Faults.{Rose}
use Rattle.cw_types.specs.declared.logs.DiskName.{DiskName}
use Rattle.cw_disk.specs.declared.device.Disk.{Ghosts}
use Rattle.cw_disk.specs.declared.disks.Disks.{Disks}
use Rattle.cw_model.specs.State.{Cluster}
use Rattle.cw_model.specs.Reopening.{stored_of}
use Rattle.cw_open.specs.Leaving.{LeaveLists, MayLeaveAll, StandForLists}
use Rattle.cw_open.specs.Reopened.{DiskFiles, disk_in}
use Rattle.cw_run.specs.Reaches.{Reaches}
use Rattle.cw_turns.specs.Going.{Start}

-- a disk failed, and its count of faults rose: what a stop leaves stands for the state before the event in flight or
-- for the one behind it, and both are behind runs from the beginning
pub record IsLeftBroken {D : Type 0} (G : Ghosts D) (start : Start) (disks : Disks D) (left : Cluster)
    (disk : DiskName) (count : ℕ) : Type 0 where
  pub before : Cluster
  pub next : Cluster
  pub before_reached : Reaches start.setting start.state before
  pub next_reached : Reaches start.setting start.state next
  pub same : stored_of left ≡ stored_of before
  pub stands : start.tells ≡ true → (images : DiskFiles) → MayLeaveAll G disks images →
      StandForLists images (stored_of before) ⊎ StandForLists images (stored_of next)
  pub count_is : count ≡ G.count (disk_in disk disks)
  pub rose : Rose (start.counts disk) count

-- what is left behind a state that was come to
pub record IsLeftBehind {D : Type 0} (G : Ghosts D) (start : Start) (left : Cluster) (disks : Disks D) : Type 0 where
  pub reached : Reaches start.setting start.state left
  pub whole : left.closed ≡ None → start.tells ≡ true → LeaveLists G disks (stored_of left)
  pub broken : (disk : DiskName) (count : ℕ) → left.closed ≡ Some (disk, count) →
      IsLeftBroken G start disks left disk count
  pub later : (disk : DiskName) → start.counts disk ≤ G.count (disk_in disk disks)
