-- What a stop may leave of the eight disks of a cluster, and for which lists it stands, whatever the numbers of the
-- sides are. This project's own.
use Rattle.std.specs.Prelude.{◌≡◌, ℕ}
use Rattle.cw_types.specs.declared.logs.LogName.TheVariants.{Config, Offsets, Status, Txn, Batches}
use Rattle.cw_disk.specs.declared.device.Disk.{Ghosts}
use Rattle.cw_disk.specs.declared.disks.Disks.{Disks}
use Rattle.cw_log.specs.Log.{StandsFor, kind_of}
use Rattle.cw_pair.specs.Pair.{PairStandsFor}
use Rattle.cw_model.specs.State.{Cluster}
use Rattle.cw_model.specs.StandsFor.{Stored}
use Rattle.cw_world.specs.Logs.{LogsState}
use Rattle.cw_open.specs.Reopened.{DiskFiles, OnReopenCause}
use Rattle.cw_open.specs.declared.reopen_fault.ReopenCause.{ReopenCause}

-- eight files stand for these lists
pub record StandForLists (files : DiskFiles) (stored : Stored) : Type 0 where
  pub config : PairStandsFor (kind_of Config) stored.config.frames files.config_a files.config_b
  pub offsets : PairStandsFor (kind_of Offsets) stored.offsets.frames files.offsets_a files.offsets_b
  pub status : PairStandsFor (kind_of Status) stored.status.frames files.status_a files.status_b
  pub txn : StandsFor (kind_of Txn) stored.txn files.txn
  pub batches : StandsFor (kind_of Batches) stored.batches files.batches

-- a stop may leave these of the eight disks
pub record MayLeaveAll {D : Type 0} (G : Ghosts D) (disks : Disks D) (images : DiskFiles) : Type 0 where
  pub config_a : G.may_leave disks.config_a images.config_a
  pub config_b : G.may_leave disks.config_b images.config_b
  pub offsets_a : G.may_leave disks.offsets_a images.offsets_a
  pub offsets_b : G.may_leave disks.offsets_b images.offsets_b
  pub status_a : G.may_leave disks.status_a images.status_a
  pub status_b : G.may_leave disks.status_b images.status_b
  pub txn : G.may_leave disks.txn images.txn
  pub batches : G.may_leave disks.batches images.batches

-- a stop leaves nothing but files that stand for these lists
abbrev pub LeaveLists : {D : Type 0} → Ghosts D → Disks D → Stored → Type 0
LeaveLists G disks stored = (images : DiskFiles) → MayLeaveAll G disks images → StandForLists images stored

-- the same state on sides with other numbers
abbrev pub on_sides : (config offsets status : ℕ) → Cluster → Cluster
on_sides config offsets status s = record s {
  config = record { frames = s.config.frames; side = config };
  offsets = record { frames = s.offsets.frames; side = offsets };
  status = record { frames = s.status.frames; side = status };
}

-- the state is the same, but for the numbers of the sides
abbrev pub IsSameBesidesSides : Cluster → Cluster → Type 0
IsSameBesidesSides s t = t ≡ on_sides t.config.side t.offsets.side t.status.side s

-- no harm is met
abbrev pub IsNoDamage : ReopenCause → Type 0
IsNoDamage cause = OnReopenCause (λ at place harm. ⊥) (λ at count. Unit {0}) (Unit {0}) cause

-- each log has the kind of its name
pub record HaveKinds {D : Type 0} (logs : LogsState D) : Type 0 where
  pub config : logs.config.log.kind ≡ kind_of Config
  pub offsets : logs.offsets.log.kind ≡ kind_of Offsets
  pub status : logs.status.log.kind ≡ kind_of Status
  pub txn : logs.txn.kind ≡ kind_of Txn
  pub batches : logs.batches.kind ≡ kind_of Batches
