-- Disks on which nothing was written yet, and those on which an opening has made the logs, as the first worker of a
-- Kafka Connect group makes its topics. This project's own, as are the files.
use Rattle.std.specs.Prelude.{◌≡◌, Some}
use Rattle.cw_disk.specs.declared.device.Disk.{Ghosts}
use Rattle.cw_disk.specs.declared.disks.Disks.{Disks}
use Rattle.cw_log.specs.Log.{IsUnmade, kind_of, new_log}
use Rattle.cw_open.specs.Reopened.{DiskFiles}
use Rattle.cw_types.specs.declared.logs.LogName.{LogName}
use Rattle.cw_types.specs.declared.logs.LogName.TheVariants.{Config, Offsets, Status, Txn, Batches}

-- no log is made
pub record AreUnmade (files : DiskFiles) : Type 0 where
  pub config_a : IsUnmade files.config_a
  pub config_b : IsUnmade files.config_b
  pub offsets_a : IsUnmade files.offsets_a
  pub offsets_b : IsUnmade files.offsets_b
  pub status_a : IsUnmade files.status_a
  pub status_b : IsUnmade files.status_b
  pub txn : IsUnmade files.txn
  pub batches : IsUnmade files.batches

-- a disk has a log of this name without a body
abbrev pub HasNewLog : {D : Type 0} → Ghosts D → LogName → D → Type 0
HasNewLog G name disk = G.holds disk ≡ Some (new_log (kind_of name))

-- each log is made: of two sides side a, and side b has the file that it had
pub record AreMade {D : Type 0} (G : Ghosts D) (files : DiskFiles) (disks : Disks D) : Type 0 where
  pub config_a : HasNewLog G Config disks.config_a
  pub config_b : G.holds disks.config_b ≡ Some files.config_b
  pub offsets_a : HasNewLog G Offsets disks.offsets_a
  pub offsets_b : G.holds disks.offsets_b ≡ Some files.offsets_b
  pub status_a : HasNewLog G Status disks.status_a
  pub status_b : G.holds disks.status_b ≡ Some files.status_b
  pub txn : HasNewLog G Txn disks.txn
  pub batches : HasNewLog G Batches disks.batches
