-- Which file of the folder `connect-data` a disk is: the file has the name of the disk (this project's own format).
use Rattle.std.specs.Prelude.{ℕ, List, codes, ◌≡◌}
use Rattle.cw_types.specs.declared.logs.DiskName.{DiskName}
use Rattle.cw_types.specs.declared.logs.DiskName.TheVariants.{ConfigA, ConfigB, OffsetsA, OffsetsB, StatusA, StatusB}
use Rattle.cw_types.specs.declared.logs.DiskName.TheVariants.{Txn, Batches}
use Rattle.cw_disk.specs.declared.disks.Disks.{Disks}

-- where the file of a disk lies
abbrev pub path_text : DiskName → List ℕ
path_text ConfigA = codes "connect-data/config_a"
path_text ConfigB = codes "connect-data/config_b"
path_text OffsetsA = codes "connect-data/offsets_a"
path_text OffsetsB = codes "connect-data/offsets_b"
path_text StatusA = codes "connect-data/status_a"
path_text StatusB = codes "connect-data/status_b"
path_text Txn = codes "connect-data/txn"
path_text Batches = codes "connect-data/batches"

-- each field is the disk of its own name
pub record AreNamed {D : Type 0} (name : D → DiskName) (disks : Disks D) : Type 0 where
  pub config_a : name disks.config_a ≡ ConfigA
  pub config_b : name disks.config_b ≡ ConfigB
  pub offsets_a : name disks.offsets_a ≡ OffsetsA
  pub offsets_b : name disks.offsets_b ≡ OffsetsB
  pub status_a : name disks.status_a ≡ StatusA
  pub status_b : name disks.status_b ≡ StatusB
  pub txn : name disks.txn ≡ Txn
  pub batches : name disks.batches ≡ Batches

-- no fault was counted yet
pub record AreFresh {D : Type 0} (count : D → ℕ) (disks : Disks D) : Type 0 where
  pub config_a : count disks.config_a ≡ 0
  pub config_b : count disks.config_b ≡ 0
  pub offsets_a : count disks.offsets_a ≡ 0
  pub offsets_b : count disks.offsets_b ≡ 0
  pub status_a : count disks.status_a ≡ 0
  pub status_b : count disks.status_b ≡ 0
  pub txn : count disks.txn ≡ 0
  pub batches : count disks.batches ≡ 0
