-- What follows of a cluster that was opened.
use Rattle.std.proofs.Common.{◌≡◌, inl, inr, ℕ, Bool, true, false, List, Option, Some}
use Rattle.cw_disk.specs.declared.device.Disk.{Ghosts}
use Rattle.cw_disk.specs.declared.disks.Disks.{Disks}
use Rattle.cw_log.specs.Log.{IsUnmade, OpensAs, kind_of, new_log}
use Rattle.cw_pair.specs.Pair.{IsRight}
use Rattle.cw_pair.specs.State.{OpensPairAs, Sides, sides_of}
use Rattle.cw_pair.proofs.Pairs.{not_both}
use Rattle.cw_types.specs.declared.logs.LogName.TheVariants.{Config, Offsets, Status, Txn, Batches}
use Rattle.cw_open.specs.OpenedFrom.{AreFrom}
use Rattle.cw_open.specs.Reopened.{DiskFiles, TellAll}
use Rattle.cw_world.specs.Ending.{disks_of}
use Rattle.cw_world.specs.Logs.{LogsState}
use Rattle.cw_cluster.specs.Breaking.{tell_all}
use Rattle.cw_connect.specs.Making.{AreMade, AreUnmade}
use Rattle.std.proofs.lemmas.Bool.{and_from}

-- logs that were opened from disks that tell their files tell their lists
pub tells_all : {D : Type 0} (G : Ghosts D) (disks : Disks D) (logs : LogsState D) (files : DiskFiles) → AreFrom G disks logs → TellAll G disks files → tell_all G logs ≡ true
tells_all G disks logs files from tell =
    and_from _ _ (and_from _ _ (and_from _ _ (and_from _ _
    (from.config.tells files.config_a files.config_b tell.0.0 tell.0.1)
    (from.offsets.tells files.offsets_a files.offsets_b tell.1.0.0 tell.1.0.1))
    (from.status.tells files.status_a files.status_b tell.1.1.0.0 tell.1.1.0.1))
    (from.txn.tells files.txn tell.1.1.1.0))
    (from.batches.tells files.batches tell.1.1.1.1.0)

-- ---- logs that were made

opens_new : (kind number : ℕ) (file : List ℕ) (now : Option (List ℕ)) → IsUnmade file → OpensAs kind number file now → now ≡ Some (new_log kind)
opens_new kind number file now unmade (inl made) = made.1
opens_new kind number file now unmade (inr side) = absurd (not_both number file unmade side.0)

-- of two sides side a is made, and side b keeps its file
record IsPairMade {D : Type 0} (G : Ghosts D) (kind : ℕ) (b : List ℕ) (now : Sides D) : Type 0 where
  made : G.holds now.a ≡ Some (new_log kind)
  kept : G.holds now.b ≡ Some b

pair_made : {D : Type 0} (G : Ghosts D) (kind number : ℕ) (on_b : Bool) (a b : List ℕ) (chosen other : D) → IsUnmade a → IsUnmade b → IsRight kind on_b a b →
    OpensPairAs kind on_b number a b (G.holds chosen) (G.holds other) → IsPairMade G kind b (sides_of on_b chosen other)
pair_made G kind number true a b chosen other unmade_a unmade_b right opens = absurd (not_both right.number b unmade_b right.head.side)
pair_made G kind number false a b chosen other unmade_a unmade_b right opens = record { made = opens_new kind number a (G.holds chosen) unmade_a opens.0; kept = opens.1 }

pub all_made : {D : Type 0} (G : Ghosts D) (disks : Disks D) (logs : LogsState D) (files : DiskFiles) → AreFrom G disks logs → TellAll G disks files → AreUnmade files → AreMade G files (disks_of logs)
all_made G disks logs files from tell unmade =
    let config = pair_made G (kind_of Config) logs.config.log.number logs.config.on_b files.config_a files.config_b logs.config.log.disk logs.config.other unmade.config_a unmade.config_b
    (from.config.side files.config_a files.config_b tell.0.0 tell.0.1) (from.config.bytes files.config_a files.config_b tell.0.0 tell.0.1) in
    let offsets = pair_made G (kind_of Offsets) logs.offsets.log.number logs.offsets.on_b files.offsets_a files.offsets_b logs.offsets.log.disk logs.offsets.other unmade.offsets_a unmade.offsets_b
    (from.offsets.side files.offsets_a files.offsets_b tell.1.0.0 tell.1.0.1) (from.offsets.bytes files.offsets_a files.offsets_b tell.1.0.0 tell.1.0.1) in
    let status = pair_made G (kind_of Status) logs.status.log.number logs.status.on_b files.status_a files.status_b logs.status.log.disk logs.status.other unmade.status_a unmade.status_b
    (from.status.side files.status_a files.status_b tell.1.1.0.0 tell.1.1.0.1) (from.status.bytes files.status_a files.status_b tell.1.1.0.0 tell.1.1.0.1) in
    record {
      config_a = config.made;
      config_b = config.kept;
      offsets_a = offsets.made;
      offsets_b = offsets.kept;
      status_a = status.made;
      status_b = status.kept;
      txn = opens_new (kind_of Txn) logs.txn.number files.txn (G.holds logs.txn.disk) unmade.txn (from.txn.bytes files.txn tell.1.1.1.0);
      batches = opens_new (kind_of Batches) logs.batches.number files.batches (G.holds logs.batches.disk) unmade.batches (from.batches.bytes files.batches tell.1.1.1.1.0);
    }
