-- A world that was given back: its disks, and what a stop leaves of them.
use Rattle.std.specs.Prelude.{◌≡◌, ℕ, List, Some, false}
use Rattle.cw_disk.specs.declared.device.Disk.{Ghosts}
use Rattle.cw_disk.specs.declared.disks.Disks.{Disks}
use Rattle.cw_log.specs.Log.{StandsFor}
use Rattle.cw_log.specs.State.{LogState}
use Rattle.cw_pair.specs.Pair.{PairStandsFor}
use Rattle.cw_pair.specs.State.{PairState, bodies_of, disks_of as sides}
use Rattle.cw_model.specs.StandsFor.{Stored}
use Rattle.cw_world.specs.Logs.{LogsState}

-- the disks of the logs
abbrev pub disks_of : {D : Type 0} → LogsState D → Disks D
disks_of logs = record {
  config_a = (sides logs.config).a;
  config_b = (sides logs.config).b;
  offsets_a = (sides logs.offsets).a;
  offsets_b = (sides logs.offsets).b;
  status_a = (sides logs.status).a;
  status_b = (sides logs.status).b;
  txn = logs.txn.disk;
  batches = logs.batches.disk;
}

-- a stop leaves two images that stand for this list, where the disks tell what they hold
abbrev pub LeavesPair : {D : Type 0} → Ghosts D → PairState D → D → D → List (List ℕ) → Type 0
LeavesPair G pair a b list = (told : List (List ℕ)) → bodies_of G pair ≡ Some told → (image_a image_b : List ℕ) →
    G.may_leave a image_a → G.may_leave b image_b → PairStandsFor pair.log.kind list image_a image_b

-- a stop leaves an image that does
abbrev pub LeavesLog : {D : Type 0} → Ghosts D → LogState D → D → List (List ℕ) → Type 0
LeavesLog G log disk list = (told : List (List ℕ)) → log.bodies ≡ Some told → (image : List ℕ) →
    G.may_leave disk image → StandsFor log.kind list image

-- what a stop leaves of each disk stands for what is stored
pub record LeaveStored {D : Type 0} (G : Ghosts D) (stored : Stored) (logs : LogsState D) (disks : Disks D) : Type 0
  where
    pub config : LeavesPair G logs.config disks.config_a disks.config_b stored.config.frames
    pub offsets : LeavesPair G logs.offsets disks.offsets_a disks.offsets_b stored.offsets.frames
    pub status : LeavesPair G logs.status disks.status_a disks.status_b stored.status.frames
    pub txn : LeavesLog G logs.txn disks.txn stored.txn
    pub batches : LeavesLog G logs.batches disks.batches stored.batches

-- the same of the lists that the logs tell, where no append has failed
pub record LeaveTold {D : Type 0} (G : Ghosts D) (logs : LogsState D) (disks : Disks D) : Type 0 where
  pub config : logs.config.log.shut ≡ false → (told : List (List ℕ)) → bodies_of G logs.config ≡ Some told →
      (image_a image_b : List ℕ) → G.may_leave disks.config_a image_a → G.may_leave disks.config_b image_b →
      PairStandsFor logs.config.log.kind told image_a image_b
  pub offsets : logs.offsets.log.shut ≡ false → (told : List (List ℕ)) → bodies_of G logs.offsets ≡ Some told →
      (image_a image_b : List ℕ) → G.may_leave disks.offsets_a image_a → G.may_leave disks.offsets_b image_b →
      PairStandsFor logs.offsets.log.kind told image_a image_b
  pub status : logs.status.log.shut ≡ false → (told : List (List ℕ)) → bodies_of G logs.status ≡ Some told →
      (image_a image_b : List ℕ) → G.may_leave disks.status_a image_a → G.may_leave disks.status_b image_b →
      PairStandsFor logs.status.log.kind told image_a image_b
  pub txn : logs.txn.shut ≡ false → (told : List (List ℕ)) → logs.txn.bodies ≡ Some told → (image : List ℕ) →
      G.may_leave disks.txn image → StandsFor logs.txn.kind told image
  pub batches : logs.batches.shut ≡ false → (told : List (List ℕ)) → logs.batches.bodies ≡ Some told →
      (image : List ℕ) → G.may_leave disks.batches image → StandsFor logs.batches.kind told image
