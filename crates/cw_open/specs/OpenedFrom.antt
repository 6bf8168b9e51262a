-- How logs that were opened stand to the disks that were handed in: each has its kind and tells its list, and a stop at
-- any moment of the opening leaves what it might have left before, or files of the same list; no count of faults falls.
-- This project's own.
use Rattle.std.specs.Prelude.{◌≡◌, ◌≤◌, ℕ, List, Some, IsSome, length}
use Rattle.cw_types.specs.declared.logs.LogName.{LogName}
use Rattle.cw_types.specs.declared.logs.LogName.TheVariants.{Config, Offsets, Status, Txn, Batches}
use Rattle.cw_disk.specs.declared.device.Disk.{Ghosts}
use Rattle.cw_disk.specs.declared.disks.Disks.{Disks}
use Rattle.cw_disk.specs.Told.{Adds}
use Rattle.cw_log.specs.Log.{StandAlike, OpensAs, kind_of}
use Rattle.cw_log.specs.State.{LogState, StandsSince}
use Rattle.cw_pair.specs.Pair.{IsRight}
use Rattle.cw_pair.specs.State.{PairState, Sides, Opens, OpensPairAs, StandsSince as PairLeaves, bodies_of, disks_of}
use Rattle.cw_world.specs.Logs.{LogsState}

-- a stop at any moment of a call leaves of the two disks of the log of this name what it might have left before, or two
-- files that stand for the same list; and neither count of faults fell
pub record PairStays {D : Type 0} (G : Ghosts D) (name : LogName) (a b : D) (now : Sides D) : Type 0 where
  pub leaves : (file_a file_b : List ℕ) → G.holds a ≡ Some file_a → G.holds b ≡ Some file_b →
      Opens G (kind_of name) file_a file_b (record { a = a; b = b }) now
  pub later_a : G.count a ≤ G.count now.a
  pub later_b : G.count b ≤ G.count now.b

-- the same of one disk
pub record TopicStays {D : Type 0} (G : Ghosts D) (name : LogName) (old new : D) : Type 0 where
  pub leaves : (file : List ℕ) → G.holds old ≡ Some file → Adds G old new (StandAlike (kind_of name) file)
  pub later : G.count old ≤ G.count new

-- the same of all eight
pub record DisksStay {D : Type 0} (G : Ghosts D) (old new : Disks D) : Type 0 where
  pub config : PairStays G Config old.config_a old.config_b (record { a = new.config_a; b = new.config_b })
  pub offsets : PairStays G Offsets old.offsets_a old.offsets_b (record { a = new.offsets_a; b = new.offsets_b })
  pub status : PairStays G Status old.status_a old.status_b (record { a = new.status_a; b = new.status_b })
  pub txn : TopicStays G Txn old.txn new.txn
  pub batches : TopicStays G Batches old.batches new.batches

-- a log of this name on two disks: where these tell what they hold, it tells its list, the chosen side is opened as it
-- was or made, and a stop that comes now leaves just this list
pub record IsPairFrom {D : Type 0} (G : Ghosts D) (name : LogName) (a b : D) (pair : PairState D) : Type 0 where
  pub kind : pair.log.kind ≡ kind_of name
  pub tells : (file_a file_b : List ℕ) → G.holds a ≡ Some file_a → G.holds b ≡ Some file_b → IsSome (bodies_of G pair)
  pub side : (file_a file_b : List ℕ) → G.holds a ≡ Some file_a → G.holds b ≡ Some file_b →
      IsRight (kind_of name) pair.on_b file_a file_b
  pub bytes : (file_a file_b : List ℕ) → G.holds a ≡ Some file_a → G.holds b ≡ Some file_b →
      OpensPairAs (kind_of name) pair.on_b pair.log.number file_a file_b (G.holds pair.log.disk) (G.holds pair.other)
  pub stays : PairStays G name a b (disks_of pair)
  pub rest : (told : List (List ℕ)) → bodies_of G pair ≡ Some told → (list : List (List ℕ)) →
      PairLeaves G pair (length pair.past) list → list ≡ told

-- one on a single disk
pub record IsTopicFrom {D : Type 0} (G : Ghosts D) (name : LogName) (disk : D) (log : LogState D) : Type 0 where
  pub kind : log.kind ≡ kind_of name
  pub tells : (file : List ℕ) → G.holds disk ≡ Some file → IsSome log.bodies
  pub bytes : (file : List ℕ) → G.holds disk ≡ Some file →
      OpensAs (kind_of name) log.number file (G.holds log.disk)
  pub stays : TopicStays G name disk log.disk
  pub rest : (told : List (List ℕ)) → log.bodies ≡ Some told → (list : List (List ℕ)) →
      StandsSince log.kind (G.left_since log.disk (G.moment log.disk)) list → list ≡ told

-- the five logs of eight disks
pub record AreFrom {D : Type 0} (G : Ghosts D) (disks : Disks D) (logs : LogsState D) : Type 0 where
  pub config : IsPairFrom G Config disks.config_a disks.config_b logs.config
  pub offsets : IsPairFrom G Offsets disks.offsets_a disks.offsets_b logs.offsets
  pub status : IsPairFrom G Status disks.status_a disks.status_b logs.status
  pub txn : IsTopicFrom G Txn disks.txn logs.txn
  pub batches : IsTopicFrom G Batches disks.batches logs.batches
