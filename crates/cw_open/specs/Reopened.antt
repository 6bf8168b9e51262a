-- What an opening of the eight disks of a cluster answers. This project's own, as are the files.
use Rattle.std.specs.Prelude.{◌≡◌, ◌≤◌, ◌⊎◌, ℕ, Bool, List, [], ◌∷◌, Some}
use Rattle.std.specs.List.{AllByRecursion}
use Rattle.cw_types.specs.declared.logs.LogName.{LogName}
use Rattle.cw_types.specs.declared.logs.LogName.TheVariants.{Config, Offsets, Status, Txn, Batches}
use Rattle.cw_types.specs.declared.logs.DiskName.{DiskName}
use Rattle.cw_types.specs.declared.logs.DiskName.TheVariants as disk
use Rattle.cw_types.specs.Faults.{Rose}
use Rattle.cw_disk.specs.declared.device.Disk.{Ghosts}
use Rattle.cw_disk.specs.declared.disks.Disks.{Disks}
use Rattle.cw_log.specs.Log.{IsDamaged, StandsFor, kind_of}
use Rattle.cw_log.specs.declared.fault.Harm.{Harm}
use Rattle.cw_pair.specs.Pair.{IsPairDamaged, PairStandsFor}
use Rattle.cw_model.specs.State.{Paired}
use Rattle.cw_model.specs.StandsFor.{Stored}
use Rattle.cw_open.specs.OpenedLogs.{IsNumbered}
use Rattle.cw_open.specs.declared.reopen_fault.ReopenFault.{ReopenFault}
use Rattle.cw_open.specs.declared.reopen_fault.ReopenCause.{ReopenCause}
use Rattle.cw_open.specs.declared.reopen_fault.ReopenCause.TheVariants.{Damaged, StoreFault, Memory}
use Rattle.cw_world.specs.Logs.{disk_of}

-- the bytes of the eight disks
pub record DiskFiles : Type 0 where
  pub config_a : List ℕ
  pub config_b : List ℕ
  pub offsets_a : List ℕ
  pub offsets_b : List ℕ
  pub status_a : List ℕ
  pub status_b : List ℕ
  pub txn : List ℕ
  pub batches : List ℕ

-- two files stand for the frames of a log on two sides, and its number is that of the chosen side
pub record PairHolds (name : LogName) (a b : List ℕ) (log : Paired (List ℕ)) : Type 0 where
  pub stands : PairStandsFor (kind_of name) log.frames a b
  pub on_b : Bool
  pub numbered : IsNumbered (kind_of name) on_b log.side a b

-- the files hold just what is stored
pub record FilesHold (files : DiskFiles) (stored : Stored) : Type 0 where
  pub config : PairHolds Config files.config_a files.config_b stored.config
  pub offsets : PairHolds Offsets files.offsets_a files.offsets_b stored.offsets
  pub status : PairHolds Status files.status_a files.status_b stored.status
  pub txn : StandsFor (kind_of Txn) stored.txn files.txn
  pub batches : StandsFor (kind_of Batches) stored.batches files.batches

-- ---- why they are not opened

-- two files of a log have this first harm, on this disk
pub record HasPairHarm (name : LogName) (a b : List ℕ) (at : DiskName) (place : ℕ) (harm : Harm) : Type 0 where
  pub side : ℕ
  pub disk_is : at ≡ disk_of name side
  pub harm_is : IsPairDamaged (kind_of name) a b side place harm

-- the file of a log has this first harm
pub record HasTopicHarm (name : LogName) (file : List ℕ) (at : DiskName) (place : ℕ) (harm : Harm) : Type 0 where
  pub disk_is : at ≡ disk_of name 0
  pub harm_is : IsDamaged (kind_of name) file place harm

-- the files of a log have this first harm
abbrev pub HasFileHarm : DiskFiles → LogName → DiskName → ℕ → Harm → Type 0
HasFileHarm files Config at place harm = HasPairHarm Config files.config_a files.config_b at place harm
HasFileHarm files Offsets at place harm = HasPairHarm Offsets files.offsets_a files.offsets_b at place harm
HasFileHarm files Status at place harm = HasPairHarm Status files.status_a files.status_b at place harm
HasFileHarm files Txn at place harm = HasTopicHarm Txn files.txn at place harm
HasFileHarm files Batches at place harm = HasTopicHarm Batches files.batches at place harm

-- the files of a log stand for some bodies
abbrev pub StandForSome : DiskFiles → LogName → Type 0
StandForSome files Config =
    (bodies : List (List ℕ)) × PairStandsFor (kind_of Config) bodies files.config_a files.config_b
StandForSome files Offsets =
    (bodies : List (List ℕ)) × PairStandsFor (kind_of Offsets) bodies files.offsets_a files.offsets_b
StandForSome files Status =
    (bodies : List (List ℕ)) × PairStandsFor (kind_of Status) bodies files.status_a files.status_b
StandForSome files Txn = (bodies : List (List ℕ)) × StandsFor (kind_of Txn) bodies files.txn
StandForSome files Batches = (bodies : List (List ℕ)) × StandsFor (kind_of Batches) bodies files.batches

-- the first harm of the files themselves, from a log on: of the first log that has one, where those before it have none
abbrev pub FirstHarmFrom : DiskFiles → List LogName → DiskName → ℕ → Harm → Type 0
FirstHarmFrom files [] at place harm = ⊥
FirstHarmFrom files (log ∷ logs) at place harm =
    HasFileHarm files log at place harm ⊎ (StandForSome files log × FirstHarmFrom files logs at place harm)

-- one of the eight disks
abbrev pub disk_in : {D : Type 0} → DiskName → Disks D → D
disk_in disk.ConfigA disks = disks.config_a
disk_in disk.ConfigB disks = disks.config_b
disk_in disk.OffsetsA disks = disks.offsets_a
disk_in disk.OffsetsB disks = disks.offsets_b
disk_in disk.StatusA disks = disks.status_a
disk_in disk.StatusB disks = disks.status_b
disk_in disk.Txn disks = disks.txn
disk_in disk.Batches disks = disks.batches

-- no disk's count of faults fell
abbrev pub NoneFell : {D : Type 0} → Ghosts D → (old new : Disks D) → Type 0
NoneFell G old new = (name : DiskName) → G.count (disk_in name old) ≤ G.count (disk_in name new)

-- a disk failed: its count of faults rose to this one
pub record FailedAt {D : Type 0} (count : D → ℕ) (old new : Disks D) (at : DiskName) (now : ℕ) : Type 0 where
  pub now_is : now ≡ count (disk_in at new)
  pub rose : Rose (count (disk_in at old)) (count (disk_in at new))

-- what each cause says
abbrev pub OnReopenCause : (damaged : DiskName → ℕ → Harm → Type 0) → (failed : DiskName → ℕ → Type 0) →
    (memory : Type 0) → ReopenCause → Type 0
OnReopenCause damaged failed memory (Damaged at place harm) = damaged at place harm
OnReopenCause damaged failed memory (StoreFault at count) = failed at count
OnReopenCause damaged failed memory Memory = memory

-- the disks of a log tell that they hold these bytes
abbrev pub TellLog : {D : Type 0} → Ghosts D → Disks D → DiskFiles → LogName → Type 0
TellLog G disks files Config =
    (G.holds disks.config_a ≡ Some files.config_a) × (G.holds disks.config_b ≡ Some files.config_b)
TellLog G disks files Offsets =
    (G.holds disks.offsets_a ≡ Some files.offsets_a) × (G.holds disks.offsets_b ≡ Some files.offsets_b)
TellLog G disks files Status =
    (G.holds disks.status_a ≡ Some files.status_a) × (G.holds disks.status_b ≡ Some files.status_b)
TellLog G disks files Txn = G.holds disks.txn ≡ Some files.txn
TellLog G disks files Batches = G.holds disks.batches ≡ Some files.batches

-- the five logs, in the order in which they are opened and judged
abbrev pub all_logs : List LogName
all_logs = Config ∷ Offsets ∷ Status ∷ Txn ∷ Batches ∷ []

-- all eight disks tell that they hold these bytes
abbrev pub TellAll : {D : Type 0} → Ghosts D → Disks D → DiskFiles → Type 0
TellAll G disks files = AllByRecursion (TellLog G disks files) all_logs

-- why disks are not opened, of which these logs are opened in turn: their first harm, or a disk that failed
abbrev pub CauseFrom : {D : Type 0} → Ghosts D → List LogName → Disks D → ReopenFault D → Type 0
CauseFrom G logs disks fault = OnReopenCause
    (λ at place harm. (files : DiskFiles) → AllByRecursion (TellLog G disks files) logs →
    FirstHarmFrom files logs at place harm)
    (FailedAt G.count disks fault.disks) (Unit {0}) fault.cause
