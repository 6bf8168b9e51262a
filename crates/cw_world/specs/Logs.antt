-- The five logs of the world, as contracts see them: what each tells of itself, what it holds of what is stored, and
-- what a stop leaves of it.
use Rattle.std.specs.Prelude.{◌≡◌, ◌≢◌, ◌≤◌, ℕ, ◌==◌, Bool, false, List, length, Option, Some, is_some, if◌then◌else◌}
use Rattle.cw_types.specs.declared.logs.LogName.{LogName}
use Rattle.cw_types.specs.declared.logs.LogName.TheVariants.{Config, Offsets, Status, Txn, Batches}
use Rattle.cw_types.specs.declared.logs.DiskName.{DiskName}
use Rattle.cw_types.specs.declared.logs.DiskName.TheVariants as disk
use Rattle.cw_disk.specs.declared.device.Disk.{Ghosts}
use Rattle.cw_disk.specs.Disk.{AddsOf}
use Rattle.cw_log.specs.declared.body_log.BodyLog as bodylog
use Rattle.cw_log.specs.Log.{StandsFor, length_of}
use Rattle.cw_log.specs.State.{LogState, StandsSince}
use Rattle.cw_pair.specs.Pair.{PairStandsFor}
use Rattle.cw_pair.specs.State.{PairState, MayLeave, StandsSince as PairLeaves, bodies_of, disks_of, faults_of}
use Rattle.cw_model.specs.StandsFor.{Stored}
use Rattle.cw_model.specs.Bodies.{most_log}

-- the five logs
pub record LogsState (D : Type 0) : Type 0 where
  pub config : PairState D
  pub offsets : PairState D
  pub status : PairState D
  pub txn : LogState D
  pub batches : LogState D

-- these five
abbrev pub logs_of : {D : Type 0} → (config offsets status : PairState D) → (txn batches : LogState D) →
    LogsState D
logs_of config offsets status txn batches =
    record { config = config; offsets = offsets; status = status; txn = txn; batches = batches }

-- what a log tells of itself: its list where its disks tell it, how many bodies and bytes it has, how many bytes it may
-- have, the number of its kind and of its side, and whether an append has failed
pub record LogView : Type 0 where
  pub bodies : Option (List (List ℕ))
  pub size : ℕ
  pub bytes : ℕ
  pub limit : ℕ
  pub kind : ℕ
  pub number : ℕ
  pub shut : Bool

-- this of any log
abbrev pub view_of : {L : Type 0} → bodylog.Ghosts L → L → LogView
view_of L log = record {
  bodies = L.bodies log;
  size = L.size log;
  bytes = L.bytes log;
  limit = L.limit log;
  kind = L.kind log;
  number = L.number log;
  shut = L.is_shut log;
}

-- of one on two disks, and of one on a single disk
abbrev pub view_of_pair : {D : Type 0} → Ghosts D → PairState D → LogView
view_of_pair D pair = record {
  bodies = bodies_of D pair;
  size = pair.log.count;
  bytes = pair.log.length;
  limit = pair.log.limit;
  kind = pair.log.kind;
  number = pair.log.number;
  shut = pair.log.shut;
}

abbrev pub view_of_topic : {D : Type 0} → LogState D → LogView
view_of_topic log = record {
  bodies = log.bodies;
  size = log.count;
  bytes = log.length;
  limit = log.limit;
  kind = log.kind;
  number = log.number;
  shut = log.shut;
}

-- what a log of this name tells
abbrev pub view_in : {D : Type 0} → Ghosts D → LogName → LogsState D → LogView
view_in D Config logs = view_of_pair D logs.config
view_in D Offsets logs = view_of_pair D logs.offsets
view_in D Status logs = view_of_pair D logs.status
view_in D Txn logs = view_of_topic logs.txn
view_in D Batches logs = view_of_topic logs.batches

-- ---- what the logs hold

-- the list of a log of this name, of what is stored
abbrev pub list_in : LogName → Stored → List (List ℕ)
list_in Config stored = stored.config.frames
list_in Offsets stored = stored.offsets.frames
list_in Status stored = stored.status.frames
list_in Txn stored = stored.txn
list_in Batches stored = stored.batches

-- of each log but this one the list is the same
abbrev pub IsApart : LogName → (old new : Stored) → Type 0
IsApart name old new = (any : LogName) → name ≢ any → list_in any new ≡ list_in any old

-- a log of so many bytes that can be written to
pub record IsOpenLog (bytes : ℕ) (log : LogView) : Type 0 where
  pub bytes_are : log.bytes ≡ bytes
  pub limit : log.limit ≡ most_log
  pub alive : log.shut ≡ false

-- a log that can be written to, and of which these are the bodies where its disks tell any
pub record HoldsList (list : List (List ℕ)) (log : LogView) : Type 0 where
  pub told : (own : List (List ℕ)) → log.bodies ≡ Some own → own ≡ list
  pub count : log.size ≡ length list
  pub ready : IsOpenLog (length_of list) log

-- a log of this name holds just what is stored of it
abbrev pub Holds : LogName → Stored → LogView → Type 0
Holds name stored log = HoldsList (list_in name stored) log

-- each log does
abbrev pub HoldAll : {D : Type 0} → Ghosts D → Stored → LogsState D → Type 0
HoldAll D stored logs = (name : LogName) → Holds name stored (view_in D name logs)

-- each log of two sides is on the side with the number that is stored
pub record AreSides {D : Type 0} (stored : Stored) (logs : LogsState D) : Type 0 where
  pub config : logs.config.log.number ≡ stored.config.side
  pub offsets : logs.offsets.log.number ≡ stored.offsets.side
  pub status : logs.status.log.number ≡ stored.status.side

-- all logs but this one are the same
pub record HaveSameOthers {D : Type 0} (name : LogName) (old new : LogsState D) : Type 0 where
  pub config : name ≢ Config → new.config ≡ old.config
  pub offsets : name ≢ Offsets → new.offsets ≡ old.offsets
  pub status : name ≢ Status → new.status ≡ old.status
  pub txn : name ≢ Txn → new.txn ≡ old.txn
  pub batches : name ≢ Batches → new.batches ≡ old.batches

-- a log keeps its kind, tells its list if it told it before, and no disk's count of faults fell
pub record KeepsOn (old new : LogView) (before now : ℕ → ℕ) : Type 0 where
  pub kind : new.kind ≡ old.kind
  pub told : is_some new.bodies ≡ is_some old.bodies
  pub later : (side : ℕ) → before side ≤ now side

-- the same list, as the log tells it, on the same side
pub record HasSameBodies (old new : LogView) : Type 0 where
  pub number : new.number ≡ old.number
  pub bodies : new.bodies ≡ old.bodies
  pub size : new.size ≡ old.size
  pub bytes : new.bytes ≡ old.bytes
  pub limit : new.limit ≡ old.limit

-- a stop at some moment from these logs on, up to now, may have left this list of the log of this name
abbrev pub LeavesOne : {D : Type 0} → Ghosts D → LogName → (since now : LogsState D) → List (List ℕ) →
    Type 0
LeavesOne D Config since now list = PairLeaves D now.config (length since.config.past) list
LeavesOne D Offsets since now list = PairLeaves D now.offsets (length since.offsets.past) list
LeavesOne D Status since now list = PairLeaves D now.status (length since.status.past) list
LeavesOne D Txn since now list =
    StandsSince now.txn.kind (D.left_since now.txn.disk (D.moment since.txn.disk)) list
LeavesOne D Batches since now list =
    StandsSince now.batches.kind (D.left_since now.batches.disk (D.moment since.batches.disk)) list

-- whichever image a stop now leaves of the disks of a log, it stands for a list that has P
abbrev pub PairLeavesNow : {D : Type 0} → Ghosts D → PairState D → (List (List ℕ) → Type 0) → Type 0
PairLeavesNow D pair P = (image : List ℕ × List ℕ) → MayLeave D.may_leave (disks_of pair) image.0 image.1 →
    (list : List (List ℕ)) × P list × PairStandsFor pair.log.kind list image.0 image.1

abbrev pub TopicLeavesNow : {D : Type 0} → Ghosts D → LogState D → (List (List ℕ) → Type 0) → Type 0
TopicLeavesNow D log P = (image : List ℕ) → D.may_leave log.disk image →
    (list : List (List ℕ)) × P list × StandsFor log.kind list image

-- the same of the log of a name
abbrev pub LeavesNow : {D : Type 0} → Ghosts D → LogName → LogsState D → (List (List ℕ) → Type 0) → Type 0
LeavesNow D Config logs P = PairLeavesNow D logs.config P
LeavesNow D Offsets logs P = PairLeavesNow D logs.offsets P
LeavesNow D Status logs P = PairLeavesNow D logs.status P
LeavesNow D Txn logs P = TopicLeavesNow D logs.txn P
LeavesNow D Batches logs P = TopicLeavesNow D logs.batches P

-- ---- their disks

-- the disk of a log's side: 0 is side a, any other is side b
abbrev pub disk_of : LogName → ℕ → DiskName
disk_of Config side = if side == 0 then disk.ConfigA else disk.ConfigB
disk_of Offsets side = if side == 0 then disk.OffsetsA else disk.OffsetsB
disk_of Status side = if side == 0 then disk.StatusA else disk.StatusB
disk_of Txn side = disk.Txn
disk_of Batches side = disk.Batches

-- the count of faults of the disk of a log's side
abbrev pub faults_in : {D : Type 0} → Ghosts D → LogName → LogsState D → ℕ → ℕ
faults_in D Config logs side = faults_of D (disks_of logs.config) side
faults_in D Offsets logs side = faults_of D (disks_of logs.offsets) side
faults_in D Status logs side = faults_of D (disks_of logs.status) side
faults_in D Txn logs side = D.count logs.txn.disk
faults_in D Batches logs side = D.count logs.batches.disk

-- from the old logs to the new ones a stop adds only lists of the log of this name that have P
abbrev pub AddsTo : {D : Type 0} → Ghosts D → LogName → (old new : LogsState D) →
    (List (List ℕ) → Type 0) → Type 0
AddsTo D Config old new P = AddsOf (λ pair. length pair.past) (PairLeaves D) old.config new.config P
AddsTo D Offsets old new P = AddsOf (λ pair. length pair.past) (PairLeaves D) old.offsets new.offsets P
AddsTo D Status old new P = AddsOf (λ pair. length pair.past) (PairLeaves D) old.status new.status P
AddsTo D Txn old new P = AddsOf (λ log. D.moment log.disk)
    (λ log t list. StandsSince log.kind (D.left_since log.disk t) list) old.txn new.txn P
AddsTo D Batches old new P = AddsOf (λ log. D.moment log.disk)
    (λ log t list. StandsSince log.kind (D.left_since log.disk t) list) old.batches new.batches P
