-- What eight disks are judged as when they are opened: the frames of their logs are all allowed and safe, or the first
-- harm of all, the disk that has it and the place of the gate. This project's own, as are the files.
use Rattle.std.specs.Prelude.{◌≡◌, ◌⊎◌, ℕ, false, Bool, List, Option, Some, None, length, map}
use Rattle.cw_types.specs.declared.logs.LogName.{LogName}
use Rattle.cw_types.specs.declared.logs.LogName.TheVariants.{Config, Offsets, Status, Txn, Batches}
use Rattle.cw_types.specs.declared.logs.DiskName.{DiskName}
use Rattle.cw_types.specs.declared.logs.DiskName.TheVariants as disk
use Rattle.cw_disk.specs.declared.device.Disk.{Ghosts}
use Rattle.cw_disk.specs.declared.disks.Disks.{Disks}
use Rattle.cw_bytes.specs.Spelling.{records_bytes}
use Rattle.cw_txn.specs.Body.{entries_bytes}
use Rattle.cw_offset.specs.Body.{entry_bytes as offset_body}
use Rattle.cw_data.specs.Body.{entry_bytes as data_body}
use Rattle.cw_log.specs.Log.{kind_of, length_of}
use Rattle.cw_log.specs.State.{LogState}
use Rattle.cw_log.specs.declared.fault.Harm.{Harm}
use Rattle.cw_pair.specs.Pair.{IsRight}
use Rattle.cw_pair.specs.State.{PairState, bodies_of, side_of}
use Rattle.cw_model.specs.Bodies.{most_log}
use Rattle.cw_model.specs.StandsFor.{Stored, Frames, AreRead, AreSound, IsFirstHarm, allowing_of, safety_of}
use Rattle.cw_laws.specs.Openings.{AreFiles}
use Rattle.cw_open.specs.FoundFrames.{StandsAt}
use Rattle.cw_open.specs.Contents.{AreFoundIn, frames_of}
use Rattle.cw_open.specs.Reopened.{DiskFiles, FilesHold, FirstHarmFrom, FailedAt, OnReopenCause, TellAll, all_logs}
use Rattle.cw_open.specs.declared.read_logs.ReadLogs.{ReadLogs}
use Rattle.cw_open.specs.declared.judged_disks.FrameHarm.{FrameHarm}
use Rattle.cw_open.specs.declared.judged_disks.JudgedDisks.{JudgedDisks}
use Rattle.cw_open.specs.declared.reopen_fault.ReopenFault.{ReopenFault}
use Rattle.cw_world.specs.Logs.{disk_of, list_in}

-- ---- disks whose frames are all allowed and safe

-- each frame of these logs as the body that is written for it, and the numbers of their chosen sides
abbrev pub stored_by : {D : Type 0} → JudgedDisks D → Stored
stored_by judged = record {
  config = record { frames = map records_bytes judged.frames.config; side = judged.config.log.number };
  offsets = record { frames = map offset_body judged.frames.offsets; side = judged.offsets.log.number };
  status = record { frames = map records_bytes judged.frames.status; side = judged.status.log.number };
  txn = map entries_bytes judged.frames.txn;
  batches = map data_body judged.frames.batches;
}

-- bodies that a file can hold are read as these frames, all of which are allowed and safe
pub record IsSoundly (stored : Stored) (frames : Frames) : Type 0 where
  pub files : AreFiles stored
  pub read : AreRead stored frames
  pub allowed : AreSound (allowing_of frames)
  pub safe : AreSound (safety_of frames)

-- a log tells of itself that it holds this list, and it can be written to
pub record IsLogOf (list : List (List ℕ)) (bodies : Option (List (List ℕ))) (size bytes limit : ℕ) (shut : Bool)
    : Type 0 where
  pub told : (own : List (List ℕ)) → bodies ≡ Some own → own ≡ list
  pub size_is : size ≡ length list
  pub bytes_are : bytes ≡ length_of list
  pub limit_is : limit ≡ most_log
  pub alive : shut ≡ false

-- the same of a log on one disk, and of one on two disks
abbrev pub IsTopicOf : {D : Type 0} → List (List ℕ) → LogState D → Type 0
IsTopicOf list log = IsLogOf list log.bodies log.count log.length log.limit log.shut

abbrev pub IsPairOf : {D : Type 0} → Ghosts D → List (List ℕ) → PairState D → Type 0
IsPairOf G list pair = IsLogOf list (bodies_of G pair) pair.log.count pair.log.length pair.log.limit pair.log.shut

-- each log tells that it holds what is stored
pub record AreLogsOf {D : Type 0} (G : Ghosts D) (stored : Stored) (judged : JudgedDisks D) : Type 0 where
  pub config : IsPairOf G stored.config.frames judged.config
  pub offsets : IsPairOf G stored.offsets.frames judged.offsets
  pub status : IsPairOf G stored.status.frames judged.status
  pub txn : IsTopicOf stored.txn judged.txn
  pub batches : IsTopicOf stored.batches judged.batches

-- ---- the first harm

-- a disk has the chosen side of a log on two files
pub record HasChosenSide (name : LogName) (a b : List ℕ) (at : DiskName) : Type 0 where
  pub on_b : Bool
  pub right : IsRight (kind_of name) on_b a b
  pub disk_is : at ≡ disk_of name (side_of on_b)

-- a disk has the chosen side of a log
abbrev pub IsChosenDisk : DiskFiles → LogName → DiskName → Type 0
IsChosenDisk files Config at = HasChosenSide Config files.config_a files.config_b at
IsChosenDisk files Offsets at = HasChosenSide Offsets files.offsets_a files.offsets_b at
IsChosenDisk files Status at = HasChosenSide Status files.status_a files.status_b at
IsChosenDisk files Txn at = at ≡ disk.Txn
IsChosenDisk files Batches at = at ≡ disk.Batches

-- the first harm of what the files hold is of this kind: its frame has its gate at this place, and is on this disk
pub record HasFrameHarm (files : DiskFiles) (at : DiskName) (place : ℕ) (harm : Harm) : Type 0 where
  pub stored : Stored
  pub hold : FilesHold files stored
  pub log : LogName
  pub number : ℕ
  pub first : IsFirstHarm stored log number harm
  pub chosen : IsChosenDisk files log at
  pub gate : StandsAt (list_in log stored) number place

-- the first harm: of the files themselves, or else of what they hold
abbrev pub HasFirstHarm : DiskFiles → DiskName → ℕ → Harm → Type 0
HasFirstHarm files at place harm = FirstHarmFrom files all_logs at place harm ⊎ HasFrameHarm files at place harm

-- why eight disks are not opened: their first harm, a disk that failed, or want of memory
abbrev pub IsWhyNot : {D : Type 0} → Ghosts D → Disks D → ReopenFault D → Type 0
IsWhyNot G disks fault = OnReopenCause
    (λ at place harm. (files : DiskFiles) → TellAll G disks files → HasFirstHarm files at place harm)
    (FailedAt G.count disks fault.disks) (Unit {0}) fault.cause

-- ---- on the way

-- the logs and the frames that were read
abbrev pub judged_of : {D : Type 0} → ReadLogs D → JudgedDisks D
judged_of logs = record {
  config = logs.config.log;
  offsets = logs.offsets.log;
  status = logs.status.log;
  txn = logs.txn.log;
  batches = logs.batches.log;
  frames = frames_of logs;
}

-- there are bodies that a file can hold, in which all this was found
pub record AreFoundInSome {D : Type 0} (logs : ReadLogs D) : Type 0 where
  pub stored : Stored
  pub found : AreFoundIn logs stored
  pub files : AreFiles stored

-- the first harm of what is stored, and where its gate stands
pub record IsMet (stored : Stored) (met : FrameHarm) : Type 0 where
  pub number : ℕ
  pub first : IsFirstHarm stored met.log number met.harm
  pub gate : StandsAt (list_in met.log stored) number met.at

-- the first harm of what is stored, if there is one; else all is read as these frames, and they are allowed and safe
abbrev pub SaysMet : Stored → Frames → Option FrameHarm → Type 0
SaysMet stored frames None = AreRead stored frames × AreSound (allowing_of frames) × AreSound (safety_of frames)
SaysMet stored frames (Some met) = IsMet stored met

-- the side of a log that was opened: 0 is side a, 1 is side b
abbrev pub side_in : {D : Type 0} → LogName → JudgedDisks D → ℕ
side_in Config judged = side_of judged.config.on_b
side_in Offsets judged = side_of judged.offsets.on_b
side_in Status judged = side_of judged.status.on_b
side_in Txn judged = 0
side_in Batches judged = 0

-- the first harm of what is stored, and where its gate stands: on the disk of the side that was opened
pub record IsMetOn
    {D : Type 0} (judged : JudgedDisks D) (stored : Stored) (at : DiskName) (place : ℕ) (harm : Harm) : Type 0 where
  pub log : LogName
  pub number : ℕ
  pub first : IsFirstHarm stored log number harm
  pub disk_is : at ≡ disk_of log (side_in log judged)
  pub gate : StandsAt (list_in log stored) number place
