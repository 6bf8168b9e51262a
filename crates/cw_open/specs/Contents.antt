-- What the logs of eight disks hold, as it was found while they were opened: all bodies are read, or the first that
-- can't be. This project's own.
use Rattle.std.specs.Prelude.{◌≡◌, ℕ, List, Option, Some, None}
use Rattle.cw_types.specs.declared.logs.LogName.{LogName}
use Rattle.cw_types.specs.declared.logs.LogName.TheVariants.{Config, Offsets, Status, Txn, Batches}
use Rattle.cw_disk.specs.declared.device.Disk.{Ghosts}
use Rattle.cw_bytes.specs.Reading.{records_at}
use Rattle.cw_offset.specs.BodyReading.{entry_at as stored_at}
use Rattle.cw_data.specs.BodyReading.{entry_at as data_at}
use Rattle.cw_txn.specs.BodyReading.{entries_at}
use Rattle.cw_model.specs.StandsFor.{Stored, Frames, AreRead, IsFirstOf, reading_of}
use Rattle.cw_log.specs.Log.{kind_of}
use Rattle.cw_pair.specs.Pair.{IsRight}
use Rattle.cw_world.specs.Logs.{LogsState, logs_of, list_in}
use Rattle.cw_open.specs.FoundFrames.{AreGates, IsFoundIn, StandsAt}
use Rattle.cw_open.specs.OpenedLogs.{IsReadPair, IsReadTopic}
use Rattle.cw_open.specs.Reopened.{DiskFiles, FilesHold}
use Rattle.cw_open.specs.declared.read_logs.ReadLogs.{ReadLogs}
use Rattle.cw_open.specs.declared.contents.Unreadable.{Unreadable}

-- what is stored is what was found in the logs, whose side numbers are these
pub record AreFoundIn {D : Type 0} (logs : ReadLogs D) (stored : Stored) : Type 0 where
  pub config : IsFoundIn records_at logs.config.found stored.config.frames
  pub offsets : IsFoundIn stored_at logs.offsets.found stored.offsets.frames
  pub status : IsFoundIn records_at logs.status.found stored.status.frames
  pub txn : IsFoundIn entries_at logs.txn.found stored.txn
  pub batches : IsFoundIn data_at logs.batches.found stored.batches
  pub config_side : stored.config.side ≡ logs.config.log.log.number
  pub offsets_side : stored.offsets.side ≡ logs.offsets.log.log.number
  pub status_side : stored.status.side ≡ logs.status.log.log.number

-- the sides that were opened are those to choose
pub record AreChosen {D : Type 0} (files : DiskFiles) (logs : ReadLogs D) : Type 0 where
  pub config : IsRight (kind_of Config) logs.config.log.on_b files.config_a files.config_b
  pub offsets : IsRight (kind_of Offsets) logs.offsets.log.on_b files.offsets_a files.offsets_b
  pub status : IsRight (kind_of Status) logs.status.log.on_b files.status_a files.status_b

-- what the files hold is what was found in the logs, on their chosen sides
pub record IsFoundOf {D : Type 0} (files : DiskFiles) (logs : ReadLogs D) : Type 0 where
  pub stored : Stored
  pub hold : FilesHold files stored
  pub found : AreFoundIn logs stored
  pub sides : AreChosen files logs

-- what was found in each log is what it tells of itself, and it can be written to
pub record AreReadLogs {D : Type 0} (G : Ghosts D) (logs : ReadLogs D) : Type 0 where
  pub config : IsReadPair records_at G logs.config.found logs.config.log
  pub offsets : IsReadPair stored_at G logs.offsets.found logs.offsets.log
  pub status : IsReadPair records_at G logs.status.found logs.status.log
  pub txn : IsReadTopic entries_at logs.txn.found logs.txn.log
  pub batches : IsReadTopic data_at logs.batches.found logs.batches.log

-- the logs themselves
abbrev pub logs_read : {D : Type 0} → ReadLogs D → LogsState D
logs_read logs = logs_of logs.config.log logs.offsets.log logs.status.log logs.txn.log logs.batches.log

-- the frames that were found
abbrev pub frames_of : {D : Type 0} → ReadLogs D → Frames
frames_of logs = record {
  config = logs.config.found.frames;
  offsets = logs.offsets.found.frames;
  status = logs.status.found.frames;
  txn = logs.txn.found.frames;
  batches = logs.batches.found.frames;
}

-- where the gates of all frames stand
pub record GateLists : Type 0 where
  pub config : List ℕ
  pub offsets : List ℕ
  pub status : List ℕ
  pub txn : List ℕ
  pub batches : List ℕ

-- those of a log
abbrev pub gates_in : LogName → GateLists → List ℕ
gates_in Config gates = gates.config
gates_in Offsets gates = gates.offsets
gates_in Status gates = gates.status
gates_in Txn gates = gates.txn
gates_in Batches gates = gates.batches

-- those that were found
abbrev pub gates_of : {D : Type 0} → ReadLogs D → GateLists
gates_of logs = record {
  config = logs.config.found.gates;
  offsets = logs.offsets.found.gates;
  status = logs.status.found.gates;
  txn = logs.txn.found.gates;
  batches = logs.batches.found.gates;
}

-- all bodies are read as these frames, and their gates stand here
pub record AreAllFound (stored : Stored) (frames : Frames) (gates : GateLists) : Type 0 where
  pub read : AreRead stored frames
  pub places : (log : LogName) → AreGates (list_in log stored) (gates_in log gates)

-- the first body of all that can't be read, and where its gate stands
pub record IsFirstUnreadable (stored : Stored) (unread : Unreadable) : Type 0 where
  pub number : ℕ
  pub first : IsFirstOf (reading_of stored) unread.log number
  pub place : StandsAt (list_in unread.log stored) number unread.at

-- the first body of all that can't be read, if there is one; else all are read
abbrev pub SaysWhatIsRead : Frames → GateLists → Stored → Option Unreadable → Type 0
SaysWhatIsRead frames gates stored None = AreAllFound stored frames gates
SaysWhatIsRead frames gates stored (Some unread) = IsFirstUnreadable stored unread
