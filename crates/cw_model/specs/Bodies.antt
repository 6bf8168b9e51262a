-- How records are written and read, how many bytes each log has, and when it is full: a log has at most 2^28 bytes,
-- and each frame is its body and five bytes more. This project's own format.
use Rattle.std.specs.Prelude.{ℕ, ◌+◌, ◌^◌, Bool, List, Option, Some, map, length, nat_le, option_map}
use Rattle.std.specs.List.{filter_map}
use Rattle.cw_bytes.specs.declared.applied.Applied.{Applied}
use Rattle.cw_bytes.specs.Spelling.{records_bytes}
use Rattle.cw_bytes.specs.Frames.{joined}
use Rattle.cw_keys.specs.ConfigKeys.{config_key_text}
use Rattle.cw_keys.specs.Configs.{config_text}
use Rattle.cw_keys.specs.Statuses.{status_key, status_text}
use Rattle.cw_config.specs.declared.records.ConfigRecord.{ConfigRecord}
use Rattle.cw_status.specs.Compaction.{record_in}
use Rattle.cw_txn.specs.Body.{entries_bytes}
use Rattle.cw_offset.specs.Body.{entry_bytes as offset_body}
use Rattle.cw_data.specs.Body.{entry_bytes as data_body}
use Rattle.cw_log.specs.Log.{length_of}
use Rattle.cw_model.specs.State.{Cluster, StampedStatus}

-- a record of the config log as it is written
abbrev pub config_applied : ConfigRecord → Applied
config_applied r = record {
  offset = r.offset;
  stamp = r.stamp;
  key = config_key_text r.key;
  value = option_map config_text r.value;
}

-- a body of the config log
abbrev pub config_body : List ConfigRecord → List ℕ
config_body records = records_bytes (map config_applied records)

-- a record of the status log as it is written
abbrev pub status_applied : StampedStatus → Applied
status_applied r = record {
  offset = r.status.offset;
  stamp = r.stamp;
  key = status_key r.status.item;
  value = Some (status_text r.status.value);
}

-- a body of the status log
abbrev pub status_body : List StampedStatus → List ℕ
status_body records = records_bytes (map status_applied records)

-- the record of the status log that fields are, with its stamp
abbrev pub status_in : Applied → Option StampedStatus
status_in a = option_map (λ status. record { stamp = a.stamp; status = status }) (record_in a)

-- the records that frames of the status log are
abbrev pub statuses_in : List (List Applied) → List StampedStatus
statuses_in frames = filter_map status_in (joined frames)

-- how many bytes the config log has, as its records are spelled there
abbrev pub config_length : Cluster → ℕ
config_length s = length_of (map records_bytes s.config.frames)

-- how many bytes the offset log has
abbrev pub offsets_length : Cluster → ℕ
offsets_length s = length_of (map offset_body s.offsets.frames)

-- how many bytes the status log has
abbrev pub status_length : Cluster → ℕ
status_length s = length_of (map records_bytes s.status.frames)

-- how many bytes the transaction log has
abbrev pub txn_length : Cluster → ℕ
txn_length s = length_of (map entries_bytes s.txn)

-- how many bytes the data log has
abbrev pub data_length : Cluster → ℕ
data_length s = length_of (map data_body s.batches)

-- how many bytes the frame of a body has
abbrev pub frame_of : List ℕ → ℕ
frame_of body = length body + 5

-- the most bytes of a log
abbrev pub most_log : ℕ
most_log = 2 ^ 28

-- whether a log of so many bytes has room for a frame
abbrev pub has_room : (size frame : ℕ) → Bool
has_room size frame = nat_le (size + frame) most_log
