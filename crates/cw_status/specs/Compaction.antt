-- Compaction of the status log, as Kafka's compacted topics have it: of each connector and task the last status stays.
use Rattle.std.specs.Prelude.{◌≡◌, ◌≤◌, ◌++◌, List, [], Option, Some, None, IsSome, Result, Ok, Err, option_and_then}
use Rattle.std.specs.List.{filter_map}
use Rattle.cw_types.specs.declared.ids.Item.{Item}
use Rattle.cw_bytes.specs.declared.applied.Applied.{Applied}
use Rattle.cw_bytes.specs.Frames.{EachFrom, joined, next_after, staying, is_last}
use Rattle.cw_keys.specs.Statuses.{status_of}
use Rattle.cw_keys.specs.declared.fault.KeyFault.{KeyFault}
use Rattle.cw_keys.specs.declared.status.StatusValue.{StatusValue}
use Rattle.cw_status.specs.declared.record.StatusRecord.{StatusRecord}
use Rattle.cw_status.specs.Statuses.{latest}

-- the status log as a compaction leaves it: of each key the last record stays
abbrev pub compact_statuses : List (List Applied) → List (List Applied)
compact_statuses frames = staying (is_last (joined frames)) frames

-- ---- what a compacted log says

-- the status of a key and a value that were read
abbrev pub record_with : Applied → Result (Item × StatusValue) KeyFault → Option StatusRecord
record_with a (Ok read) = Some (record { offset = a.offset; item = read.0; value = read.1 })
record_with a (Err fault) = None

-- the record of the status log that fields are, where key and value are in its grammar
abbrev pub record_in : Applied → Option StatusRecord
record_in a = option_and_then (λ text. record_with a (status_of a.key text)) a.value

-- the records that frames of the status log are
abbrev pub records_in : List (List Applied) → List StatusRecord
records_in frames = filter_map record_in (joined frames)

-- a status may stand behind these: its offset is above theirs, and it is one
pub record IsAllowedStatus (before : List Applied) (r : Applied) : Type 0 where
  pub above : next_after before ≤ r.offset
  pub grammar : IsSome (record_in r)

-- each status may stand where it does
abbrev pub AreAllowedStatuses : List (List Applied) → Type 0
AreAllowedStatuses frames = EachFrom IsAllowedStatus [] (joined frames)

-- two lists say the same of each connector and task, now and behind any further records
abbrev pub SaysTheSame : (standing whole : List StatusRecord) → Type 0
SaysTheSame standing whole =
    (more : List StatusRecord) (item : Item) → latest item (standing ++ more) ≡ latest item (whole ++ more)
