-- What the events change: a worker's row, an instance, a frame that one log has more. A record gets the next offset of
-- its log, and as its stamp how long the transaction list was (this project's own). A log that has no room for a
-- frame, or no offset for a record, is full. A leader or a task that writes under an epoch that isn't its producer's
-- last is fenced (KIP-98, KIP-618).
use Rattle.std.specs.Prelude.{ℕ, ◌+◌, ◌^◌, ◌==◌, ◌&&◌, Bool, List, [], ◌∷◌, ◌++◌, map, nat_lt, slice_set, Option, Some}
use Rattle.std.specs.Prelude.{None, if◌then◌else◌}
use Rattle.std.specs.List.{flat_map, list_all}
use Rattle.cw_types.specs.declared.ids.Epoch.{Epoch}
use Rattle.cw_types.specs.declared.ids.TaskId.{TaskId}
use Rattle.cw_types.specs.declared.ids.Item.{Item}
use Rattle.cw_types.specs.declared.ids.Item.TheVariants.{Connector, Task}
use Rattle.cw_types.specs.declared.ids.Tid.{Tid}
use Rattle.cw_types.specs.declared.ids.Tid.TheVariants.{Lead, Task as TaskTid}
use Rattle.cw_types.specs.declared.logs.LogName.TheVariants.{Config, Offsets, Status, Txn, Batches}
use Rattle.cw_bytes.specs.Frames.{next_behind, next_after}
use Rattle.cw_config.specs.declared.records.ConfigRecord.{ConfigRecord}
use Rattle.cw_config.specs.Acceptance.{end_of}
use Rattle.cw_txn.specs.declared.entry.Entry.{Entry}
use Rattle.cw_txn.specs.declared.entry.Entry.TheVariants.{Bump}
use Rattle.cw_txn.specs.Body.{entries_bytes}
use Rattle.cw_offset.specs.declared.body.OffsetEntry.{OffsetEntry}
use Rattle.cw_offset.specs.Body.{entry_bytes as offset_body}
use Rattle.cw_offset.specs.Log.{offset_records}
use Rattle.cw_data.specs.declared.entry.DataEntry.{DataEntry}
use Rattle.cw_data.specs.Body.{entry_bytes as data_body}
use Rattle.cw_rest.specs.Seen.{KeyedValues, records_behind}
use Rattle.cw_model.specs.declared.fault.WorldFault.TheVariants.{Fenced, Full}
use Rattle.cw_model.specs.declared.row.Row.{Row}
use Rattle.cw_model.specs.declared.instance.Instance.{Instance}
use Rattle.cw_model.specs.declared.instance.InstancePhase.{InstancePhase}
use Rattle.cw_model.specs.declared.instance.InstancePhase.TheVariants.{Ended}
use Rattle.cw_model.specs.State.{Cluster, StampedStatus}
use Rattle.cw_model.specs.Lookups.{row_of, instance_of, last_epoch, list_end}
use Rattle.cw_model.specs.Answers.{Answer, refused, answered}
use Rattle.cw_model.specs.Bodies.{config_applied, status_applied, config_body, status_body, config_length}
use Rattle.cw_model.specs.Bodies.{offsets_length, status_length, txn_length, data_length, frame_of, has_room}

-- a worker's row, changed
abbrev pub changes_row : ℕ → (Row → Row) → Cluster → Cluster
changes_row w change s = record s { rows = slice_set s.rows w (change (row_of w s)) }

-- an instance, changed
abbrev pub changes_instance : ℕ → (Instance → Instance) → Cluster → Cluster
changes_instance i change s = record s { instances = slice_set s.instances i (change (instance_of i s)) }

-- an instance in another phase
abbrev pub in_phase : InstancePhase → Instance → Instance
in_phase phase i = record i { phase = phase }

-- the instances that pass a test end
abbrev pub ends_instances : (Instance → Bool) → Cluster → Cluster
ends_instances test s = record s { instances = map (λ i. if test i then in_phase Ended i else i) s.instances }

-- how long the transaction list is
abbrev pub stamp_of : Cluster → ℕ
stamp_of s = list_end s.entries

-- the offset of the next record of the config log; of each key the last record stays, so no compaction lowers it
abbrev pub next_config : Cluster → ℕ
next_config s = end_of s.configs

-- the same of the status log
abbrev pub next_status : Cluster → ℕ
next_status s = next_behind (map (λ r. r.status.offset) s.statuses)

-- the offset of the next record of the offset log, by what stands there now
abbrev pub next_offset : Cluster → ℕ
next_offset s = next_after (flat_map offset_records s.offsets.frames)

-- records of the config log, as they get their offsets and stamps
abbrev pub stamped : KeyedValues → Cluster → List ConfigRecord
stamped values s = records_behind s.configs (stamp_of s) values

-- an offset that a record can have
abbrev pub is_offset : ℕ → Bool
is_offset offset = nat_lt offset (2 ^ 64)

-- one frame more of the config log: the records as they are written
abbrev pub with_configs : List ConfigRecord → Cluster → Cluster
with_configs records s =
    record s {
      config = record (s.config) { frames = s.config.frames ++ map config_applied records ∷ [] };
      configs = s.configs ++ records;
    }

-- one entry more of the offset log
abbrev pub with_offset : OffsetEntry → Cluster → Cluster
with_offset entry s = record s { offsets = record (s.offsets) { frames = s.offsets.frames ++ entry ∷ [] } }

-- one record more of the status log
abbrev pub with_status : StampedStatus → Cluster → Cluster
with_status r s =
    record s {
      status = record (s.status) { frames = s.status.frames ++ (status_applied r ∷ []) ∷ [] };
      statuses = s.statuses ++ r ∷ [];
    }

-- one frame more of the transaction log
abbrev pub with_entries : List Entry → Cluster → Cluster
with_entries frame s = record s { txn = s.txn ++ frame ∷ []; entries = s.entries ++ frame }

-- one entry more of the data log
abbrev pub with_data : DataEntry → Cluster → Cluster
with_data entry s = record s { batches = s.batches ++ entry ∷ [] }

-- whether a log has room for what is to be written, and each record an offset
abbrev pub fits_configs : List ConfigRecord → Cluster → Bool
fits_configs frame s =
    list_all (λ r. is_offset r.offset) frame && has_room (config_length s) (frame_of (config_body frame))

abbrev pub fits_offset : OffsetEntry → Cluster → Bool
fits_offset entry s =
    list_all (λ r. is_offset r.offset) (offset_records entry) &&
    has_room (offsets_length s) (frame_of (offset_body entry))

abbrev pub fits_status : StampedStatus → Cluster → Bool
fits_status r s = is_offset r.status.offset && has_room (status_length s) (frame_of (status_body (r ∷ [])))

abbrev pub fits_entries : List Entry → Cluster → Bool
fits_entries frame s = has_room (txn_length s) (frame_of (entries_bytes frame))

abbrev pub fits_data : DataEntry → Cluster → Bool
fits_data entry s = has_room (data_length s) (frame_of (data_body entry))

-- records are written to the config log in one frame, and then there is another change, unless the log is full
abbrev pub appends_configs : {A : Type 0} → List ConfigRecord → (Cluster → Cluster) → A → Cluster → Answer A
appends_configs frame change answer s =
    if fits_configs frame s
    then answered answer (change (with_configs frame s))
    else refused (Full Config (config_length s) (frame_of (config_body frame))) s

-- an entry is written to the offset log
abbrev pub appends_offset : {A : Type 0} → OffsetEntry → (Cluster → Cluster) → A → Cluster → Answer A
appends_offset entry change answer s =
    if fits_offset entry s
    then answered answer (change (with_offset entry s))
    else refused (Full Offsets (offsets_length s) (frame_of (offset_body entry))) s

-- a record is written to the status log
abbrev pub appends_status : {A : Type 0} → StampedStatus → (Cluster → Cluster) → A → Cluster → Answer A
appends_status r change answer s =
    if fits_status r s
    then answered answer (change (with_status r s))
    else refused (Full Status (status_length s) (frame_of (status_body (r ∷ [])))) s

-- entries are written to the transaction log in one frame
abbrev pub appends_entries : {A : Type 0} → List Entry → (Cluster → Cluster) → A → Cluster → Answer A
appends_entries frame change answer s =
    if fits_entries frame s
    then answered answer (change (with_entries frame s))
    else refused (Full Txn (txn_length s) (frame_of (entries_bytes frame))) s

-- an entry is written to the data log
abbrev pub appends_data : {A : Type 0} → DataEntry → (Cluster → Cluster) → A → Cluster → Answer A
appends_data entry change answer s =
    if fits_data entry s
    then answered answer (change (with_data entry s))
    else refused (Full Batches (data_length s) (frame_of (data_body entry))) s

-- the epoch that a producer's next bump gives
abbrev pub next_epoch : Tid → Cluster → Epoch
next_epoch tid s = record { 0 = last_epoch tid s + 1 }

-- a producer's epoch is bumped: whoever wrote under an older one is fenced from now on
abbrev pub bumps : {A : Type 0} → Tid → (Cluster → Cluster) → A → Cluster → Answer A
bumps tid change answer s = appends_entries (Bump tid ∷ []) change answer s

-- the number of an epoch, 0 for none
abbrev pub epoch_in : Option Epoch → ℕ
epoch_in None = 0
epoch_in (Some epoch) = epoch.0

-- what is done under an epoch, unless that isn't its producer's last
abbrev pub unless_fenced : {A : Type 0} → (own current : ℕ) → (done fenced : Answer A) → Answer A
unless_fenced own current done fenced = if own == current then done else fenced

-- a worker without its lead epoch
abbrev pub without_lead : Row → Row
without_lead row = record row { lead = None }

-- what a leader does, unless another has claimed a later epoch; it then gives up its own
abbrev pub as_leader : {A : Type 0} → ℕ → Answer A → Cluster → Answer A
as_leader w done s = unless_fenced (epoch_in (row_of w s).lead) (last_epoch Lead s) done
    (refused (Fenced (epoch_in (row_of w s).lead) (last_epoch Lead s)) (changes_row w without_lead s))

-- the task that an item is; a connector is none, and stands for its first one
abbrev pub task_id_of : Item → TaskId
task_id_of (Connector name) = record { connector = name; index = 0 }
task_id_of (Task id) = id

-- the producer of a task
abbrev pub tid_of : Item → Tid
tid_of item = TaskTid (task_id_of item)

-- what a task does, unless its producer is fenced
abbrev pub as_producer : {A : Type 0} → ℕ → Answer A → Cluster → Answer A
as_producer i done s = unless_fenced (epoch_in (instance_of i s).epoch)
    (last_epoch (tid_of (instance_of i s).item) s) done
    (refused (Fenced (epoch_in (instance_of i s).epoch) (last_epoch (tid_of (instance_of i s).item) s)) s)
