-- The statuses that were reported (Connect's status topic): the records since the cluster was opened, and the next one.
use Rattle.std.specs.Prelude.{◌≡◌, ℕ, ◌-◌, ◌^◌, ◌&&◌, false, List, [], ◌∷◌, length, map, min, Option, Some, None}
use Rattle.std.specs.Prelude.{if◌then◌else◌}
use Rattle.cw_types.specs.declared.ids.Item.{Item}
use Rattle.cw_types.specs.declared.logs.LogName.TheVariants.{Status}
use Rattle.cw_bytes.specs.Frames.{next_behind}
use Rattle.cw_bytes.specs.declared.applied.Applied.{Applied}
use Rattle.cw_keys.specs.declared.status.StatusValue.{StatusValue}
use Rattle.cw_status.specs.declared.record.StatusRecord.{StatusRecord}
use Rattle.cw_model.specs.declared.fault.WorldFault.{WorldFault}
use Rattle.cw_model.specs.declared.fault.WorldFault.TheVariants.{Full}
use Rattle.cw_model.specs.State.{StampedStatus}
use Rattle.cw_model.specs.Bodies.{status_applied, status_body, frame_of, has_room}
use Rattle.cw_model.specs.Updates.{is_offset}

-- the records, and those for which memory was taken
pub record StatusList : Type 0 where
  pub list : List StampedStatus
  pub reserved : List StatusRecord

-- the records without their stamps
abbrev pub plain : List StampedStatus → List StatusRecord
plain list = map (λ r. r.status) list

-- the offset of the next record
abbrev pub next_in : List StampedStatus → ℕ
next_in list = next_behind (map (λ r. r.status.offset) list)

-- an offset, where a record can have it
abbrev pub offset_from : ℕ → Option ℕ
offset_from offset = if is_offset offset then Some offset else None

-- what is known of the records: of which the latest statuses are kept, the next offset, and how many there are
pub record IsStatusList (list : List StampedStatus) (applied : List StatusRecord) (next : Option ℕ) (count : ℕ)
    : Type 0 where
  pub kept : applied ≡ plain list
  pub behind : next ≡ offset_from (next_in list)
  pub many : count ≡ min (length list) (2 ^ 64 - 1)

-- what a frame holds of its status: the list of the one frame of its one record, and the bytes
pub record IsStatusFrame (status : StampedStatus) (records : List (List Applied)) (body : List ℕ) : Type 0 where
  pub spelled : records ≡ (status_applied status ∷ []) ∷ []
  pub bytes : body ≡ status_body (status ∷ [])

-- the record of a status
abbrev pub record_in : ℕ → List StampedStatus → Item → StatusValue → StampedStatus
record_in stamp list item value =
    record { stamp = stamp; status = record { offset = next_in list; item = item; value = value } }

-- a record for which there is no offset, or no room in a log of so many bytes, and what is told of that
pub record HasNoRoom (size : ℕ) (r : StampedStatus) (why : WorldFault) : Type 0 where
  pub told : why ≡ Full Status size (frame_of (status_body (r ∷ [])))
  pub none : (is_offset r.status.offset && has_room size (frame_of (status_body (r ∷ [])))) ≡ false
