-- The state of the whole cluster, as plain lists: the logs, the group, the workers and what they run, as Kafka
-- Connect's distributed mode has them (Connect's config, offset and status topics; KIP-415, KIP-618). The data log and
-- the transaction list stand for Kafka's topics and its transaction coordinator.
use Rattle.std.specs.Prelude.{ℕ, Bool, List, Option}
use Rattle.cw_types.specs.declared.ids.Item.{Item}
use Rattle.cw_types.specs.declared.logs.DiskName.{DiskName}
use Rattle.cw_bytes.specs.declared.applied.Applied.{Applied}
use Rattle.cw_txn.specs.declared.entry.Entry.{Entry}
use Rattle.cw_config.specs.declared.records.ConfigRecord.{ConfigRecord}
use Rattle.cw_offset.specs.declared.body.OffsetEntry.{OffsetEntry}
use Rattle.cw_status.specs.declared.record.StatusRecord.{StatusRecord}
use Rattle.cw_data.specs.declared.entry.DataEntry.{DataEntry}
use Rattle.cw_assign.specs.declared.delay.Delay.{Delay}
use Rattle.cw_group.specs.Group.{GroupState}
use Rattle.cw_io.specs.Shelf.{Files}
use Rattle.cw_model.specs.declared.row.Row.{Row}
use Rattle.cw_model.specs.declared.instance.Instance.{Instance}
use Rattle.cw_model.specs.declared.journal.JournalEntry.{JournalEntry}

-- what stays the same through a run: the group's name, the scheduled delay in milliseconds (KIP-415), the feeds, and
-- whether what was committed was what they yield when the logs were opened, since other feeds may be handed in under
-- the same names (this project's own)
pub record Setting : Type 0 where
  pub group : List ℕ
  pub delay : ℕ
  pub feeds : Files
  pub agreed : Bool

-- a log on two sides, of which one is chosen: what each frame of that side holds, and its number
pub record Paired (A : Type 0) : Type 0 where
  pub frames : List A
  pub side : ℕ

-- a record of the status log, and how long the transaction list was when it was written
pub record StampedStatus : Type 0 where
  pub stamp : ℕ
  pub status : StatusRecord

pub record Cluster : Type 0 where
  -- the five logs, frame by frame; keys and values of configs and statuses as they are spelled there
  pub config : Paired (List Applied)
  pub offsets : Paired OffsetEntry
  pub status : Paired (List Applied)
  pub txn : List (List Entry)
  pub batches : List DataEntry
  -- the session lists: what three of them held when they were opened, as it is read, and all that was written since; no
  -- compaction shortens these lists
  pub configs : List ConfigRecord
  pub statuses : List StampedStatus
  pub entries : List Entry
  -- the group, what departed members held, and until when that waits for them
  pub group : GroupState
  pub lost : List Item
  pub delay : Delay
  -- the time in milliseconds: it begins at 0, and only the clock moves it, never back
  pub moment : ℕ
  -- the workers, and what they run or ran
  pub rows : List Row
  pub instances : List Instance
  -- the calls that were answered
  pub journal : List JournalEntry
  -- the disk whose fault ended all writing, and its count of faults
  pub closed : Option (DiskName × ℕ)
