-- Which entries may stand where in the data log, so that it may be opened: each is judged by what stands before it,
-- and by the transaction list (KIP-98, KIP-618). That opening judges all of it is this project's own.
use Rattle.std.specs.Prelude.{◌≡◌, false, List, Option, Some, None}
use Rattle.std.specs.List.{filter_map, list_any, AllByRecursion}
use Rattle.cw_types.specs.declared.ids.Tag.{Tag}
use Rattle.cw_txn.specs.declared.entry.Entry.{Entry}
use Rattle.cw_offset.specs.Acceptance.{IsKnown, IsAllowedMark}
use Rattle.cw_data.specs.declared.entry.Batch.{Batch}
use Rattle.cw_data.specs.declared.entry.DataEntry.{DataEntry}
use Rattle.cw_data.specs.declared.entry.DataEntry.TheVariants.{Batch as InBatch, Mark}
use Rattle.cw_data.specs.Log.{tag_in}
use Rattle.cw_feed.specs.Yield.{IsLine}
use Rattle.cw_model.specs.Committed.{batches_of, is_batch_of}

-- the transaction that an entry of the data log marks
abbrev pub data_mark : DataEntry → Option Tag
data_mark (InBatch batch) = None
data_mark (Mark tag committed) = Some tag

-- a batch may stand behind these: it is its transaction's first of its part, and no line ends in a value
pub record IsAllowedBatch (entries : List Entry) (before : List DataEntry) (batch : Batch) : Type 0 where
  pub known : IsKnown entries batch.tag
  pub first : list_any (is_batch_of batch.tag batch.part) (batches_of before) ≡ false
  pub lines : AllByRecursion IsLine batch.values

-- an entry of the data log may stand behind these
abbrev pub IsAllowedData : List Entry → List DataEntry → DataEntry → Type 0
IsAllowedData entries before (InBatch batch) = IsAllowedBatch entries before batch
IsAllowedData entries before (Mark tag committed) =
    IsAllowedMark entries (filter_map tag_in before) (filter_map data_mark before) tag committed
