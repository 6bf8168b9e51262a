-- What is kept of the frames of the data log that were passed, and what one frame more does to it. Internal.
use Rattle.std.specs.Prelude.{◌≡◌, ◌↔◌, Bool, false, IsTrue, is_some, List, [], ◌∷◌, ◌++◌, All}
use Rattle.std.specs.List.{filter_map, list_any}
use Rattle.std.specs.BTreeMap.{get}
use Rattle.std.specs.declared.cmp.Ordering.{Ordering}
use Rattle.cw_types.specs.declared.ids.Tag.{Tag}
use Rattle.cw_types.specs.declared.ids.PartKey.{PartKey}
use Rattle.cw_txn.specs.declared.entry.Entry.{Entry}
use Rattle.cw_offset.specs.Acceptance.{IsKnown}
use Rattle.cw_data.specs.declared.entry.Batch.{Batch}
use Rattle.cw_data.specs.declared.entry.DataEntry.{DataEntry}
use Rattle.cw_data.specs.Log.{tag_in}
use Rattle.cw_feed.specs.Yield.{IsLine}
use Rattle.cw_model.specs.Committed.{batches_of, is_batch_of}
use Rattle.cw_model.specs.Allowed.{IsAllowedData, data_mark}
use Rattle.cw_open.specs.declared.batches.BatchKey.{BatchKey}
use Rattle.cw_open.specs.declared.batches.PassedBatches.{PassedBatches}
use Rattle.cw_open.specs.contracts.batches.BatchKeyOrd.TheImpl as key_ord

-- the order of keys in a table
abbrev pub key_order : BatchKey → BatchKey → Ordering
key_order = key_ord.cmp-value.it

-- what is kept of frames of the data log
pub record ArePassedBatches (passed : PassedBatches) (frames : List DataEntry) : Type 0 where
  pub batches : (key : BatchKey) →
      is_some (get key_order passed.batches key) ≡ list_any (is_batch_of key.tag key.part) (batches_of frames)
  pub there : passed.there ≡ filter_map tag_in frames
  pub marked : passed.marked ≡ filter_map data_mark frames

-- a batch with its key may stand behind the frames of which this is kept
pub record MayStand (entries : List Entry) (passed : PassedBatches) (batch : Batch) (key : BatchKey) : Type 0 where
  pub known : IsKnown entries batch.tag
  pub first : is_some (get key_order passed.batches key) ≡ false
  pub lines : All IsLine batch.values

-- one frame more: whether it may stand behind those that were passed; then it is one of them
pub record TakesData
    (entries : List Entry) (old : PassedBatches) (x : DataEntry) (new : PassedBatches) (yes : Bool) : Type 0 where
  pub fits : (frames : List DataEntry) → ArePassedBatches old frames → IsTrue yes ↔ IsAllowedData entries frames x
  pub taken : (frames : List DataEntry) → ArePassedBatches old frames → IsTrue yes →
      ArePassedBatches new (frames ++ x ∷ [])
