-- What is kept of the frames of a log that were passed, and what one frame more does to it. Internal.
use Rattle.std.specs.Prelude.{◌≡◌, ◌↔◌, Bool, IsTrue, List, [], ◌∷◌, ◌++◌}
use Rattle.std.specs.List.{filter_map, flat_map}
use Rattle.cw_txn.specs.declared.entry.Entry.{Entry}
use Rattle.cw_offset.specs.declared.body.OffsetEntry.{OffsetEntry}
use Rattle.cw_offset.specs.Log.{offset_records, offset_tag, offset_mark}
use Rattle.cw_offset.specs.Acceptance.{IsAllowedStored}
use Rattle.cw_open.specs.declared.offsets.PassedOffsets.{PassedOffsets}

-- what is kept of frames of the offset log
pub record ArePassedOffsets (passed : PassedOffsets) (frames : List OffsetEntry) : Type 0 where
  pub records : passed.records ≡ flat_map offset_records frames
  pub there : passed.there ≡ filter_map offset_tag frames
  pub marked : passed.marked ≡ filter_map offset_mark frames

-- one frame more: whether it may stand behind those that were passed; then it is one of them
pub record TakesOffsets
    (entries : List Entry) (old : PassedOffsets) (x : OffsetEntry) (new : PassedOffsets) (yes : Bool) : Type 0 where
  pub fits : (frames : List OffsetEntry) → ArePassedOffsets old frames → IsTrue yes ↔ IsAllowedStored entries frames x
  pub taken : (frames : List OffsetEntry) → ArePassedOffsets old frames → IsTrue yes →
      ArePassedOffsets new (frames ++ x ∷ [])
