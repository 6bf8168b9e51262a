-- What a compaction leaves of a log, with the bodies that are written for it, and how many records there were and are;
-- markers aren't counted.
use Rattle.std.specs.Prelude.{◌≡◌, ℕ, ◌≤◌, ◌<◌, ◌^◌, List, length, map}
use Rattle.std.specs.List.{AllByRecursion, flat_map}
use Rattle.cw_bytes.specs.declared.applied.Applied.{Applied}
use Rattle.cw_bytes.specs.Spelling.{records_bytes}
use Rattle.cw_bytes.specs.Frames.{joined}
use Rattle.cw_offset.specs.declared.body.OffsetEntry.{OffsetEntry}
use Rattle.cw_offset.specs.Body.{entry_bytes}
use Rattle.cw_offset.specs.Log.{offset_records}
use Rattle.cw_compact.specs.Bodies.{bodies_in}
use Rattle.cw_compact.specs.declared.left.LeftRecords.{LeftRecords}
use Rattle.cw_compact.specs.declared.left.LeftOffsets.{LeftOffsets}

-- a body that a frame can carry
pub record Fits (body : List ℕ) : Type 0 where
  pub some : 1 ≤ length body
  pub few : length body < 2 ^ 32

-- of these frames of records these are kept
pub record AreLeft (frames kept : List (List Applied)) (left : LeftRecords) : Type 0 where
  pub frames_are : left.frames ≡ kept
  pub bodies_are : bodies_in left.bodies.items ≡ map records_bytes kept
  pub fit : AllByRecursion Fits (bodies_in left.bodies.items)
  pub before_is : left.before ≡ length (joined frames)
  pub after_is : left.after ≡ length (joined kept)

-- of these entries of the offset log these are kept
pub record AreLeftOffsets (log kept : List OffsetEntry) (left : LeftOffsets) : Type 0 where
  pub frames_are : left.frames.items ≡ kept
  pub bodies_are : bodies_in left.bodies.items ≡ map entry_bytes kept
  pub fit : AllByRecursion Fits (bodies_in left.bodies.items)
  pub before_is : left.before ≡ length (flat_map offset_records log)
  pub after_is : left.after ≡ length (flat_map offset_records kept)
