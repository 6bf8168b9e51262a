-- What a compaction leaves of the offset log as it is kept in memory.
use Rattle.std.specs.Prelude.{◌≡◌, ℕ, List, length, map}
use Rattle.std.specs.List.{AllByRecursion, flat_map}
use Rattle.cw_offset.specs.declared.body.OffsetEntry.{OffsetEntry}
use Rattle.cw_offset.specs.Body.{entry_bytes}
use Rattle.cw_offset.specs.Log.{offset_records}
use Rattle.cw_compact.specs.Left.{Fits}

-- the entries, their bodies, and how many records there were and are
pub record LeftLog : Type 0 where
  pub frames : List OffsetEntry
  pub bodies : List (List ℕ)
  pub before : ℕ
  pub after : ℕ

-- of these entries these are kept; markers aren't counted
pub record IsLeftLog (log kept : List OffsetEntry) (left : LeftLog) : Type 0 where
  pub frames_are : left.frames ≡ kept
  pub bodies_are : left.bodies ≡ map entry_bytes kept
  pub fit : AllByRecursion Fits left.bodies
  pub before_is : left.before ≡ length (flat_map offset_records log)
  pub after_is : left.after ≡ length (flat_map offset_records kept)
