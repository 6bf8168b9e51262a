use Rattle.std.proofs.Common.{◌≡◌, length, take}
use Rattle.std.specs.List.{flat_map}
use Rattle.cw_offset.specs.Log.{offset_records}
use Rattle.cw_compact.proofs.left.count_offsets.Given as goal

abbrev pub invariant-loop-frame : goal.invariant-loop-frame
invariant-loop-frame l = l.count ≡ length (flat_map offset_records (take l.frame-index l.frames))
