use Rattle.std.proofs.Common.{take}
use Rattle.std.specs.List.{flat_map}
use Rattle.cw_bytes.specs.Frames.{next_after}
use Rattle.cw_offset.specs.Log.{offset_records}
use Rattle.cw_topics.specs.Offsets.{IsNext}
use Rattle.cw_topics.proofs.offset_log.next_of.Given as goal

abbrev pub invariant-loop-frame : goal.invariant-loop-frame
invariant-loop-frame l = IsNext (next_after (flat_map offset_records (take l.frame-index l.frames))) l.next
