use Rattle.std.proofs.Common.{take}
use Rattle.std.specs.List.{filter_map}
use Rattle.cw_bytes.specs.Frames.{joined}
use Rattle.cw_config.specs.Compaction.{keyed}
use Rattle.cw_compact.specs.Clean.{IsClean}
use Rattle.cw_compact.proofs.keyed.clean_of.Given as goal

abbrev pub invariant-loop-frame : goal.invariant-loop-frame
invariant-loop-frame l = IsClean l.clean (filter_map keyed (joined (take l.frame-index l.frames)))
