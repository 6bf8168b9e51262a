use Rattle.std.proofs.Common.{◌≡◌}
use Rattle.cw_bytes.specs.Frames.{staying}
use Rattle.cw_compact.specs.Lasts.{stays}
use Rattle.cw_compact.proofs.keyed.keep.Given as goal

abbrev pub invariant-loop-frame : goal.invariant-loop-frame
invariant-loop-frame l = l.kept.items ≡ staying (stays l.lasts) l.yielded
