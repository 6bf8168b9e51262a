use Rattle.std.proofs.Common.{◌≡◌, take, length}
use Rattle.cw_bytes.specs.Frames.{joined}
use Rattle.cw_compact.proofs.keyed.count_of.Given as goal

abbrev pub invariant-loop-frame : goal.invariant-loop-frame
invariant-loop-frame l = l.count ≡ length (joined (take l.frame-index l.frames))
