use Rattle.std.proofs.Common.{◌≡◌, take}
use Rattle.cw_bytes.specs.Frames.{joined}
use Rattle.cw_topics.proofs.Taking.{listed}
use Rattle.cw_topics.proofs.opened.coordinator_of.Given as goal

abbrev pub invariant-loop-frame : goal.invariant-loop-frame
invariant-loop-frame l = l.coordinator ≡ listed (joined (take l.frame-index l.frames))
