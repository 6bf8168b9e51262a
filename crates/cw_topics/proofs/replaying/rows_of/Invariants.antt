use Rattle.std.proofs.Common.{take}
use Rattle.cw_topics.specs.Replaying.{ArePuts}
use Rattle.cw_topics.proofs.replaying.rows_of.Given as goal

abbrev pub invariant-loop-frame : goal.invariant-loop-frame
invariant-loop-frame l = ArePuts l.rows (take l.frame-index l.frames)
