use Rattle.std.proofs.Common.{take}
use Rattle.cw_model.specs.Committed.{Agrees}
use Rattle.cw_open.proofs.agreeing.feeds_agree.Given as goal

abbrev pub invariant-loop-at : goal.invariant-loop-at
invariant-loop-at l = Agrees l.feeds l.entries (take l.at l.frames)
