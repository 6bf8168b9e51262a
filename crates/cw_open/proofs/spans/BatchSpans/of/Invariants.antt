use Rattle.std.proofs.Common.{take}
use Rattle.cw_open.specs.Backing.{AreBatchSpans}
use Rattle.cw_open.proofs.spans.BatchSpans.of.Given as goal

abbrev pub invariant-loop-at : goal.invariant-loop-at
invariant-loop-at l = AreBatchSpans l.spans (take l.at l.log)
