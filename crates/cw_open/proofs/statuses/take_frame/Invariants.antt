use Rattle.cw_status.specs.Compaction.{IsAllowedStatus}
use Rattle.cw_open.proofs.Steps.{Walked}
use Rattle.cw_open.proofs.statuses.take_frame.Given as goal

abbrev pub invariant-loop-at : goal.invariant-loop-at
invariant-loop-at l = Walked IsAllowedStatus l.initial.passed l.frame l.at l.passed
