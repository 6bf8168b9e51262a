use Rattle.cw_status.specs.Compaction.{IsAllowedStatus}
use Rattle.cw_open.proofs.Steps.{WalkedFrames}
use Rattle.cw_open.proofs.statuses.first_statuses_not_allowed.Given as goal

abbrev pub invariant-loop-at : goal.invariant-loop-at
invariant-loop-at l = WalkedFrames IsAllowedStatus l.frames l.at l.passed
