use Rattle.cw_txn.specs.Allowed.{IsAllowedBehind}
use Rattle.cw_open.proofs.Steps.{WalkedFrames}
use Rattle.cw_open.proofs.transactions.first_entries_not_allowed.Given as goal

abbrev pub invariant-loop-at : goal.invariant-loop-at
invariant-loop-at l = WalkedFrames IsAllowedBehind l.frames l.at l.passed
