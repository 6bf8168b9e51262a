use Rattle.cw_txn.specs.Allowed.{IsAllowedBehind}
use Rattle.cw_open.proofs.Steps.{Walked}
use Rattle.cw_open.proofs.transactions.take_frame.Given as goal

abbrev pub invariant-loop-at : goal.invariant-loop-at
invariant-loop-at l = Walked IsAllowedBehind l.initial.passed l.frame l.at l.passed
