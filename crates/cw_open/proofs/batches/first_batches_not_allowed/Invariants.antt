use Rattle.cw_open.proofs.BatchLemmas.{WalkedData}
use Rattle.cw_open.proofs.batches.first_batches_not_allowed.Given as goal

abbrev pub invariant-loop-at : goal.invariant-loop-at
invariant-loop-at l = WalkedData l.entries l.frames l.at l.passed
