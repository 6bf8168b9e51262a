use Rattle.cw_open.proofs.SafeLemmas.{WalkedSafe}
use Rattle.cw_open.proofs.safety.take_frame.Given as goal

abbrev pub invariant-loop-at : goal.invariant-loop-at
invariant-loop-at l = WalkedSafe l.known l.initial.passed.entries l.frame l.at l.passed.entries
