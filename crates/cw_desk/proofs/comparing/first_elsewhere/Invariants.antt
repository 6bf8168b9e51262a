use Rattle.cw_desk.specs.Comparing.{NoneElsewhere}
use Rattle.cw_desk.proofs.comparing.first_elsewhere.Given as goal

abbrev pub invariant-loop-k : goal.invariant-loop-k
invariant-loop-k l = NoneElsewhere l.journal l.receipts l.k
