use Rattle.std.proofs.Common.{◌<◌}
use Rattle.cw_desk.specs.Comparing.{NoneTwice}
use Rattle.cw_desk.proofs.comparing.first_twice.Given as goal

abbrev pub invariant-loop-k : goal.invariant-loop-k
invariant-loop-k l = (0 < l.k) × NoneTwice l.receipts l.k
