use Rattle.std.proofs.Common.{arith, ap}
use Rattle.cw_line.proofs.Moves.{takes, learns}
use Rattle.cw_line.proofs.taker.Taker.take.Goals as goal

pub pop_as-requires-clause-rule : goal.pop_as-requires-clause-rule
pop_as-requires-clause-rule g c =
    let one = ap (λ v. v.parts) c.self.invariant.1 in
    (takes _ _ (omega arith), learns _ _)
