use Rattle.std.proofs.Common.{ap, ◌∙◌}
use Rattle.cw_line.proofs.Moves.{puts}
use Rattle.cw_line.proofs.acceptor.push_with.Goals as goal

pub try_push_as-requires-clause-rule : goal.try_push_as-requires-clause-rule
try_push_as-requires-clause-rule g c = puts _ _ _ _ (ap (λ v. v.pushes) c.loop.invariant.1 ∙ c.requires.pushes)
