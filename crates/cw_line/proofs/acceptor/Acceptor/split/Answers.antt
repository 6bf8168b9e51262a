use Rattle.std.proofs.Common.{arith, ap}
use Rattle.cw_line.specs.Hands.{told}
use Rattle.cw_line.proofs.Moves.{forks}
use Rattle.cw_line.proofs.acceptor.Acceptor.split.Goals as goal

pub another-requires-clause-rule : goal.another-requires-clause-rule
another-requires-clause-rule g c = let is = ap (λ a. a.parts) c.self.view_is in let some = c.requires.parts in forks c.self.inside.pass.id (told c.self.inside.pass) (omega arith)
