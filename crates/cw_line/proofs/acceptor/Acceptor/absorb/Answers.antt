use Rattle.std.proofs.Common.{arith, ap}
use Rattle.cw_line.specs.Hands.{told}
use Rattle.cw_line.proofs.Moves.{merges}
use Rattle.cw_line.proofs.acceptor.Acceptor.absorb.Goals as goal

pub absorb-requires-clause-rule : goal.absorb-requires-clause-rule
absorb-requires-clause-rule g c = let is = ap (λ a. a.parts) c.self.view_is in let some = c.requires.parts in merges c.self.inside.pass.id (told c.self.inside.pass) _ _ (omega arith)
