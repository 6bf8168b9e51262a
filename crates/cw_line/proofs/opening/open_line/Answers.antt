use Rattle.cw_line.proofs.Moves.{begins}
use Rattle.cw_line.proofs.opening.open_line.Goals as goal

pub ruled-requires-clause-rule : goal.ruled-requires-clause-rule
ruled-requires-clause-rule g c = begins
