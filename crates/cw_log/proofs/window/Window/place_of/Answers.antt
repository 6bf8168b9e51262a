use Rattle.std.proofs.Common.{arith}
use Rattle.cw_log.proofs.window.Window.place_of.Goals as goal

pub returns-clause-all : goal.returns-clause-all
returns-clause-all g c file is long = omega (arith, c.in_ok-fill.ensures.filled file is, c.in_ok-fill.ensures.size, c.requires.wide)
