use Rattle.cw_script.proofs.LinesAgain.{line_again}
use Rattle.cw_script.proofs.Only.{line_spells}
use Rattle.cw_script.proofs.Sayable.{line_sayable}
use Rattle.cw_script.proofs.spell.lines_are_directives.Goals as goal

pub returns-clause-again : goal.returns-clause-again
returns-clause-again c = line_again

pub returns-clause-only : goal.returns-clause-only
returns-clause-only c = line_spells

pub returns-clause-sayable : goal.returns-clause-sayable
returns-clause-sayable c = line_sayable
