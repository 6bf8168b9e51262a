use Rattle.cw_laws.proofs.Kept.{each-state-keeps}
use Rattle.cw_laws.proofs.run_laws.every_state_of_a_run_is_safe.Goals as goal

pub returns-clause-facts : goal.returns-clause-facts
returns-clause-facts c = λ setting s steps n f run. each-state-keeps setting s steps n run f

pub returns-clause-safe : goal.returns-clause-safe
returns-clause-safe c = λ setting s steps n f run. (each-state-keeps setting s steps n run f).safe

pub returns-clause-journal : goal.returns-clause-journal
returns-clause-journal c = λ setting s steps n f run. (each-state-keeps setting s steps n run f).journal
