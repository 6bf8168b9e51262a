use Rattle.cw_laws.proofs.Kept.{step-keeps-facts, tick-keeps-facts, task_step-keeps}
use Rattle.cw_laws.proofs.run_laws.each_step_keeps_facts.Goals as goal

pub returns-clause-step : goal.returns-clause-step
returns-clause-step c = step-keeps-facts

pub returns-clause-tick : goal.returns-clause-tick
returns-clause-tick c = λ setting s w. tick-keeps-facts setting w s

pub returns-clause-task_step : goal.returns-clause-task_step
returns-clause-task_step c = λ setting s i. task_step-keeps setting i s
