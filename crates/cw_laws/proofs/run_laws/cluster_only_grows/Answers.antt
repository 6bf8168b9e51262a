use Rattle.cw_laws.proofs.Kept.{tick-grows, run-grows-on}
use Rattle.cw_laws.proofs.Runs.{step-grows, task_step-grows}
use Rattle.cw_laws.proofs.run_laws.cluster_only_grows.Goals as goal

pub returns-clause-step : goal.returns-clause-step
returns-clause-step c = λ setting s step f. step-grows setting s f.rows step

pub returns-clause-tick : goal.returns-clause-tick
returns-clause-tick c = λ setting s w f. tick-grows setting w s f

pub returns-clause-task_step : goal.returns-clause-task_step
returns-clause-task_step c = λ setting s i f. task_step-grows setting s f.rows i

pub returns-clause-run : goal.returns-clause-run
returns-clause-run c = λ setting s steps f run. run-grows-on setting s steps run f
