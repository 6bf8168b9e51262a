use Rattle.cw_run.proofs.StepRuns.{step-runs}
use Rattle.cw_run.proofs.TickRuns.{tick-runs}
use Rattle.cw_run.proofs.laws.turns_are_runs.Goals as goal

pub returns-clause-tick : goal.returns-clause-tick
returns-clause-tick c = λ setting s w f. tick-runs setting s f w

pub returns-clause-step : goal.returns-clause-step
returns-clause-step c = λ setting s i f. step-runs setting i s f
