use Rattle.cw_run.proofs.SettleRuns.{settles-runs}
use Rattle.cw_run.proofs.laws.settling_is_a_run.Goals as goal

pub returns : goal.returns
returns c = λ setting s most f. settles-runs setting s f most
