use Rattle.cw_run.proofs.Alike.{line-alike, line-tells}
use Rattle.cw_run.proofs.AmidRuns.{line-amid-runs}
use Rattle.cw_run.proofs.laws.each_line_on_its_way_is_a_run.Goals as goal

pub returns-clause-amid : goal.returns-clause-amid
returns-clause-amid c = λ setting number line r t feeds f amid. line-amid-runs setting feeds r f number line t amid

pub returns-clause-same : goal.returns-clause-same
returns-clause-same c = line-alike

pub returns-clause-tells : goal.returns-clause-tells
returns-clause-tells c = line-tells
