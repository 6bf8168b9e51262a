use Rattle.cw_run.proofs.LineRuns.{line-runs}
use Rattle.cw_run.proofs.laws.each_line_is_a_run.Goals as goal

pub returns : goal.returns
returns c = λ setting number line s feeds f. line-runs setting feeds number line s f
