use Rattle.cw_run.proofs.AmidRuns.{amid-runs}
use Rattle.cw_run.proofs.laws.each_interrupted_line_is_a_run.Goals as goal

pub returns : goal.returns
returns c = λ setting directive s t feeds f is amid. amid-runs setting feeds s f directive t is amid
