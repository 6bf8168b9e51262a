use Rattle.cw_run.proofs.ScriptRuns.{run-runs, lines-run}
use Rattle.cw_run.proofs.laws.each_script_is_a_run.Goals as goal

pub returns-clause-whole : goal.returns-clause-whole
returns-clause-whole c = λ setting script s feeds f. run-runs setting feeds s f script

pub returns-clause-lines : goal.returns-clause-lines
returns-clause-lines c = λ setting script count s feeds f. lines-run setting feeds s f count script
