use Rattle.cw_run.proofs.Alike.{run-alike, so-far-alike, lines-alike}
use Rattle.cw_run.proofs.laws.each_script_is_played_alike.Goals as goal

pub returns-clause-whole : goal.returns-clause-whole
returns-clause-whole c = run-alike

pub returns-clause-so_far : goal.returns-clause-so_far
returns-clause-so_far c = so-far-alike

pub returns-clause-lines : goal.returns-clause-lines
returns-clause-lines c = lines-alike
