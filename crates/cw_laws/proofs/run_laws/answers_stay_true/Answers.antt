use Rattle.cw_laws.proofs.Kept.{entry-true-at, entry-stays-true, answers-go-on}
use Rattle.cw_laws.proofs.run_laws.answers_stay_true.Goals as goal

pub returns-clause-now : goal.returns-clause-now
returns-clause-now c = entry-true-at

pub returns-clause-later : goal.returns-clause-later
returns-clause-later c = entry-stays-true

pub returns-clause-on : goal.returns-clause-on
returns-clause-on c = answers-go-on
