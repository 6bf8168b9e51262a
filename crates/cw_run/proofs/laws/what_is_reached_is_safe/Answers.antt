use Rattle.cw_run.proofs.Reaching.{reached-facts, reached-grows}
use Rattle.cw_run.proofs.laws.what_is_reached_is_safe.Goals as goal

pub returns-clause-facts : goal.returns-clause-facts
returns-clause-facts c = reached-facts

pub returns-clause-safe : goal.returns-clause-safe
returns-clause-safe c = λ setting s t reached f. (reached-facts setting s t reached f).safe

pub returns-clause-journal : goal.returns-clause-journal
returns-clause-journal c = λ setting s t reached f. (reached-facts setting s t reached f).journal

pub returns-clause-grows : goal.returns-clause-grows
returns-clause-grows c = reached-grows
