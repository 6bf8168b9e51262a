use Rattle.cw_laws.proofs.Compacts.{compact-keeps}
use Rattle.cw_laws.proofs.Marks.{mark-keeps}
use Rattle.cw_laws.proofs.log_laws.logs_keep_facts.Goals as goal

pub returns-clause-compact : goal.returns-clause-compact
returns-clause-compact c = λ setting s log. compact-keeps setting log s

pub returns-clause-mark : goal.returns-clause-mark
returns-clause-mark c = λ setting s log may. mark-keeps setting log s may
