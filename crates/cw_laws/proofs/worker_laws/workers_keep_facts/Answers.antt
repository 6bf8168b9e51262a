use Rattle.cw_laws.proofs.Workers.{spawn-keeps, deaf-keeps, hear-keeps}
use Rattle.cw_laws.proofs.Clock.{clock-keeps}
use Rattle.cw_laws.proofs.Items.{kill-keeps}
use Rattle.cw_laws.proofs.worker_laws.workers_keep_facts.Goals as goal

pub returns-clause-spawn : goal.returns-clause-spawn
returns-clause-spawn c = spawn-keeps

pub returns-clause-kill : goal.returns-clause-kill
returns-clause-kill c = λ setting s w. kill-keeps setting w s

pub returns-clause-deaf : goal.returns-clause-deaf
returns-clause-deaf c = λ setting s w. deaf-keeps setting w s

pub returns-clause-hear : goal.returns-clause-hear
returns-clause-hear c = λ setting s w. hear-keeps setting w s

pub returns-clause-clock : goal.returns-clause-clock
returns-clause-clock c = λ setting s to. clock-keeps setting to s
