use Rattle.cw_laws.proofs.Leading.{raw_init-keeps}
use Rattle.cw_laws.proofs.RawCommit.{raw_commit-keeps}
use Rattle.cw_laws.proofs.script_laws.script_producers_keep_facts.Goals as goal

pub returns-clause-raw_init : goal.returns-clause-raw_init
returns-clause-raw_init c = λ setting s n may. raw_init-keeps setting n s may

pub returns-clause-raw_commit : goal.returns-clause-raw_commit
returns-clause-raw_commit c = λ setting s n epoch list may. raw_commit-keeps setting n epoch list s may
