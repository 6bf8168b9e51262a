use Rattle.cw_laws.proofs.Joins.{join-keeps}
use Rattle.cw_laws.proofs.Plans.{store_plan-keeps}
use Rattle.cw_laws.proofs.Expires.{expire-keeps}
use Rattle.cw_laws.proofs.Regroup.{close_round-keeps}
use Rattle.cw_laws.proofs.Sync.{sync-keeps}
use Rattle.cw_laws.proofs.group_laws.rounds_keep_facts.Goals as goal

pub returns-clause-join : goal.returns-clause-join
returns-clause-join c = λ setting s w. join-keeps setting w s

pub returns-clause-close_round : goal.returns-clause-close_round
returns-clause-close_round c = λ setting s w. close_round-keeps setting w s

pub returns-clause-store_plan : goal.returns-clause-store_plan
returns-clause-store_plan c = λ setting s w. store_plan-keeps setting w s

pub returns-clause-sync : goal.returns-clause-sync
returns-clause-sync c = λ setting s w. sync-keeps setting w s

pub returns-clause-expire : goal.returns-clause-expire
returns-clause-expire c = λ setting s w. expire-keeps setting w s
