use Rattle.cw_laws.proofs.Fencing.{fence_one-keeps}
use Rattle.cw_laws.proofs.Leading.{claim_lead-keeps}
use Rattle.cw_laws.proofs.leading_laws.lead_keeps_facts.Goals as goal

pub returns-clause-claim_lead : goal.returns-clause-claim_lead
returns-clause-claim_lead c = λ setting s w. claim_lead-keeps setting w s

pub returns-clause-fence_one : goal.returns-clause-fence_one
returns-clause-fence_one c = λ setting s w name may. fence_one-keeps setting w name s may
