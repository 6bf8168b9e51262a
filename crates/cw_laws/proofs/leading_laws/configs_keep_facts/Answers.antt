use Rattle.cw_laws.proofs.AppendConfig.{append_config-keeps}
use Rattle.cw_laws.proofs.AppendFence.{append_fence-keeps}
use Rattle.cw_laws.proofs.leading_laws.configs_keep_facts.Goals as goal

pub returns-clause-append_config : goal.returns-clause-append_config
returns-clause-append_config c = λ setting s w records may. append_config-keeps setting w records s may

pub returns-clause-append_fence : goal.returns-clause-append_fence
returns-clause-append_fence c = λ setting s w name may. append_fence-keeps setting w name s may
