use Rattle.cw_laws.proofs.Init.{init-keeps}
use Rattle.cw_laws.proofs.Fetch.{fetch-keeps}
use Rattle.cw_laws.proofs.source_laws.sources_begin_and_keep_facts.Goals as goal

pub returns-clause-init : goal.returns-clause-init
returns-clause-init c = λ setting s i may. init-keeps setting i s may

pub returns-clause-fetch : goal.returns-clause-fetch
returns-clause-fetch c = λ setting s i may. fetch-keeps setting i s may
