use Rattle.cw_laws.proofs.Opens.{opens}
use Rattle.cw_laws.proofs.opening_laws.opening_keeps_facts.Goals as goal

pub returns : goal.returns
returns c = opens
