use Rattle.cw_laws.proofs.Clock.{closes-keeps}
use Rattle.cw_laws.proofs.run_laws.closing_keeps_facts.Goals as goal

pub returns : goal.returns
returns c = record { closes = λ setting s disk count. closes-keeps setting disk count s }
