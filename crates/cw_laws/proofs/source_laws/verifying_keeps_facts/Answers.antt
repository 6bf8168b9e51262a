use Rattle.cw_laws.proofs.Verify.{verify-keeps}
use Rattle.cw_laws.proofs.source_laws.verifying_keeps_facts.Goals as goal

pub returns : goal.returns
returns c = record { verify = λ setting s i may. verify-keeps setting i s may }
