use Rattle.cw_laws.proofs.SetOffsets.{set_offsets-keeps}
use Rattle.cw_laws.proofs.leading_laws.set_offsets_keep_facts.Goals as goal

pub returns : goal.returns
returns c = λ setting s w name list may. set_offsets-keeps setting w name list s may
