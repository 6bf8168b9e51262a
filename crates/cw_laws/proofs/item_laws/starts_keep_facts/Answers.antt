use Rattle.cw_laws.proofs.Starts.{start_item-keeps}
use Rattle.cw_laws.proofs.item_laws.starts_keep_facts.Goals as goal

pub returns : goal.returns
returns c = record { start_item = λ setting s w item may. start_item-keeps setting w item s may }
