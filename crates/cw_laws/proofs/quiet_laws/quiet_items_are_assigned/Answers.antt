use Rattle.cw_laws.proofs.QuietGroup.{quiet-assigned}
use Rattle.cw_laws.proofs.quiet_laws.quiet_items_are_assigned.Goals as goal

pub returns : goal.returns
returns c = λ setting s calm. quiet-assigned setting s calm
