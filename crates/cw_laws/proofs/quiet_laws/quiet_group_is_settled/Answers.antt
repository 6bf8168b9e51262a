use Rattle.cw_laws.proofs.QuietGroup.{quiet-settled}
use Rattle.cw_laws.proofs.quiet_laws.quiet_group_is_settled.Goals as goal

pub returns : goal.returns
returns c = λ setting s calm. quiet-settled setting s calm
