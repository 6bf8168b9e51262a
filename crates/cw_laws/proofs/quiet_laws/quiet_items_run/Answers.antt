use Rattle.cw_laws.proofs.QuietItems.{quiet-running}
use Rattle.cw_laws.proofs.quiet_laws.quiet_items_run.Goals as goal

pub returns : goal.returns
returns c = λ setting s calm. quiet-running setting s calm
