use Rattle.cw_laws.proofs.QuietDone.{quiet-done}
use Rattle.cw_laws.proofs.quiet_laws.quiet_is_done.Goals as goal

pub returns : goal.returns
returns c = λ setting s calm. quiet-done setting s calm
