use Rattle.cw_laws.proofs.QuietSources.{newest-through}
use Rattle.cw_laws.proofs.quiet_laws.tasks_at_their_end_are_through.Goals as goal

pub returns : goal.returns
returns c = λ setting s n id facts newest polls. newest-through setting s n id facts newest polls
