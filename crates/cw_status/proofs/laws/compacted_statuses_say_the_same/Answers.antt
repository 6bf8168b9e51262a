use Rattle.cw_status.proofs.Kept.{compacted}
use Rattle.cw_status.proofs.laws.compacted_statuses_say_the_same.Goals as goal

pub returns : goal.returns
returns c = compacted
