-- The first of two offsets goes, with its marker.
use Rattle.cw_model.proofs.TwiceCommitted.{counts, frames}
use Rattle.cw_model.proofs.steps.offset_log_keeps_the_last_committed_of_each_part.Goals as goal

pub returns-clause-counts : goal.returns-clause-counts
returns-clause-counts c = counts

pub returns-clause-stays : goal.returns-clause-stays
returns-clause-stays c = frames
