use Rattle.cw_offset.proofs.Same.{compacted_same}
use Rattle.cw_offset.proofs.laws.compacted_offsets_say_the_same.Goals as goal

pub returns : goal.returns
returns c = compacted_same
