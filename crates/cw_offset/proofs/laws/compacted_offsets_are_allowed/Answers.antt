use Rattle.cw_offset.proofs.Stays.{compacted}
use Rattle.cw_offset.proofs.laws.compacted_offsets_are_allowed.Goals as goal

pub returns : goal.returns
returns c = compacted
