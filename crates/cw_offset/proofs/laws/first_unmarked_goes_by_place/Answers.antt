use Rattle.cw_offset.proofs.Places.{goes_by_place}
use Rattle.cw_offset.proofs.laws.first_unmarked_goes_by_place.Goals as goal

pub returns : goal.returns
returns c = goes_by_place
