-- Its logs are read in one way.
use Rattle.cw_model.proofs.Stored.{StandFor-one}
use Rattle.cw_model.proofs.opening.stored_logs_stand_for_one_state.Goals as goal

pub returns : goal.returns
returns c = StandFor-one
