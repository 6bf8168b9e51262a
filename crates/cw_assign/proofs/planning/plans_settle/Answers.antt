use Rattle.cw_assign.proofs.Rest.{settles}
use Rattle.cw_assign.proofs.planning.plans_settle.Goals as goal

pub returns : goal.returns
returns c members second configured lost later some ready held = settles members second configured lost later some ready held
