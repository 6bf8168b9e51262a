use Rattle.cw_route.proofs.Named.{call-named}
use Rattle.cw_route.proofs.laws.calls_hold_names.Goals as goal

pub returns : goal.returns
returns c = call-named
