use Rattle.std.proofs.Common.{◌≡◌, take, map}
use Rattle.cw_assign.specs.Items.{has}
use Rattle.cw_assign.specs.Plan.{standing_of}
use Rattle.cw_assign.proofs.class.standings_of.Given as goal

abbrev pub invariant-loop-member : goal.invariant-loop-member
invariant-loop-member l = l.standings.items ≡ map (standing_of l.kind (has l.set)) (take l.member-index l.members)
