use Rattle.std.proofs.Common.{◌≡◌, take, map, length}
use Rattle.cw_assign.specs.Items.{has, of_kind}
use Rattle.cw_assign.specs.Plan.{first_hand}
use Rattle.cw_assign.proofs.class.seated.Given as goal

abbrev pub invariant-loop-member : goal.invariant-loop-member
invariant-loop-member l =
    l.seats.items ≡ map (first_hand l.kind l.members (length (of_kind l.kind l.configured)) (has l.set) l.running) (take l.member-index l.members)
