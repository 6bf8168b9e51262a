use Rattle.std.proofs.Common.{◌≡◌, take}
use Rattle.cw_assign.specs.Items.{has}
use Rattle.cw_assign.specs.Plan.{own}
use Rattle.cw_assign.proofs.class.first_own.Given as goal

abbrev pub invariant-loop-item : goal.invariant-loop-item
invariant-loop-item l = l.items.items ≡ take l.most (own l.kind (has l.set) (take l.item-index l.held))
