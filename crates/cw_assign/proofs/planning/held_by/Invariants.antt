use Rattle.std.proofs.Common.{◌≡◌, take}
use Rattle.cw_types.specs.declared.ids.Item.{Item}
use Rattle.cw_assign.specs.Items.{has}
use Rattle.cw_assign.specs.Plan.{held_by}
use Rattle.cw_assign.proofs.planning.held_by.Given as goal

abbrev pub invariant-loop-member : goal.invariant-loop-member
invariant-loop-member l = (x : Item) → has l.set x ≡ has (held_by (take l.member-index l.members)) x
