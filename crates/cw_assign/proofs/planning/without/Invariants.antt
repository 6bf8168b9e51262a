use Rattle.std.proofs.Common.{◌≡◌, take, not}
use Rattle.std.specs.List.{filter}
use Rattle.cw_assign.specs.Items.{has}
use Rattle.cw_assign.proofs.planning.without.Given as goal

abbrev pub invariant-loop-item : goal.invariant-loop-item
invariant-loop-item l = l.items.items ≡ filter (λ x. not (has l.set-inside.items.keys x)) (take l.item-index l.held)
