use Rattle.std.proofs.Common.{◌≡◌, take}
use Rattle.std.specs.List.{fold, filter}
use Rattle.cw_assign.specs.Items.{has}
use Rattle.cw_assign.specs.Plan.{give, is_free}
use Rattle.cw_assign.proofs.class.deal.Given as goal

abbrev pub invariant-loop-item : goal.invariant-loop-item
invariant-loop-item l =
    l.seats.items ≡ fold give l.initial.seats.items (filter (is_free l.kind (has l.known.held) (has l.known.lost) l.running) (take l.item-index l.configured))
