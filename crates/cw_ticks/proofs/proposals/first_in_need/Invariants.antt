use Rattle.std.proofs.Common.{◌≡◌, drop}
use Rattle.std.specs.List.{find, filter_map}
use Rattle.cw_model.specs.Proposals.{needs_tasks}
use Rattle.cw_model.specs.Ready.{connector_in}
use Rattle.cw_ticks.proofs.proposals.first_in_need.Given as goal

abbrev pub invariant-loop-item : goal.invariant-loop-item
invariant-loop-item l =
    find (needs_tasks l.read) (filter_map connector_in (drop l.item-index l.items)) ≡
    find (needs_tasks l.read) (filter_map connector_in l.items)
