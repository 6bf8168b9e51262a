use Rattle.std.proofs.Common.{◌≡◌, drop}
use Rattle.std.specs.List.{find, filter_map}
use Rattle.cw_config.specs.View.{is_pending}
use Rattle.cw_model.specs.Ready.{connector_in}
use Rattle.cw_ticks.proofs.fences.first_pending.Given as goal

abbrev pub invariant-loop-item : goal.invariant-loop-item
invariant-loop-item l =
    find (λ name. is_pending name l.read) (filter_map connector_in (drop l.item-index l.items)) ≡
    find (λ name. is_pending name l.read) (filter_map connector_in l.items)
