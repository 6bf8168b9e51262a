use Rattle.std.proofs.Common.{◌≡◌, ◌++◌, map, drop, option_map}
use Rattle.serde_json.specs.View.{items_view}
use Rattle.cw_rest.specs.Offsets as offsets
use Rattle.cw_reply.specs.Alterations.{alteration_in}
use Rattle.cw_reply.proofs.alteration.alterations_in_items.Given as goal

abbrev pub invariant-loop-item : goal.invariant-loop-item
invariant-loop-item l = option_map (λ rest. map alteration_in l.list.items ++ rest) (offsets.each_of offsets.alteration_of (offsets.elements_of (items_view (drop l.item-index l.items)))) ≡ offsets.each_of offsets.alteration_of (offsets.elements_of (items_view l.items))
