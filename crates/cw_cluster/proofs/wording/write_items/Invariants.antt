use Rattle.std.proofs.Common.{◌≡◌, ◌++◌, ◌∷◌, take}
use Rattle.std.specs.List.{flat_map}
use Rattle.cw_model.specs.TickText.{item_text}
use Rattle.cw_cluster.proofs.wording.write_items.Given as goal

abbrev pub invariant-loop-item : goal.invariant-loop-item
invariant-loop-item l =
    l.text.items ≡ l.initial.text.items ++ flat_map (λ item. 32 ∷ item_text item) (take l.item-index l.items)
