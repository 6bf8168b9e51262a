use Rattle.std.proofs.Common.{◌∷◌, ◌++◌, ap, ◌∙◌, List, ℕ}
use Rattle.cw_model.specs.TickText.{item_text}
use Rattle.cw_cluster.proofs.Spaces.{all-listed, spaced-map}
use Rattle.cw_cluster.proofs.wording.write_items.Goals as goal

pub returns : goal.returns
returns c =
    all-listed (λ item. 32 ∷ item_text item) c.args.items.now c.loop-item.item-index c.args.text.now.items c.loop-item.text.items c.loop-item-test.false c.loop-item.invariant
    ∙ ap (λ (l : List ℕ). c.args.text.now.items ++ l) (spaced-map item_text c.args.items.now)
