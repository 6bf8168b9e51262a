use Rattle.std.proofs.Common.{◌≡◌, ◌<◌, List, [], ◌∷◌, length, None, refl, rules, arith}
use Rattle.serde_json.specs.View.{items_view}
use Rattle.serde_json.specs.declared.value.Value.{Value}
use Rattle.cw_keys.specs.Parts.{part_in_items}
use Rattle.cw_keys.proofs.part.part_in_items.Goals as goal

short : (vs : List Value) → length vs < 2 → None ≡ part_in_items (items_view vs)
short [] h = refl
short (v ∷ []) h = refl
short (v ∷ w ∷ vs) h = absurd (omega arith)

pub returns-in_default : goal.returns-in_default
returns-in_default c = short c.args.items.now (search rules)
