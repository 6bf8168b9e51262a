use Rattle.std.proofs.Common.{◌≡◌, ◌≢◌, true, false, refl, arith}
use Rattle.cw_types.specs.declared.ids.Item.TheVariants.{Connector}
use Rattle.cw_model.specs.WorkedCases.{name}
use Rattle.cw_model.proofs.judged.shared_connector_is_not_disjoint.Goals as goal

-- true isn't false
unlike : true ≡ false → ⊥
unlike same = cc

pub returns : goal.returns
returns c = λ disjoint. let other : 0 ≢ 1 = omega arith in unlike (disjoint 0 1 (Connector name) other refl refl refl)
