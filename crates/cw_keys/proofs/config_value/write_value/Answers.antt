use Rattle.std.proofs.Common.{◌≤◌, ap, ◌∙◌, subst, sym}
use Rattle.serde_json.specs.Data.{Data, depth}
use Rattle.serde_json.specs.Written.{has_float}
use Rattle.cw_keys.proofs.Values.{config_no_float, config_shallow}
use Rattle.cw_keys.proofs.config_value.write_value.Goals as goal

pub text_of_value-requires-clause-whole : goal.text_of_value-requires-clause-whole
text_of_value-requires-clause-whole c = ap has_float c.in_ok-json.ensures.json ∙ config_no_float c.args.value.now

pub text_of_value-requires-clause-shallow : goal.text_of_value-requires-clause-shallow
text_of_value-requires-clause-shallow c = subst (λ (d : Data). depth d ≤ 127) (sym c.in_ok-json.ensures.json) (config_shallow c.args.value.now)
