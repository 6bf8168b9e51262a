use Rattle.cw_json.proofs.Pairs.{props_of_text-props_text}
use Rattle.cw_json.proofs.Written.{reading-compact_text}
use Rattle.cw_json.proofs.write.texts_are_read_again.Goals as goal

pub returns-clause-values : goal.returns-clause-values
returns-clause-values c = reading-compact_text

pub returns-clause-properties : goal.returns-clause-properties
returns-clause-properties c = props_of_text-props_text
