-- Computed, down to the bytes of the text.
use Rattle.std.specs.Prelude.{refl}
use Rattle.std.specs.Fmt.{digits}
use Rattle.json.specs.Print.{escape_byte}
use Rattle.cw_rest.proofs.cases.refused_connector_is_told_why.Goals as goal

pub returns-clause-text : goal.returns-clause-text
unfolding digits escape_byte
returns-clause-text c = refl
