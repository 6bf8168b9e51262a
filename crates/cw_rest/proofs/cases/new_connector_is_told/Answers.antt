-- Computed, down to the bytes of the text.
use Rattle.std.specs.Prelude.{refl}
use Rattle.std.specs.Fmt.{digits}
use Rattle.json.specs.Print.{escape_byte}
use Rattle.cw_rest.proofs.cases.new_connector_is_told.Goals as goal

pub returns-clause-body : goal.returns-clause-body
unfolding digits escape_byte
returns-clause-body c = refl
