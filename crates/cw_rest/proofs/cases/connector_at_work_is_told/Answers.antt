-- Computed, down to the bytes of the text.
use Rattle.std.specs.Prelude.{refl}
use Rattle.std.specs.Fmt.{digits}
use Rattle.json.specs.Print.{escape_byte}
use Rattle.cw_rest.proofs.cases.connector_at_work_is_told.Goals as goal

pub returns-clause-status : goal.returns-clause-status
unfolding digits escape_byte
returns-clause-status c = refl

pub returns-clause-offsets : goal.returns-clause-offsets
unfolding digits escape_byte
returns-clause-offsets c = refl
