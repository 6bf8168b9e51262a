-- Computed, down to the bytes of each frame.
use Rattle.std.specs.Prelude.{refl}
use Rattle.std.proofs.Common.{arith}
use Rattle.std.specs.Fmt.{digits}
use Rattle.json.specs.Print.{escape_byte}
use Rattle.cw_bytes.specs.Spelling.{word, long, text}
use Rattle.cw_model.proofs.cases.new_task_goes_on_once_fenced.Goals as goal

pub returns-clause-offset : goal.returns-clause-offset
unfolding word long text escape_byte digits
returns-clause-offset c = refl

pub returns-clause-verified : goal.returns-clause-verified
unfolding word long text escape_byte digits
returns-clause-verified c = refl

pub returns-clause-may : goal.returns-clause-may
returns-clause-may c = record { leads = refl; pending = refl; left = omega arith }

pub returns-clause-may_write : goal.returns-clause-may_write
unfolding word long text escape_byte digits
returns-clause-may_write c = record { leads = refl; pending = refl; done = refl }
