-- Computed, down to the bytes of each frame.
use Rattle.std.specs.Prelude.{refl}
use Rattle.std.specs.Fmt.{digits}
use Rattle.json.specs.Print.{escape_byte}
use Rattle.cw_bytes.specs.Spelling.{word, long, text}
use Rattle.cw_model.proofs.steps.script_producer_is_judged_by_its_epoch.Goals as goal

pub returns-clause-bytes : goal.returns-clause-bytes
unfolding word long text escape_byte digits
returns-clause-bytes c = refl

pub returns-clause-bytes_after : goal.returns-clause-bytes_after
unfolding word long text escape_byte digits
returns-clause-bytes_after c = refl

pub returns-clause-bytes_then : goal.returns-clause-bytes_then
unfolding word long text escape_byte digits
returns-clause-bytes_then c = refl

pub returns-clause-fenced : goal.returns-clause-fenced
unfolding word long text escape_byte digits
returns-clause-fenced c = refl

pub returns-clause-bad : goal.returns-clause-bad
unfolding word long text escape_byte digits
returns-clause-bad c = refl
