-- Computed, down to the bytes of each frame.
use Rattle.std.specs.Prelude.{refl}
use Rattle.std.specs.Fmt.{digits}
use Rattle.json.specs.Print.{escape_byte}
use Rattle.cw_bytes.specs.Spelling.{word, long, text}
use Rattle.cw_model.proofs.reports.failed_task_is_reported_with_its_trace.Goals as goal

pub returns-clause-runs : goal.returns-clause-runs
unfolding word long text escape_byte digits
returns-clause-runs c = refl

pub returns-clause-failed : goal.returns-clause-failed
unfolding word long text escape_byte digits
returns-clause-failed c = refl
