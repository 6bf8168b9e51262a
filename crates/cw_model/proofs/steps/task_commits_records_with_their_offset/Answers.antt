-- Computed, down to the bytes of each frame.
use Rattle.std.specs.Prelude.{refl}
use Rattle.std.specs.Fmt.{digits}
use Rattle.json.specs.Print.{escape_byte}
use Rattle.cw_bytes.specs.Spelling.{word, long, text}
use Rattle.cw_model.proofs.steps.task_commits_records_with_their_offset.Goals as goal

pub returns-clause-bad : goal.returns-clause-bad
unfolding word long text escape_byte digits
returns-clause-bad c = refl

pub returns-clause-span : goal.returns-clause-span
unfolding word long text escape_byte digits
returns-clause-span c = refl

pub returns-clause-end : goal.returns-clause-end
unfolding word long text escape_byte digits
returns-clause-end c = refl

pub returns-clause-goes_on : goal.returns-clause-goes_on
unfolding word long text escape_byte digits
returns-clause-goes_on c = refl
