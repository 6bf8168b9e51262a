-- Computed, down to the bytes of each frame.
use Rattle.std.specs.Prelude.{refl}
use Rattle.std.specs.Fmt.{digits}
use Rattle.json.specs.Print.{escape_byte}
use Rattle.cw_bytes.specs.Spelling.{word, long, text}
use Rattle.cw_model.proofs.steps.compaction_leaves_spellings_as_they_are.Goals as goal

pub returns-clause-counts : goal.returns-clause-counts
unfolding word long text escape_byte digits
returns-clause-counts c = refl

pub returns-clause-stays : goal.returns-clause-stays
unfolding word long text escape_byte digits
returns-clause-stays c = refl

pub returns-clause-bytes : goal.returns-clause-bytes
unfolding word long text escape_byte digits
returns-clause-bytes c = refl

pub returns-clause-bytes_then : goal.returns-clause-bytes_then
unfolding word long text escape_byte digits
returns-clause-bytes_then c = refl
