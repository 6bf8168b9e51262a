-- Computed, down to the bytes of each frame.
use Rattle.std.specs.Prelude.{refl}
use Rattle.std.specs.Fmt.{digits}
use Rattle.json.specs.Print.{escape_byte}
use Rattle.cw_bytes.specs.Spelling.{word, long, text}
use Rattle.cw_model.proofs.steps.committed_records_are_stable_once_marked.Goals as goal

pub returns-clause-unstable : goal.returns-clause-unstable
unfolding word long text escape_byte digits
returns-clause-unstable c = refl

pub returns-clause-marker : goal.returns-clause-marker
unfolding word long text escape_byte digits
returns-clause-marker c = refl

pub returns-clause-stable : goal.returns-clause-stable
unfolding word long text escape_byte digits
returns-clause-stable c = refl

pub returns-clause-record_ : goal.returns-clause-record_
unfolding word long text escape_byte digits
returns-clause-record_ c = refl

pub returns-clause-offset : goal.returns-clause-offset
unfolding word long text escape_byte digits
returns-clause-offset c = refl
