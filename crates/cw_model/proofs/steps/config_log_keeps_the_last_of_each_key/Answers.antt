-- Computed, down to the bytes of each frame.
use Rattle.std.specs.Prelude.{refl}
use Rattle.std.specs.Fmt.{digits}
use Rattle.json.specs.Print.{escape_byte}
use Rattle.cw_bytes.specs.Spelling.{word, long, text}
use Rattle.cw_model.proofs.steps.config_log_keeps_the_last_of_each_key.Goals as goal

pub returns-clause-counts : goal.returns-clause-counts
unfolding word long text escape_byte digits
returns-clause-counts c = refl

pub returns-clause-stays : goal.returns-clause-stays
unfolding word long text escape_byte digits
returns-clause-stays c = refl

pub returns-clause-waiting : goal.returns-clause-waiting
unfolding word long text escape_byte digits
returns-clause-waiting c = refl
