-- Computed, down to the bytes of each frame.
use Rattle.std.specs.Prelude.{refl}
use Rattle.std.specs.Fmt.{digits}
use Rattle.json.specs.Print.{escape_byte}
use Rattle.cw_bytes.specs.Spelling.{word, long, text}
use Rattle.cw_model.proofs.alterations.offsets_are_reset.Goals as goal

pub returns-clause-before : goal.returns-clause-before
unfolding word long text escape_byte digits
returns-clause-before c = refl

pub returns-clause-end : goal.returns-clause-end
unfolding word long text escape_byte digits
returns-clause-end c = refl

pub returns-clause-base : goal.returns-clause-base
unfolding word long text escape_byte digits
returns-clause-base c = refl
