-- Computed, down to the bytes of each frame.
use Rattle.std.specs.Prelude.{refl}
use Rattle.std.specs.Fmt.{digits}
use Rattle.json.specs.Print.{escape_byte}
use Rattle.cw_bytes.specs.Spelling.{word, long, text}
use Rattle.cw_model.proofs.steps.sink_stores_how_far_it_came.Goals as goal

pub returns : goal.returns
unfolding word long text escape_byte digits
returns c = refl
