-- Computed, down to the bytes of each frame.
use Rattle.std.specs.Prelude.{refl}
use Rattle.std.specs.Fmt.{digits}
use Rattle.json.specs.Print.{escape_byte}
use Rattle.cw_bytes.specs.Spelling.{word, long, text}
use Rattle.cw_model.proofs.cases.old_leader_is_fenced_and_gives_up.Goals as goal

pub returns-clause-claimed : goal.returns-clause-claimed
unfolding word long text escape_byte digits
returns-clause-claimed c = refl

pub returns-clause-fenced : goal.returns-clause-fenced
unfolding word long text escape_byte digits
returns-clause-fenced c = refl

pub returns-clause-given_up : goal.returns-clause-given_up
unfolding word long text escape_byte digits
returns-clause-given_up c = refl

pub returns-clause-unwritten : goal.returns-clause-unwritten
unfolding word long text escape_byte digits
returns-clause-unwritten c = refl
