-- Computed, down to the bytes of each frame.
use Rattle.std.specs.Prelude.{refl}
use Rattle.cw_bytes.specs.Spelling.{word, long, text}
use Rattle.cw_model.proofs.cases.zombie_commits_no_more_once_fenced.Goals as goal

pub returns-clause-fenced : goal.returns-clause-fenced
unfolding word long text
returns-clause-fenced c = refl

pub returns-clause-refused : goal.returns-clause-refused
unfolding word long text
returns-clause-refused c = refl
