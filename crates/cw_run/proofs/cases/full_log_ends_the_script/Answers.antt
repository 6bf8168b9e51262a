use Rattle.std.proofs.Common.{refl}
use Rattle.std.specs.Fmt.{digits}
use Rattle.cw_bytes.specs.Spelling.{word, long, text}
use Rattle.cw_lines.specs.Lines.{lines_of}
use Rattle.cw_lines.specs.Plays.{play, play_last}
use Rattle.cw_run.proofs.cases.full_log_ends_the_script.Goals as goal

pub returns-clause-stop : goal.returns-clause-stop
unfolding digits word long text lines_of play play_last
returns-clause-stop c = refl

pub returns-clause-silent : goal.returns-clause-silent
unfolding digits word long text lines_of play play_last
returns-clause-silent c = refl
