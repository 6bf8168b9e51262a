use Rattle.std.proofs.Common.{refl}
use Rattle.std.specs.Fmt.{digits}
use Rattle.cw_bytes.specs.Spelling.{word, long, text}
use Rattle.cw_lines.specs.Lines.{lines_of}
use Rattle.cw_lines.specs.Plays.{play, play_last}
use Rattle.cw_run.proofs.cases.lines_that_say_nothing_end_the_script.Goals as goal

pub returns-clause-no_word : goal.returns-clause-no_word
unfolding digits word long text lines_of play play_last
returns-clause-no_word c = refl

pub returns-clause-no_worker : goal.returns-clause-no_worker
unfolding digits word long text lines_of play play_last
returns-clause-no_worker c = refl

pub returns-clause-no_instance : goal.returns-clause-no_instance
unfolding digits word long text lines_of play play_last
returns-clause-no_instance c = refl

pub returns-clause-answered : goal.returns-clause-answered
unfolding digits word long text lines_of play play_last
returns-clause-answered c = refl
