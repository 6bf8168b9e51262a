use Rattle.std.proofs.Common.{refl}
use Rattle.std.specs.Fmt.{digits}
use Rattle.cw_bytes.specs.Spelling.{word, long, text}
use Rattle.cw_lines.specs.Lines.{lines_of}
use Rattle.cw_lines.specs.Plays.{play, play_last}
use Rattle.cw_run.proofs.cases.producers_are_judged_by_their_epochs.Goals as goal

pub returns : goal.returns
unfolding digits word long text lines_of play play_last
returns c = refl
