use Rattle.std.proofs.Common.{refl}
use Rattle.std.specs.Fmt.{digits}
use Rattle.json.specs.Print.{escape_byte}
use Rattle.matchit.specs.Seek.{param_step, seek}
use Rattle.percent_encoding.specs.Percent.{percent_decode}
use Rattle.cw_lines.specs.Lines.{lines_of}
use Rattle.cw_lines.specs.Plays.{play, play_last}
use Rattle.cw_run.proofs.cases.killed_worker_answers_nothing.Goals as goal

pub returns : goal.returns
unfolding digits escape_byte param_step seek percent_decode lines_of play play_last
returns c = refl
