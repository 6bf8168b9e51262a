use Rattle.std.proofs.Common.{refl}
use Rattle.std.specs.Char.{encode_utf8}
use Rattle.std.specs.Float.Numeral.{scan_numeral}
use Rattle.std.specs.Fmt.{digits}
use Rattle.std.specs.Str.{chars, is_utf8}
use Rattle.json.specs.Json.{items, members, value}
use Rattle.json.specs.Lex.{lex, punctuate}
use Rattle.json.specs.Print.{escape_byte}
use Rattle.json.specs.Text.{content}
use Rattle.json.specs.Word.{after_number, word as token_word}
use Rattle.serde_json.specs.Read.{number_of}
use Rattle.matchit.specs.Seek.{param_step, seek}
use Rattle.percent_encoding.specs.Percent.{percent_decode}
use Rattle.cw_bytes.specs.Spelling.{word, long, text}
use Rattle.cw_plugin.specs.Tasks.{groups, task_config}
use Rattle.cw_feed.specs.Cut.{lengths_behind, fitting}
use Rattle.cw_lines.specs.Lines.{lines_of}
use Rattle.cw_lines.specs.Plays.{play, play_last}
use Rattle.cw_run.specs.Settling.{rounds}
use Rattle.cw_run.proofs.cases.source_is_read_again_from_an_altered_offset.Goals as goal

pub returns : goal.returns
unfolding encode_utf8 scan_numeral digits chars is_utf8 items members value lex punctuate escape_byte content after_number token_word number_of param_step seek percent_decode word long text groups task_config lengths_behind fitting lines_of play play_last rounds
returns c = refl
