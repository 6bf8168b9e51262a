use Rattle.std.proofs.Common.{refl}
use Rattle.std.specs.Fmt.{digits}
use Rattle.json.specs.Print.{escape_byte}
use Rattle.cw_bytes.specs.Spelling.{word, long, text}
use Rattle.cw_feed.specs.Cut.{lengths_behind, fitting}
use Rattle.cw_plugin.specs.Tasks.{groups, task_config}
use Rattle.cw_model.proofs.judged.started_task_commits.Goals as goal

pub returns : goal.returns
unfolding digits escape_byte word long text groups task_config lengths_behind fitting
returns c = refl
