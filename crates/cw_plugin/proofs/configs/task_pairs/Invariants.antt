use Rattle.std.proofs.Common.{◌≡◌, ◌++◌, drop}
use Rattle.std.specs.List.{filter_map}
use Rattle.cw_plugin.specs.Classes.{row_of}
use Rattle.cw_plugin.specs.Tasks.{task_pair}
use Rattle.cw_plugin.proofs.configs.task_pairs.Given as goal

abbrev pub invariant-loop-field : goal.invariant-loop-field
invariant-loop-field l = l.pairs.items ++ filter_map (task_pair l.props (row_of l.class) l.share) (drop l.field-index l.fields) ≡ filter_map (task_pair l.props (row_of l.class) l.share) l.fields
