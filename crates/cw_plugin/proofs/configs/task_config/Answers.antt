use Rattle.std.proofs.Common.{ap, ◌∙◌}
use Rattle.std.specs.List.{filter_map}
use Rattle.cw_plugin.specs.Classes.{row_of}
use Rattle.cw_plugin.specs.Tasks.{task_config, task_pair}
use Rattle.cw_plugin.proofs.configs.task_config.Goals as goal

pub returns : goal.returns
unfolding task_config
returns c = c.new.ensures ∙ c.in_ok-pairs.ensures ∙ ap (filter_map (task_pair c.args.props.now (row_of c.args.class) c.args.share.now)) c.row_of.ensures.task_fields
