use Rattle.std.proofs.Common.{◌≡◌, map, take}
use Rattle.cw_plugin.specs.Classes.{row_of}
use Rattle.cw_plugin.specs.Tasks.{task_config}
use Rattle.cw_plugin.proofs.configs.configs_of_shares.Given as goal

abbrev pub invariant-loop-share : goal.invariant-loop-share
invariant-loop-share l = l.configs.items ≡ map (task_config l.props (row_of l.class)) (take l.share-index l.shares)
