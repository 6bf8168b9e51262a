use Rattle.std.proofs.Common.{◌≡◌, ◌++◌, take}
use Rattle.std.specs.List.{filter_map}
use Rattle.cw_config.specs.Compaction.{config_in}
use Rattle.cw_topics.proofs.opened.read_frame.Given as goal

abbrev pub invariant-loop-applied : goal.invariant-loop-applied
invariant-loop-applied l = l.records.items ≡ l.initial.records.items ++ filter_map config_in (take l.applied-index l.frame)
