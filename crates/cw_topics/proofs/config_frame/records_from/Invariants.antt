use Rattle.std.proofs.Common.{◌≡◌, ◌+◌, ◌++◌, drop}
use Rattle.cw_topics.specs.Configs.{records_from}
use Rattle.cw_topics.proofs.config_frame.records_from.Given as goal

abbrev pub invariant-loop-at : goal.invariant-loop-at
invariant-loop-at l = l.records.items ++ records_from (l.first + l.at) l.stamp (drop l.at l.values) ≡ records_from l.first l.stamp l.values
