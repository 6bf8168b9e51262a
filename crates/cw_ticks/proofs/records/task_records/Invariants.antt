use Rattle.std.proofs.Common.{◌≡◌, ◌++◌}
use Rattle.cw_ticks.proofs.TaskRecords.{records_on}
use Rattle.cw_ticks.proofs.records.task_records.Given as goal

abbrev pub invariant-loop-index : goal.invariant-loop-index
invariant-loop-index l = l.records.items ++ records_on l.name l.proposal l.index ≡ records_on l.name l.proposal 0
