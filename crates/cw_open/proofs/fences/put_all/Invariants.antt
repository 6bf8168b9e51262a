use Rattle.std.proofs.Common.{List, ◌++◌, take}
use Rattle.std.specs.List.{filter_map}
use Rattle.cw_config.specs.declared.records.ConfigRecord.{ConfigRecord}
use Rattle.cw_config.specs.Compaction.{config_in}
use Rattle.cw_open.specs.Standing.{AreFences}
use Rattle.cw_open.proofs.fences.put_all.Given as goal

abbrev pub invariant-loop-at : goal.invariant-loop-at
invariant-loop-at l = (records : List ConfigRecord) → AreFences l.initial.table records → AreFences l.table (records ++ filter_map config_in (take l.at l.frame))
