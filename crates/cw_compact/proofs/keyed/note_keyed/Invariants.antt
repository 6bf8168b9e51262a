use Rattle.std.proofs.Common.{List, take, ◌++◌}
use Rattle.std.specs.List.{filter_map}
use Rattle.cw_config.specs.declared.records.ConfigRecord.{ConfigRecord}
use Rattle.cw_config.specs.Compaction.{keyed}
use Rattle.cw_compact.specs.Clean.{IsClean}
use Rattle.cw_compact.proofs.keyed.note_keyed.Given as goal

abbrev pub invariant-loop-record : goal.invariant-loop-record
invariant-loop-record l = (before : List ConfigRecord) → IsClean l.initial.clean before → IsClean l.clean (before ++ filter_map keyed (take l.record-index l.records))
