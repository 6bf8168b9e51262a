use Rattle.std.proofs.Common.{take}
use Rattle.cw_config.specs.Compaction.{configs_in}
use Rattle.cw_open.specs.Standing.{AreFences}
use Rattle.cw_open.proofs.fences.FenceTable.of.Given as goal

abbrev pub invariant-loop-at : goal.invariant-loop-at
invariant-loop-at l = AreFences l.table (configs_in (take l.at l.frames))
