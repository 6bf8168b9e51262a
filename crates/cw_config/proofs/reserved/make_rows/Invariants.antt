use Rattle.std.proofs.Common.{take}
use Rattle.cw_config.specs.Tables.{SameRows, HaveRows}
use Rattle.cw_config.proofs.reserved.make_rows.Given as goal

-- the records so far have rows
abbrev pub invariant-loop-added : goal.invariant-loop-added
invariant-loop-added l = record {
  same : SameRows l.fn.tables l.tables;
  rows : HaveRows l.tables (take l.added-index l.frame);
}
