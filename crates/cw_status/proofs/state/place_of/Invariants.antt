use Rattle.std.proofs.Common.{take, Contains}
use Rattle.cw_status.specs.Table.{record_of}
use Rattle.cw_status.proofs.state.place_of.Given as goal

abbrev pub invariant-loop-at : goal.invariant-loop-at
invariant-loop-at l = ¬ Contains (take l.at l.list) (record_of l.applied)
