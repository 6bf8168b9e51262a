use Rattle.std.proofs.Common.{take, Contains}
use Rattle.cw_offset.specs.Tables.{call_of}
use Rattle.cw_offset.proofs.state.place_of.Given as goal

abbrev pub invariant-loop-at : goal.invariant-loop-at
invariant-loop-at l = ¬ Contains (take l.at l.calls) (call_of l.call)
