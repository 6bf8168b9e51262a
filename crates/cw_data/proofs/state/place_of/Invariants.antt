use Rattle.std.proofs.Common.{take, Contains}
use Rattle.cw_data.specs.Tables.{entry_of}
use Rattle.cw_data.proofs.state.place_of.Given as goal

abbrev pub invariant-loop-at : goal.invariant-loop-at
invariant-loop-at l = ¬ Contains (take l.at l.entries) (entry_of l.entry)
