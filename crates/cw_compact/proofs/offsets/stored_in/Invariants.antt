use Rattle.std.proofs.Common.{take}
use Rattle.cw_compact.specs.Stored.{AreStored}
use Rattle.cw_compact.proofs.offsets.stored_in.Given as goal

abbrev pub invariant-loop-entry : goal.invariant-loop-entry
invariant-loop-entry l = AreStored l.stored.rows (take l.entry-index l.log)
