use Rattle.std.proofs.Common.{List, take}
use Rattle.cw_bytes.specs.Frames.{joined}
use Rattle.cw_offset.specs.declared.body.OffsetEntry.{OffsetEntry}
use Rattle.cw_compact.specs.Stored.{AreStored}
use Rattle.cw_compact.specs.Outcomes.{AreOutcomes}
use Rattle.cw_compact.proofs.offsets.outcomes_of.Given as goal

abbrev pub invariant-loop-frame : goal.invariant-loop-frame
invariant-loop-frame l = (log : List OffsetEntry) → AreStored l.stored.rows log → AreOutcomes l.outcomes log (joined (take l.frame-index l.txn))
