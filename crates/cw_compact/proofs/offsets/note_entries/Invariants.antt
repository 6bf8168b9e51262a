use Rattle.std.proofs.Common.{◌++◌, List, take}
use Rattle.cw_txn.specs.declared.entry.Entry.{Entry}
use Rattle.cw_offset.specs.declared.body.OffsetEntry.{OffsetEntry}
use Rattle.cw_compact.specs.Stored.{AreStored}
use Rattle.cw_compact.specs.Outcomes.{AreOutcomes}
use Rattle.cw_compact.proofs.offsets.note_entries.Given as goal

abbrev pub invariant-loop-entry : goal.invariant-loop-entry
invariant-loop-entry l = (log : List OffsetEntry) (before : List Entry) → AreStored l.stored.rows log → AreOutcomes l.initial.outcomes log before →
    AreOutcomes l.outcomes log (before ++ take l.entry-index l.entries)
