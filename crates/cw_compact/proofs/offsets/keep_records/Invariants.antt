use Rattle.std.proofs.Common.{◌≡◌, List, map}
use Rattle.cw_txn.specs.declared.entry.Entry.{Entry}
use Rattle.cw_offset.specs.declared.body.OffsetEntry.{OffsetEntry}
use Rattle.cw_offset.specs.Compaction.{records_staying}
use Rattle.cw_compact.specs.Outcomes.{AreOutcomes}
use Rattle.cw_compact.proofs.offsets.keep_records.Given as goal

abbrev pub invariant-loop-entry : goal.invariant-loop-entry
invariant-loop-entry l = (log : List OffsetEntry) (entries : List Entry) → AreOutcomes l.outcomes log entries → l.kept.items ≡ map (records_staying entries log) l.yielded
