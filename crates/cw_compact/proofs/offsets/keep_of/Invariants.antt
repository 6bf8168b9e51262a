use Rattle.std.proofs.Common.{◌≡◌, not, List}
use Rattle.std.specs.List.{filter}
use Rattle.cw_txn.specs.declared.entry.Entry.{Entry}
use Rattle.cw_offset.specs.declared.body.OffsetEntry.{OffsetEntry}
use Rattle.cw_offset.specs.Compaction.{offset_goes}
use Rattle.cw_compact.specs.Outcomes.{AreOutcomes}
use Rattle.cw_compact.proofs.offsets.keep_of.Given as goal

abbrev pub invariant-loop-record : goal.invariant-loop-record
invariant-loop-record l = (log : List OffsetEntry) (entries : List Entry) → AreOutcomes l.outcomes log entries → l.kept.items ≡ filter (λ r. not (offset_goes entries log l.tag r)) l.yielded
