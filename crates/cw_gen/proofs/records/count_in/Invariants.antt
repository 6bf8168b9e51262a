use Rattle.std.proofs.Common.{◌≡◌, take}
use Rattle.cw_gen.specs.Counts.{committed_count}
use Rattle.cw_gen.proofs.records.count_in.Given as goal

abbrev pub invariant-loop-entry : goal.invariant-loop-entry
invariant-loop-entry l = l.count ≡ committed_count l.topic l.txn.entries (take l.entry-index l.entries)
