use Rattle.std.proofs.Common.{◌≡◌, take}
use Rattle.cw_txn.proofs.entry.copy_offsets.Given as goal

abbrev pub invariant-loop-set : goal.invariant-loop-set
invariant-loop-set l = l.copies.items ≡ take l.set-index l.list
