use Rattle.std.proofs.Common.{◌≡◌, take}
use Rattle.cw_compact.proofs.copies.list_txn.Given as goal

abbrev pub invariant-loop-frame : goal.invariant-loop-frame
invariant-loop-frame l = l.list ≡ take l.frame-index l.frames
