use Rattle.std.proofs.Common.{◌≡◌, []}
use Rattle.std.specs.Prelude.{replicate}
use Rattle.cw_board.proofs.Shelved.{records}
use Rattle.cw_board.proofs.shelves.empty_shelves.Given as goal

abbrev pub invariant-loop-worker : goal.invariant-loop-worker
invariant-loop-worker l = records l.shelves.items ≡ replicate l._worker []
