use Rattle.std.proofs.Common.{◌≡◌, [], vec_len, All}
use Rattle.cw_board.proofs.opening.make_readers.Given as goal

abbrev pub invariant-loop-reader : goal.invariant-loop-reader
invariant-loop-reader g l = (vec_len l.boards ≡ l._reader) × All (λ board. board ≡ []) l.boards.items
