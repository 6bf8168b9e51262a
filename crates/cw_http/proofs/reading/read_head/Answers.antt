use Rattle.cw_http.proofs.Moves.{moved_then}
use Rattle.cw_http.proofs.reading.read_head.Goals as goal

pub returns-in_err-read_piece-clause-moved : goal.returns-in_err-read_piece-clause-moved
returns-in_err-read_piece-clause-moved g c = moved_then _ _ _ _ _ _ c.loop-length.invariant.moved c.read_piece.ensures.moved
