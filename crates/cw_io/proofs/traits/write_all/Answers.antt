use Rattle.std.proofs.Common.{arith}
use Rattle.cw_io.proofs.Pieces.{added_more, stopped_at}
use Rattle.cw_io.proofs.traits.write_all.Goals as goal

pub returns-in_err-at-clause-in_part : goal.returns-in_err-at-clause-in_part
returns-in_err-at-clause-in_part g c =
    stopped_at c.args.bytes.now c.loop-at.at _ _ _ c.from_residual.result c.loop-at.invariant.added c.in_err-at.ensures.kept

pub loop-at-preserved : goal.loop-at-preserved
loop-at-preserved g c = record { within = omega (arith, c.in_ok-at.ensures.fits); added = added_more c.args.bytes.now c.loop-at.at c.in_ok-at.field-0 _ _ _ c.loop-at.invariant.within c.loop-at.invariant.added c.in_ok-at.ensures.added; later = omega arith }
