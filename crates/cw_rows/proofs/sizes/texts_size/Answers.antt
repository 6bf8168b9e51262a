use Rattle.std.proofs.Common.{ℕ, List, length, ap, arith}
use Rattle.cw_rows.proofs.Cuts.{texts-next}
use Rattle.cw_rows.proofs.sizes.texts_size.Goals as goal

pub loop-value-preserved : goal.loop-value-preserved
loop-value-preserved c = omega (
  arith,
  texts-next c.args.values.now c.loop-value.value-index c.value-item.result c.loop-value-test.true,
  ap (λ (l : List ℕ). length l) c.value-item.is,
  ap (λ (l : List ℕ). length l) c.as_slice.ensures,
  c.loop-value.invariant,
)
