-- Numbers that are capped as their digits are read.
use Rattle.std.proofs.Common.{◌≡◌, ℕ, ◌+◌, ◌-◌, ◌*◌, min, List, [], ◌∷◌, arith}
use Rattle.cw_types.specs.Decimal.{read_on}

-- numbers that are the same below a cap stay so with more digits behind them
pub capped : (cs : List ℕ) (m a b : ℕ) → min a m ≡ min b m → min (read_on a cs) m ≡ min (read_on b cs) m
capped [] m a b same = same
capped (c ∷ cs) m a b same = capped cs m (10 * a + (c - 48)) (10 * b + (c - 48)) (omega (arith, same))
