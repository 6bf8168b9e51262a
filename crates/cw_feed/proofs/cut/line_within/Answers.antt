use Rattle.std.proofs.Common.{arith, add-one}
use Rattle.cw_feed.proofs.Lines.{ends_at, ends_nowhere}
use Rattle.cw_feed.proofs.cut.line_within.Goals as goal

pub returns-in_err-at : goal.returns-in_err-at
returns-in_err-at c = rw c.from_residual.ensures (ends_nowhere c.args.part.now (λ j below. c.in_err-at.ensures j (omega arith) below))

pub returns : goal.returns
returns c =
    rw add-one (ends_at c.args.part.now c.in_ok-at.at c.in_ok-at.ensures.0.high c.in_ok-at.ensures.1 (λ j below. c.in_ok-at.ensures.0.before j (omega arith) below))
