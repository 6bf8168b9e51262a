use Rattle.std.proofs.Common.{ℕ, List, length, ap, arith}
use Rattle.std.specs.List.{flat_map}
use Rattle.cw_bytes.specs.Spelling.{text}
use Rattle.cw_rows.proofs.Cuts.{short-values}
use Rattle.cw_rows.proofs.sizes.short_batch.Goals as goal

pub returns-then-size-lt-LONG-clause-short : goal.returns-then-size-lt-LONG-clause-short
returns-then-size-lt-LONG-clause-short c = short-values c.args.batch.values
    (omega (arith, c.in-Some.ensures, c.if-size-lt-LONG.true, ap (λ (l : List (List ℕ)). length (flat_map text l)) c.as_slice.ensures))
