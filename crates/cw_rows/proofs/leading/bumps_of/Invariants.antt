use Rattle.std.proofs.Common.{◌≡◌}
use Rattle.cw_rest.specs.Operations.{bumps_of}
use Rattle.cw_rows.proofs.leading.bumps_of.Given as goal

abbrev pub invariant-loop-index : goal.invariant-loop-index
invariant-loop-index l = l.bumps.items ≡ bumps_of l.name l.index
