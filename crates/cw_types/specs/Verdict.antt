-- How a transaction ended.
use Rattle.std.specs.Prelude.{Bool, true, false}
use Rattle.cw_types.specs.declared.verdict.Verdict.{Verdict}
use Rattle.cw_types.specs.declared.verdict.Verdict.TheVariants.{Committed, Aborted, Open}

-- whether it has ended: an open one may still be committed
abbrev pub has_ended : Verdict → Bool
has_ended Committed = true
has_ended Aborted = true
has_ended Open = false
