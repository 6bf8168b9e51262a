use Rattle.std.proofs.Common.{◌≡◌, take}
use Rattle.cw_open.proofs.AgreeLemmas.{texts_of}
use Rattle.cw_open.proofs.agreeing.are_values.Given as goal

abbrev pub invariant-loop-at : goal.invariant-loop-at
invariant-loop-at l = texts_of (take l.at l.records) ≡ take l.at l.values
