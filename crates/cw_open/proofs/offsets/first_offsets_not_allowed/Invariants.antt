use Rattle.cw_open.proofs.OffsetLemmas.{WalkedOffsets}
use Rattle.cw_open.proofs.offsets.first_offsets_not_allowed.Given as goal

abbrev pub invariant-loop-at : goal.invariant-loop-at
invariant-loop-at l = WalkedOffsets l.entries l.frames l.at l.passed
