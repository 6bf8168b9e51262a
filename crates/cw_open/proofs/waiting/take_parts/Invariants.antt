use Rattle.cw_open.proofs.OwnerLemmas.{WalkedParts}
use Rattle.cw_open.proofs.waiting.take_parts.Given as goal

abbrev pub invariant-loop-at : goal.invariant-loop-at
invariant-loop-at l = WalkedParts l.parts l.index l.initial.owners l.at l.owners
