use Rattle.cw_serve.specs.Talking.{AreTalks, entries_in}
use Rattle.cw_serve.proofs.handling.handle.Given as goal

abbrev pub invariant-loop : goal.invariant-loop
invariant-loop g l = AreTalks g.L.Link l.taker (entries_in l.kept.receipts.items)
