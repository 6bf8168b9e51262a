use Rattle.cw_txn.proofs.WalkLemmas.{TakesMany}
use Rattle.cw_txn.proofs.replay.Walk.take_many.Given as goal

abbrev pub invariant-loop : goal.invariant-loop
invariant-loop l = TakesMany l.group.items l.gate l.count l.counter l.initial.from l.from l.fn.self l.self
