use Rattle.std.specs.Vec.Iter.{into_iter_items}
use Rattle.cw_topics.proofs.Taking.{IsAdded}
use Rattle.cw_topics.proofs.opened.data_of.Given as goal

abbrev pub invariant-loop-entry : goal.invariant-loop-entry
invariant-loop-entry l = IsAdded l.fn.entries.items (into_iter_items l.entry-iterator) l.data
