use Rattle.std.specs.Vec.Iter.{into_iter_items}
use Rattle.cw_topics.proofs.Taking.{next-within}
use Rattle.cw_topics.proofs.opened.data_of.Goals as goal

pub take_data-requires-clause-fits : goal.take_data-requires-clause-fits
take_data-requires-clause-fits c =
    next-within c.args.entries.items (into_iter_items c.loop-entry.entry-iterator) c.loop-entry.data c.in-Some.entry (into_iter_items c.next.new.self)
    c.loop-entry.invariant c.in-Some.ensures.steps.0 c.requires
