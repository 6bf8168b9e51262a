use Rattle.std.proofs.Common.{sym, subst}
use Rattle.cw_txn.specs.Allowed.{IsAllowedBehind}
use Rattle.cw_txn.specs.declared.entry.Entry.{Entry}
use Rattle.cw_txn.specs.Legal.{ChainsBehind}
use Rattle.cw_topics.proofs.Putting.{next-has}
use Rattle.cw_topics.proofs.entries.put_each.Goals as goal

pub put_entry-requires-clause-allowed : goal.put_entry-requires-clause-allowed
put_entry-requires-clause-allowed c = subst (λ (e : Entry). IsAllowedBehind c.loop-entry.coordinator.entries e) (sym c.entry-item.is)
    (next-has c.args.coordinator.now.entries c.args.entries.now c.loop-entry.entry-index c.loop-entry.coordinator c.entry-item.result
    c.loop-entry.invariant c.loop-entry-test.true IsAllowedBehind c.requires.allowed)

pub put_entry-requires-clause-chains : goal.put_entry-requires-clause-chains
put_entry-requires-clause-chains c part = subst (λ (e : Entry). ChainsBehind part c.loop-entry.coordinator.entries e) (sym c.entry-item.is)
    (next-has c.args.coordinator.now.entries c.args.entries.now c.loop-entry.entry-index c.loop-entry.coordinator c.entry-item.result
    c.loop-entry.invariant c.loop-entry-test.true (ChainsBehind part) (c.requires.chains part))
