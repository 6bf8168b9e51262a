use Rattle.std.proofs.Common.{ap, sym, subst}
use Rattle.cw_txn.specs.Allowed.{IsAllowedBehind}
use Rattle.cw_txn.specs.declared.entry.Entry.{Entry}
use Rattle.cw_txn.specs.Legal.{ChainsBehind}
use Rattle.cw_txn.specs.Transactions.{Transactions}
use Rattle.cw_topics.proofs.Taking.{none-taken, next-fits, next-taken, all-taken}
use Rattle.cw_topics.proofs.opened.take_frame.Goals as goal

pub loop-entry-init : goal.loop-entry-init
loop-entry-init c = none-taken c.args.coordinator.now c.args.frame.now c.requires.free

pub take_entry-requires-clause-free : goal.take_entry-requires-clause-free
take_entry-requires-clause-free c = ap (λ (t : Transactions). t.reserved) c.loop-entry.invariant

pub take_entry-requires-clause-allowed : goal.take_entry-requires-clause-allowed
take_entry-requires-clause-allowed c = subst (λ (e : Entry). IsAllowedBehind c.loop-entry.coordinator.entries e) (sym c.entry-item.is)
    (next-fits c.args.coordinator.now.entries c.args.frame.now c.loop-entry.entry-index c.loop-entry.coordinator c.loop-entry.invariant c.entry-item.result
    c.loop-entry-test.true IsAllowedBehind c.requires.allowed)

pub take_entry-requires-clause-chains : goal.take_entry-requires-clause-chains
take_entry-requires-clause-chains c part = subst (λ (e : Entry). ChainsBehind part c.loop-entry.coordinator.entries e) (sym c.entry-item.is)
    (next-fits c.args.coordinator.now.entries c.args.frame.now c.loop-entry.entry-index c.loop-entry.coordinator c.loop-entry.invariant c.entry-item.result
    c.loop-entry-test.true (ChainsBehind part) (c.requires.chains part))

pub loop-entry-preserved : goal.loop-entry-preserved
loop-entry-preserved c =
    next-taken c.args.coordinator.now.entries c.args.frame.now c.loop-entry.entry-index c.loop-entry.coordinator c.loop-entry.invariant c.entry-item.result
    c.loop-entry-test.true c.entry-item.result c.entry-item.is c.take_entry.new.coordinator c.in_ok-take_entry.ensures

pub returns : goal.returns
returns c = all-taken c.args.coordinator.now.entries c.args.frame.now c.loop-entry.entry-index c.loop-entry.coordinator c.loop-entry.invariant c.loop-entry-test.false
