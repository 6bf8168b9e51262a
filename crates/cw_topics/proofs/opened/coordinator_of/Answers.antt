use Rattle.std.proofs.Common.{ap, List, ◌++◌, ◌∙◌}
use Rattle.cw_txn.specs.Allowed.{IsAllowedBehind}
use Rattle.cw_txn.specs.declared.entry.Entry.{Entry}
use Rattle.cw_txn.specs.Legal.{ChainsBehind}
use Rattle.cw_txn.specs.Transactions.{Transactions}
use Rattle.cw_topics.proofs.Taking.{listed, frame-fits, frame-taken, frames-taken}
use Rattle.cw_topics.proofs.opened.coordinator_of.Goals as goal

pub take_frame-requires-clause-free : goal.take_frame-requires-clause-free
take_frame-requires-clause-free c = ap (λ (t : Transactions). t.reserved) c.loop-frame.invariant

pub take_frame-requires-clause-allowed : goal.take_frame-requires-clause-allowed
take_frame-requires-clause-allowed c = rw (c.as_slice.ensures)
    (frame-fits c.args.frames.now c.loop-frame.frame-index c.loop-frame.coordinator c.loop-frame.invariant c.frame-item.result c.loop-frame-test.true c.frame-item.is
    IsAllowedBehind c.requires.allowed)

pub take_frame-requires-clause-chains : goal.take_frame-requires-clause-chains
take_frame-requires-clause-chains c part = rw (c.as_slice.ensures)
    (frame-fits c.args.frames.now c.loop-frame.frame-index c.loop-frame.coordinator c.loop-frame.invariant c.frame-item.result c.loop-frame-test.true c.frame-item.is
    (ChainsBehind part) (c.requires.chains part))

pub loop-frame-preserved : goal.loop-frame-preserved
loop-frame-preserved c =
    frame-taken c.args.frames.now c.loop-frame.frame-index c.loop-frame.coordinator c.loop-frame.invariant c.frame-item.result c.loop-frame-test.true c.frame-item.is
    c.take_frame.new.coordinator (c.in_ok-take_frame.ensures ∙ ap (λ (l : List Entry). listed (c.loop-frame.coordinator.entries ++ l)) c.as_slice.ensures)

pub returns : goal.returns
returns c = frames-taken c.args.frames.now c.loop-frame.frame-index c.loop-frame.coordinator c.loop-frame.invariant c.loop-frame-test.false
