use Rattle.std.proofs.Common.{ap, ◌∙◌, List, take}
use Rattle.std.specs.List.{flat_map}
use Rattle.cw_offset.specs.Replay.{calls_at}
use Rattle.cw_txn.specs.declared.entry.Entry.{Entry}
use Rattle.cw_topics.specs.Replaying.{told_more}
use Rattle.cw_topics.proofs.Replays.{none-told, more-told, all-told, free-told, list_calls, each-list}
use Rattle.cw_topics.proofs.replaying.tell_list.Goals as goal

pub loop-frame-init : goal.loop-frame-init
loop-frame-init c = none-told (list_calls c.args.log.now) (flat_map (calls_at c.args.log.now)) (each-list c.args.log.now) c.args.state.now c.args.txn.now c.requires.free

pub tell_frame-requires-clause-free : goal.tell_frame-requires-clause-free
tell_frame-requires-clause-free c = free-told (list_calls c.args.log.now (take c.loop-frame.frame-index c.args.txn.now)) c.args.state.now c.loop-frame.state c.loop-frame.invariant

pub loop-frame-preserved : goal.loop-frame-preserved
loop-frame-preserved c =
    more-told (list_calls c.args.log.now) (flat_map (calls_at c.args.log.now)) (each-list c.args.log.now) c.args.state.now c.args.txn.now c.loop-frame.frame-index c.loop-frame.state c.loop-frame.invariant c.frame-item.result
    c.loop-frame-test.true c.frame-item.is c.tell_frame.new.state (c.in_ok-tell_frame.ensures ∙ ap (λ (l : List Entry). told_more (flat_map (calls_at c.args.log.now) l) c.loop-frame.state) c.as_slice.ensures)

pub returns : goal.returns
returns c = all-told (list_calls c.args.log.now) (flat_map (calls_at c.args.log.now)) (each-list c.args.log.now) c.args.state.now c.args.txn.now c.loop-frame.frame-index c.loop-frame.state c.loop-frame.invariant c.loop-frame-test.false
