use Rattle.std.proofs.Common.{take}
use Rattle.cw_topics.proofs.Replays.{none-told, more-told, all-told, free-told, calls_of, call_of, each-call}
use Rattle.cw_topics.proofs.replaying.tell_each.Goals as goal

pub loop-call-init : goal.loop-call-init
loop-call-init c = none-told (calls_of) (call_of) each-call c.args.state.now c.args.calls.now c.requires

pub tell-requires : goal.tell-requires
tell-requires c = free-told (calls_of (take c.loop-call.call-index c.args.calls.now)) c.args.state.now c.loop-call.state c.loop-call.invariant

pub loop-call-preserved : goal.loop-call-preserved
loop-call-preserved c =
    more-told (calls_of) (call_of) each-call c.args.state.now c.args.calls.now c.loop-call.call-index c.loop-call.state c.loop-call.invariant c.call-item.result
    c.loop-call-test.true c.call-item.is c.tell.new.state c.in_ok-tell.ensures

pub returns : goal.returns
returns c = all-told (calls_of) (call_of) each-call c.args.state.now c.args.calls.now c.loop-call.call-index c.loop-call.state c.loop-call.invariant c.loop-call-test.false
