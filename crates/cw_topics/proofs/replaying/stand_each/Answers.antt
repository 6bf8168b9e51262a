use Rattle.std.proofs.Common.{take}
use Rattle.cw_topics.proofs.Replays.{none-told, more-told, all-told, free-told, stands_of, stand_of, each-stand}
use Rattle.cw_topics.proofs.replaying.stand_each.Goals as goal

pub loop-frame-init : goal.loop-frame-init
loop-frame-init c = none-told (stands_of) (stand_of) each-stand c.args.state.now c.args.frames.now c.requires

pub stand-requires : goal.stand-requires
stand-requires c = free-told (stands_of (take c.loop-frame.frame-index c.args.frames.now)) c.args.state.now c.loop-frame.state c.loop-frame.invariant

pub loop-frame-preserved : goal.loop-frame-preserved
loop-frame-preserved c =
    more-told (stands_of) (stand_of) each-stand c.args.state.now c.args.frames.now c.loop-frame.frame-index c.loop-frame.state c.loop-frame.invariant c.frame-item.result
    c.loop-frame-test.true c.frame-item.is c.stand.new.state c.in_ok-stand.ensures

pub returns : goal.returns
returns c = all-told (stands_of) (stand_of) each-stand c.args.state.now c.args.frames.now c.loop-frame.frame-index c.loop-frame.state c.loop-frame.invariant c.loop-frame-test.false
