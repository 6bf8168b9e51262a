use Rattle.std.proofs.Common.{take}
use Rattle.std.specs.List.{flat_map}
use Rattle.cw_offset.specs.Log.{marks_in}
use Rattle.cw_topics.proofs.Replays.{none-told, more-told, all-told, free-told, each-flat}
use Rattle.cw_topics.proofs.replaying.mark_each.Goals as goal

pub loop-frame-init : goal.loop-frame-init
loop-frame-init c = none-told (flat_map marks_in) (marks_in) (each-flat marks_in) c.args.state.now c.args.frames.now c.requires

pub mark_frame-requires : goal.mark_frame-requires
mark_frame-requires c = free-told (flat_map marks_in (take c.loop-frame.frame-index c.args.frames.now)) c.args.state.now c.loop-frame.state c.loop-frame.invariant

pub loop-frame-preserved : goal.loop-frame-preserved
loop-frame-preserved c =
    more-told (flat_map marks_in) (marks_in) (each-flat marks_in) c.args.state.now c.args.frames.now c.loop-frame.frame-index c.loop-frame.state c.loop-frame.invariant c.frame-item.result
    c.loop-frame-test.true c.frame-item.is c.mark_frame.new.state c.in_ok-mark_frame.ensures

pub returns : goal.returns
returns c = all-told (flat_map marks_in) (marks_in) (each-flat marks_in) c.args.state.now c.args.frames.now c.loop-frame.frame-index c.loop-frame.state c.loop-frame.invariant c.loop-frame-test.false
