use Rattle.std.proofs.Common.{take}
use Rattle.cw_topics.proofs.Replays.{frame-puts}
use Rattle.cw_topics.proofs.replaying.rows_of.Goals as goal

pub loop-frame-preserved : goal.loop-frame-preserved
loop-frame-preserved c =
    frame-puts c.args.frames.now c.loop-frame.frame-index c.add_frame.new.rows c.frame-item.result c.loop-frame-test.true c.frame-item.is
    (c.in_ok-add_frame.ensures (take c.loop-frame.frame-index c.args.frames.now) c.loop-frame.invariant)
