use Rattle.cw_topics.proofs.Told.{next-more, next-all}
use Rattle.cw_topics.proofs.offset_log.next_of.Goals as goal

pub loop-frame-preserved : goal.loop-frame-preserved
loop-frame-preserved c =
    next-more c.args.frames.now c.loop-frame.frame-index c.loop-frame.next c.loop-frame.invariant c.frame-item.result c.loop-frame-test.true c.frame-item.is
    c.next_behind-next.result c.next_behind-next.ensures

pub returns : goal.returns
returns c = next-all c.args.frames.now c.loop-frame.frame-index c.loop-frame.next c.loop-frame.invariant c.loop-frame-test.false
