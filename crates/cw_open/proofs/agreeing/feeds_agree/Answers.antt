use Rattle.cw_open.proofs.AgreeLemmas.{agrees-more, agrees-not, agrees-all}
use Rattle.cw_open.proofs.agreeing.feeds_agree.Goals as goal

pub returns-then-not-branch : goal.returns-then-not-branch
returns-then-not-branch c =
    agrees-not c.args.feeds.now c.args.entries.now c.args.frames.now c.loop-at.at c.loop-at.invariant c.index-frames-at.result c.loop-at-test.true c.index-frames-at.is
    c.in_ok-frame_agrees.field-0 c.in_ok-frame_agrees.ensures c.if-not-branch.true

pub loop-at-preserved : goal.loop-at-preserved
loop-at-preserved c =
    agrees-more c.args.feeds.now c.args.entries.now c.args.frames.now c.loop-at.at c.loop-at.invariant c.index-frames-at.result c.loop-at-test.true c.index-frames-at.is
    c.in_ok-frame_agrees.field-0 c.in_ok-frame_agrees.ensures c.if-not-branch.false

pub returns : goal.returns
returns c = agrees-all c.args.feeds.now c.args.entries.now c.args.frames.now c.loop-at.at c.loop-at.invariant c.loop-at-test.false
