use Rattle.std.proofs.Common.{subst, sym}
use Rattle.cw_status.specs.Compaction.{IsAllowedStatus}
use Rattle.cw_open.proofs.Steps.{WalkedFrames, frames_begin, frame_more, frame_lacks, frames_end}
use Rattle.cw_open.specs.Judging.{StepsAll}
use Rattle.cw_open.proofs.statuses.first_statuses_not_allowed.Goals as goal

pub loop-at-init : goal.loop-at-init
loop-at-init c = subst (WalkedFrames IsAllowedStatus c.args.frames.now 0) (sym c.new-passed.ensures) (frames_begin IsAllowedStatus c.args.frames.now)

pub returns-then-not-branch : goal.returns-then-not-branch
returns-then-not-branch c =
    frame_lacks IsAllowedStatus c.args.frames.now c.loop-at.at c.loop-at.passed c.loop-at.invariant c.index-frames-at.result c.loop-at-test.true c.index-frames-at.is
    c.take_frame.new.passed c.in_ok-take_frame.field-0
    (subst (λ l. StepsAll IsAllowedStatus c.loop-at.passed l c.take_frame.new.passed c.in_ok-take_frame.field-0) c.as_slice.ensures c.in_ok-take_frame.ensures) c.if-not-branch.true

pub loop-at-preserved : goal.loop-at-preserved
loop-at-preserved c =
    frame_more IsAllowedStatus c.args.frames.now c.loop-at.at c.loop-at.passed c.loop-at.invariant c.index-frames-at.result c.loop-at-test.true c.index-frames-at.is
    c.take_frame.new.passed c.in_ok-take_frame.field-0
    (subst (λ l. StepsAll IsAllowedStatus c.loop-at.passed l c.take_frame.new.passed c.in_ok-take_frame.field-0) c.as_slice.ensures c.in_ok-take_frame.ensures) c.if-not-branch.false

pub returns : goal.returns
returns c = frames_end IsAllowedStatus c.args.frames.now c.loop-at.at c.loop-at.passed c.loop-at.invariant c.loop-at-test.false
