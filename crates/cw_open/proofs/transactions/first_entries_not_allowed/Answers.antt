use Rattle.std.proofs.Common.{subst, sym}
use Rattle.cw_txn.specs.Allowed.{IsAllowedBehind}
use Rattle.cw_open.proofs.Steps.{WalkedFrames, frames_begin, frame_more, frame_lacks, frames_end}
use Rattle.cw_open.specs.Judging.{StepsAll}
use Rattle.cw_open.proofs.transactions.first_entries_not_allowed.Goals as goal

pub loop-at-init : goal.loop-at-init
loop-at-init c = subst (WalkedFrames IsAllowedBehind c.args.frames.now 0) (sym c.new-passed.ensures) (frames_begin IsAllowedBehind c.args.frames.now)

pub returns-then-not-branch : goal.returns-then-not-branch
returns-then-not-branch c =
    frame_lacks IsAllowedBehind c.args.frames.now c.loop-at.at c.loop-at.passed c.loop-at.invariant c.index-frames-at.result c.loop-at-test.true c.index-frames-at.is
    c.take_frame.new.passed c.in_ok-take_frame.field-0
    (subst (λ l. StepsAll IsAllowedBehind c.loop-at.passed l c.take_frame.new.passed c.in_ok-take_frame.field-0) c.as_slice.ensures c.in_ok-take_frame.ensures) c.if-not-branch.true

pub loop-at-preserved : goal.loop-at-preserved
loop-at-preserved c =
    frame_more IsAllowedBehind c.args.frames.now c.loop-at.at c.loop-at.passed c.loop-at.invariant c.index-frames-at.result c.loop-at-test.true c.index-frames-at.is
    c.take_frame.new.passed c.in_ok-take_frame.field-0
    (subst (λ l. StepsAll IsAllowedBehind c.loop-at.passed l c.take_frame.new.passed c.in_ok-take_frame.field-0) c.as_slice.ensures c.in_ok-take_frame.ensures) c.if-not-branch.false

pub returns : goal.returns
returns c = frames_end IsAllowedBehind c.args.frames.now c.loop-at.at c.loop-at.passed c.loop-at.invariant c.loop-at-test.false
