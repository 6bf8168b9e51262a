use Rattle.std.proofs.Common.{[]}
use Rattle.cw_offset.specs.Acceptance.{IsAllowedStored}
use Rattle.cw_open.proofs.Firsts.{ends}
use Rattle.cw_open.proofs.OffsetLemmas.{offsets_more, offset_lacks}
use Rattle.cw_open.proofs.offsets.first_offsets_not_allowed.Goals as goal

pub loop-at-init : goal.loop-at-init
loop-at-init c = record { each = tt; kept = c.new-passed.ensures }

pub returns-then-not-branch : goal.returns-then-not-branch
returns-then-not-branch c =
    offset_lacks c.args.entries.now c.args.frames.now c.loop-at.at c.loop-at.passed c.loop-at.invariant c.index-frames-at.result c.loop-at-test.true c.index-frames-at.is
    c.take.new.passed c.in_ok-take.field-0 c.in_ok-take.ensures c.if-not-branch.true

pub loop-at-preserved : goal.loop-at-preserved
loop-at-preserved c =
    offsets_more c.args.entries.now c.args.frames.now c.loop-at.at c.loop-at.passed c.loop-at.invariant c.index-frames-at.result c.loop-at-test.true c.index-frames-at.is
    c.take.new.passed c.in_ok-take.field-0 c.in_ok-take.ensures c.if-not-branch.false

pub returns : goal.returns
returns c = ends (IsAllowedStored c.args.entries.now) [] c.args.frames.now c.loop-at.at c.loop-at.invariant.each c.loop-at-test.false
