use Rattle.cw_offset.specs.Acceptance.{IsAllowedOffset}
use Rattle.cw_open.proofs.Steps.{begins, more, all_not, all_taken}
use Rattle.cw_open.proofs.offsets.take_all.Goals as goal

pub loop-at-init : goal.loop-at-init
loop-at-init c = begins IsAllowedOffset c.args.passed.now c.args.records.now

pub returns-then-not-branch : goal.returns-then-not-branch
returns-then-not-branch c =
    all_not IsAllowedOffset c.args.passed.now c.args.records.now c.loop-at.at c.loop-at.passed c.loop-at.invariant c.index-records-at.result c.loop-at-test.true c.index-records-at.is
    c.take_offset.new.passed c.take_offset.new.passed c.in_ok-take_offset.field-0 c.in_ok-take_offset.ensures c.if-not-branch.true

pub loop-at-preserved : goal.loop-at-preserved
loop-at-preserved c =
    more IsAllowedOffset c.args.passed.now c.args.records.now c.loop-at.at c.loop-at.passed c.loop-at.invariant c.index-records-at.result c.loop-at-test.true c.index-records-at.is
    c.take_offset.new.passed c.in_ok-take_offset.field-0 c.in_ok-take_offset.ensures c.if-not-branch.false

pub returns : goal.returns
returns c = all_taken IsAllowedOffset c.args.passed.now c.args.records.now c.loop-at.at c.loop-at.passed c.loop-at.invariant c.loop-at-test.false
