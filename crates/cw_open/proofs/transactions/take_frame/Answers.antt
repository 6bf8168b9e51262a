use Rattle.cw_txn.specs.Allowed.{IsAllowedBehind}
use Rattle.cw_open.proofs.Steps.{begins, more, all_not, all_taken}
use Rattle.cw_open.proofs.transactions.take_frame.Goals as goal

pub loop-at-init : goal.loop-at-init
loop-at-init c = begins IsAllowedBehind c.args.passed.now c.args.frame.now

pub returns-then-not-branch : goal.returns-then-not-branch
returns-then-not-branch c =
    all_not IsAllowedBehind c.args.passed.now c.args.frame.now c.loop-at.at c.loop-at.passed c.loop-at.invariant c.index-frame-at.result c.loop-at-test.true c.index-frame-at.is
    c.take_entry.new.passed c.take_entry.new.passed c.in_ok-take_entry.field-0 c.in_ok-take_entry.ensures c.if-not-branch.true

pub loop-at-preserved : goal.loop-at-preserved
loop-at-preserved c =
    more IsAllowedBehind c.args.passed.now c.args.frame.now c.loop-at.at c.loop-at.passed c.loop-at.invariant c.index-frame-at.result c.loop-at-test.true c.index-frame-at.is
    c.take_entry.new.passed c.in_ok-take_entry.field-0 c.in_ok-take_entry.ensures c.if-not-branch.false

pub returns : goal.returns
returns c = all_taken IsAllowedBehind c.args.passed.now c.args.frame.now c.loop-at.at c.loop-at.passed c.loop-at.invariant c.loop-at-test.false
