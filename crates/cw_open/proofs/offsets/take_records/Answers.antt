use Rattle.std.proofs.Common.{refl}
use Rattle.cw_open.proofs.OffsetLemmas.{unfit, unrising, takes_records}
use Rattle.cw_open.proofs.offsets.take_records.Goals as goal

pub returns-then-not-may_have_records : goal.returns-then-not-may_have_records
returns-then-not-may_have_records c =
    unfit c.args.entries.now c.args.passed.now c.args.tag.now c.args.records.now c.may_have_records.result c.may_have_records.ensures c.if-not-may_have_records.true c.args.passed.now

pub returns-then-not-branch : goal.returns-then-not-branch
returns-then-not-branch c =
    unrising c.args.entries.now c.args.passed.now c.args.tag.now c.args.records.now c.in_ok-take_all.field-0 _ c.in_ok-take_all.ensures c.if-not-branch.true _

pub returns : goal.returns
returns c =
    takes_records c.args.entries.now c.args.passed.now c.args.tag.now c.args.records.now c.may_have_records.result c.in_ok-take_all.field-0 c.may_have_records.ensures c.if-not-may_have_records.false
    _ c.in_ok-take_all.ensures c.if-not-branch.false _ refl c.in_ok-add.ensures refl
