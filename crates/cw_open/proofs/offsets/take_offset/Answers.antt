use Rattle.cw_offset.specs.Acceptance.{IsAllowedOffset}
use Rattle.cw_open.proofs.Steps.{step_not, step_taken}
use Rattle.cw_open.proofs.offsets.take_offset.Goals as goal

pub returns-then-not-branch : goal.returns-then-not-branch
returns-then-not-branch c = step_not IsAllowedOffset c.args.passed.now c.args.passed.now c.args.applied.now c.in_ok-is_allowed.field-0 c.in_ok-is_allowed.ensures c.if-not-branch.true

pub returns : goal.returns
returns c = step_taken IsAllowedOffset c.args.passed.now c.add.new.self c.args.applied.now c.in_ok-is_allowed.field-0 c.in_ok-is_allowed.ensures c.if-not-branch.false c.add.ensures

pub add-requires : goal.add-requires
add-requires c = (c.in_ok-is_allowed.ensures.0 c.if-not-branch.false).above
