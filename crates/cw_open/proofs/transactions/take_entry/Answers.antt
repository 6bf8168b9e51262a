use Rattle.cw_txn.specs.Allowed.{IsAllowedBehind}
use Rattle.cw_open.proofs.Steps.{step_not, step_taken}
use Rattle.cw_open.proofs.transactions.take_entry.Goals as goal

pub returns-then-not-branch : goal.returns-then-not-branch
returns-then-not-branch c = step_not IsAllowedBehind c.args.passed.now c.args.passed.now c.args.entry.now c.in_ok-is_allowed.field-0 c.in_ok-is_allowed.ensures c.if-not-branch.true

pub returns : goal.returns
returns c = step_taken IsAllowedBehind c.args.passed.now c.put.new.self c.args.entry.now c.in_ok-is_allowed.field-0 c.in_ok-is_allowed.ensures c.if-not-branch.false c.in_ok-put.ensures
