use Rattle.std.proofs.Common.{sym}
use Rattle.cw_open.proofs.OwnerLemmas.{task_by}
use Rattle.cw_open.proofs.waiting.take_task.Goals as goal

pub returns-in_ok-taken-in-Some : goal.returns-in_ok-taken-in-Some
returns-in_ok-taken-in-Some c =
    task_by c.args.passed.now c.args.id.now c.args.owners.now c.take_props.new.owners c.in-Some.props.now (sym c.in-Some.ensures) c.in_ok-taken-in-Some.taken c.in_ok-taken-in-Some.ensures
