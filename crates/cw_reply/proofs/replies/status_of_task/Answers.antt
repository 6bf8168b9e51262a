use Rattle.cw_reply.proofs.Whole.{task_status_told}
use Rattle.cw_reply.proofs.replies.status_of_task.Goals as goal

pub replied-requires : goal.replied-requires
replied-requires c = task_status_told _ c.args.id.now.index c.in-Some.status.now c.in_ok-status.ensures
