use Rattle.cw_reply.specs.View.{seen_in}
use Rattle.cw_reply.proofs.Whole.{tasks_told}
use Rattle.cw_reply.proofs.replies.tasks.Goals as goal

pub replied-requires : goal.replied-requires
replied-requires c = tasks_told _ c.args.name.now (seen_in c.args.seen.now) c.in_ok-tasks.ensures
