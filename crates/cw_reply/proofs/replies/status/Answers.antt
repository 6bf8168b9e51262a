use Rattle.cw_reply.proofs.Whole.{connector_status_told}
use Rattle.cw_reply.proofs.replies.status.Goals as goal
use Rattle.cw_reply.specs.View.{seen_in}

pub replied-requires : goal.replied-requires
replied-requires c = connector_status_told _ c.args.name.now c.in-Some.status.now (seen_in c.args.seen.now) c.in_ok-status.ensures
