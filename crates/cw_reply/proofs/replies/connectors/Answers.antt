use Rattle.cw_reply.proofs.Whole.{names_told}
use Rattle.cw_reply.proofs.replies.connectors.Goals as goal
use Rattle.cw_reply.specs.View.{seen_in}

pub replied-requires : goal.replied-requires
replied-requires c = names_told _ (seen_in c.args.seen.now) c.in_ok-names.ensures
