use Rattle.cw_reply.proofs.Whole.{config_told}
use Rattle.cw_reply.proofs.replies.config.Goals as goal

pub replied-requires : goal.replied-requires
replied-requires c = config_told _ _ c.in_ok-props.ensures
