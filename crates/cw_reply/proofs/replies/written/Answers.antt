use Rattle.cw_reply.proofs.Whole.{info_told}
use Rattle.cw_reply.proofs.replies.written.Goals as goal

pub replied-requires : goal.replied-requires
replied-requires c = info_told _ _ _ _ c.in_ok-info.ensures
