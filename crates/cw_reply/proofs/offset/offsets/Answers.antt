use Rattle.cw_reply.specs.View.{seen_in}
use Rattle.cw_reply.proofs.Whole.{offsets_told}
use Rattle.cw_reply.proofs.offset.offsets.Goals as goal

pub replied-requires : goal.replied-requires
replied-requires c = offsets_told _ c.args.name.now (seen_in c.args.seen.now) c.in_ok-offsets.ensures
