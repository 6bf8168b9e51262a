use Rattle.cw_offset.specs.declared.call.OffsetCall.TheVariants.{Commit}
use Rattle.cw_topics.proofs.Told.{first-done}
use Rattle.cw_topics.proofs.offset_log.tell_commit.Goals as goal

pub returns : goal.returns
returns c = first-done (Commit c.args.tag.now) c.args.state.now c.commit.new.self c.requires c.in-Ok.ensures.ok
