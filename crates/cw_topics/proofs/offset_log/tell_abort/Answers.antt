use Rattle.cw_offset.specs.declared.call.OffsetCall.TheVariants.{Abort}
use Rattle.cw_topics.proofs.Told.{first-done}
use Rattle.cw_topics.proofs.offset_log.tell_abort.Goals as goal

pub returns : goal.returns
returns c = first-done (Abort c.args.tag.now) c.args.state.now c.abort.new.self c.requires c.in-Ok.ensures.ok
