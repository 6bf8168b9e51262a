use Rattle.cw_offset.specs.declared.call.OffsetCall.TheVariants.{Set}
use Rattle.cw_topics.proofs.Told.{first-done}
use Rattle.cw_topics.proofs.offset_log.tell_set.Goals as goal

pub returns : goal.returns
returns c = first-done (Set c.args.part.now c.args.to) c.args.state.now c.set.new.self c.requires c.in-Ok.ensures.ok
