use Rattle.cw_offset.specs.declared.call.OffsetCall.TheVariants.{Put}
use Rattle.cw_topics.proofs.Told.{first-done}
use Rattle.cw_topics.proofs.offset_log.tell_put.Goals as goal

pub returns : goal.returns
returns c = first-done (Put c.args.tag.now c.args.part.now c.args.to) c.args.state.now c.put.new.self c.requires c.in-Ok.ensures.ok
