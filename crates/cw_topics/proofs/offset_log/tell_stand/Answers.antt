use Rattle.cw_offset.specs.declared.call.OffsetCall.TheVariants.{Stand}
use Rattle.cw_topics.proofs.Told.{first-done}
use Rattle.cw_topics.proofs.offset_log.tell_stand.Goals as goal

pub returns : goal.returns
returns c = first-done (Stand c.args.tag.now) c.args.state.now c.stand.new.self c.requires c.in-Ok.ensures.ok
