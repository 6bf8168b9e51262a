use Rattle.cw_txn.specs.declared.entry.Entry.TheVariants.{Bump}
use Rattle.cw_topics.proofs.Taking.{taken-entry}
use Rattle.cw_topics.proofs.opened.take_bump.Goals as goal

pub returns-in-Ok : goal.returns-in-Ok
returns-in-Ok c = taken-entry (Bump c.args.tid.now) c.args.coordinator.now c.bump.new.self c.requires c.in-Ok.ensures.ok
