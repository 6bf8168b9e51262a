use Rattle.cw_txn.specs.declared.entry.Entry.TheVariants.{Set}
use Rattle.cw_topics.proofs.Taking.{taken-entry}
use Rattle.cw_topics.proofs.opened.take_set.Goals as goal

pub returns-in-Ok : goal.returns-in-Ok
returns-in-Ok c = taken-entry (Set c.args.tid.now c.args.epoch c.args.list.now) c.args.coordinator.now c.set.new.self c.requires.free c.in-Ok.ensures.ok
