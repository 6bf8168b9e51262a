use Rattle.cw_txn.specs.declared.entry.Entry.TheVariants.{Set}
use Rattle.cw_topics.proofs.Putting.{readied-put}
use Rattle.cw_topics.proofs.entries.put_set.Goals as goal

pub returns : goal.returns
returns c = readied-put (Set c.args.tid.now c.args.epoch c.args.list.now) c.args.coordinator.now c.set.new.self c.requires.ready c.in-Ok.ensures.ok
