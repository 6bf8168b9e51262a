use Rattle.cw_txn.specs.declared.entry.Entry.TheVariants.{Bump}
use Rattle.cw_topics.proofs.Putting.{readied-put}
use Rattle.cw_topics.proofs.entries.put_bump.Goals as goal

pub returns : goal.returns
returns c = readied-put (Bump c.args.tid.now) c.args.coordinator.now c.bump.new.self c.requires c.in-Ok.ensures.ok
