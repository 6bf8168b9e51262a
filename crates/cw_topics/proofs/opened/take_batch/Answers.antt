use Rattle.cw_data.specs.declared.entry.DataEntry.TheVariants.{Batch}
use Rattle.cw_topics.proofs.Taking.{added-entry}
use Rattle.cw_topics.proofs.opened.take_batch.Goals as goal

pub returns : goal.returns
returns c = added-entry (Batch c.args.batch) c.args.data.now c.batch.new.self c.requires.free c.in_ok-batch.ensures.ok
