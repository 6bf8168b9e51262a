use Rattle.cw_data.specs.declared.entry.DataEntry.TheVariants.{Mark}
use Rattle.cw_topics.proofs.Taking.{added-entry}
use Rattle.cw_topics.proofs.opened.take_mark.Goals as goal

pub returns : goal.returns
returns c = added-entry (Mark c.args.tag.now c.args.committed) c.args.data.now c.mark.new.self c.requires c.in_ok-mark.ensures.ok
