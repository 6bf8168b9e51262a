use Rattle.cw_txn.specs.declared.entry.Entry.TheVariants.{Commit}
use Rattle.cw_topics.proofs.Putting.{next-spans}
use Rattle.cw_topics.proofs.Taking.{taken-entry}
use Rattle.cw_topics.proofs.opened.take_commit.Goals as goal

pub commit-requires-clause-next : goal.commit-requires-clause-next
commit-requires-clause-next c =
    next-spans c.args.coordinator.now.entries c.args.tag.now c.args.generation c.args.spans.now c.requires.allowed c.requires.chains

pub returns-in-Ok : goal.returns-in-Ok
returns-in-Ok c = taken-entry (Commit c.args.tag.now c.args.generation c.args.spans.now) c.args.coordinator.now c.commit.new.self c.requires.free c.in-Ok.ensures.ok
