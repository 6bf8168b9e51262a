use Rattle.cw_txn.specs.declared.entry.Entry.TheVariants.{Commit}
use Rattle.cw_topics.proofs.Putting.{next-spans, readied-put}
use Rattle.cw_topics.proofs.entries.put_commit.Goals as goal

pub commit-requires-clause-next : goal.commit-requires-clause-next
commit-requires-clause-next c =
    next-spans c.args.coordinator.now.entries c.args.tag.now c.args.generation c.args.spans.now c.requires.allowed c.requires.chains

pub returns : goal.returns
returns c = readied-put (Commit c.args.tag.now c.args.generation c.args.spans.now) c.args.coordinator.now c.commit.new.self c.requires.ready c.in-Ok.ensures.ok
