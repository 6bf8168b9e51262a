use Rattle.std.proofs.Common.{subst}
use Rattle.cw_txn.specs.declared.entry.Entry.{Entry}
use Rattle.cw_txn.specs.Legal.{ChainsBehind}
use Rattle.cw_topics.proofs.entries.put_entry.Goals as goal

pub put_commit-requires-clause-chains : goal.put_commit-requires-clause-chains
put_commit-requires-clause-chains c part =
    rw (c.as_slice.ensures) (subst (λ (e : Entry). ChainsBehind part c.args.coordinator.now.entries e) c.in-Commit.is (c.requires.chains part))
