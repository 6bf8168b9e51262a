use Rattle.std.proofs.Common.{subst}
use Rattle.cw_txn.specs.declared.entry.Entry.{Entry}
use Rattle.cw_txn.specs.Legal.{ChainsBehind}
use Rattle.cw_topics.proofs.opened.take_entry.Goals as goal

pub take_commit-requires-clause-chains : goal.take_commit-requires-clause-chains
take_commit-requires-clause-chains c part =
    rw (c.as_slice.ensures) (subst (λ (e : Entry). ChainsBehind part c.args.coordinator.now.entries e) c.in-Commit.is (c.requires.chains part))
