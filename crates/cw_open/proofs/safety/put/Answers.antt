use Rattle.std.proofs.Common.{sym, subst}
use Rattle.cw_types.specs.declared.ids.PartKey.{PartKey}
use Rattle.cw_txn.specs.declared.entry.Entry.{Entry}
use Rattle.cw_txn.specs.Legal.{ChainsBehind}
use Rattle.cw_txn.specs.Allowed.{IsAllowedBehind, IsAllowedCommit}
use Rattle.cw_txn.specs.Transactions.{AreNext}
use Rattle.cw_open.proofs.SafeLemmas.{next_from}
use Rattle.cw_open.proofs.safety.put.Goals as goal

pub commit-requires : goal.commit-requires
commit-requires c =
    let allowed : IsAllowedCommit c.args.passed.now.entries c.in-Commit.tag c.in-Commit.generation c.in-Commit.spans =
    subst (IsAllowedBehind c.args.passed.now.entries) c.in-Commit.is c.requires.allowed in
    record {
      new = allowed.legal.1;
      next = subst (AreNext c.args.passed.now.entries) (sym c.as_slice.ensures)
          (next_from c.args.passed.now.entries c.in-Commit.tag c.in-Commit.generation c.in-Commit.spans allowed
          (subst (λ (e : Entry). (part : PartKey) → ChainsBehind part c.args.passed.now.entries e) c.in-Commit.is c.requires.chains));
    }
