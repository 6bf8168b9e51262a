use Rattle.std.proofs.Common.{◌↔◌, List, IsTrue, sym, subst}
use Rattle.cw_types.specs.declared.ids.PartKey.{PartKey}
use Rattle.cw_types.specs.declared.ids.Span.{Span}
use Rattle.cw_txn.specs.declared.entry.Entry.{Entry}
use Rattle.cw_txn.specs.Legal.{ChainsBehind}
use Rattle.cw_txn.specs.Allowed.{IsAllowedBehind}
use Rattle.cw_txn.specs.Transactions.{AreNext}
use Rattle.cw_open.proofs.SafeLemmas.{commit_chains}
use Rattle.cw_open.proofs.safety.chains.Goals as goal

pub returns-in-Commit : goal.returns-in-Commit
returns-in-Commit c =
    subst (λ (e : Entry). IsTrue c.are_next.result ↔ ((part : PartKey) → ChainsBehind part c.args.passed.now.entries e)) (sym c.in-Commit.is)
    (commit_chains c.args.passed.now.entries c.in-Commit.tag c.in-Commit.generation c.in-Commit.spans
    (subst (IsAllowedBehind c.args.passed.now.entries) c.in-Commit.is c.requires) c.are_next.result
    (subst (λ (l : List Span). IsTrue c.are_next.result ↔ AreNext c.args.passed.now.entries l) c.as_slice.ensures c.are_next.ensures))
