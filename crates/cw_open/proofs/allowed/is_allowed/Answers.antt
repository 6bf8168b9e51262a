use Rattle.std.proofs.Common.{IsTrue, ◌↔◌, List, sym, subst}
use Rattle.cw_types.specs.declared.ids.Span.{Span}
use Rattle.cw_txn.specs.declared.entry.Entry.{Entry}
use Rattle.cw_txn.specs.Allowed.{IsAllowedBehind, IsAllowedCommit}
use Rattle.cw_open.proofs.allowed.is_allowed.Goals as goal

pub returns-in-Commit : goal.returns-in-Commit
returns-in-Commit c =
    subst (λ (e : Entry). IsTrue c.is_allowed_commit.result ↔ IsAllowedBehind c.args.before.now e) (sym c.in-Commit.is)
    (subst (λ (l : List Span). IsTrue c.is_allowed_commit.result ↔ IsAllowedCommit c.args.before.now c.in-Commit.tag c.in-Commit.generation l) c.as_slice.ensures
    (c.is_allowed_commit.ensures c.in-Commit.generation))
