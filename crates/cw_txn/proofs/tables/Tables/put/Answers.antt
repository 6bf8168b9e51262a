use Rattle.std.proofs.Common.{◌∙◌, List, ◌++◌, ◌∷◌, [], true, cond, sym, subst, ap}
use Rattle.std.specs.List.{fold}
use Rattle.cw_types.specs.declared.ids.Span.{Span}
use Rattle.cw_types.specs.declared.ids.Tag.{Tag}
use Rattle.cw_txn.specs.declared.entry.Entry.{Entry}
use Rattle.cw_txn.specs.History.{after_span}
use Rattle.cw_types.specs.Same.{same_tag}
use Rattle.cw_txn.specs.Tables.{Keeps, committed_at, history_at}
use Rattle.cw_txn.specs.Walk.{IsChainTest, IsSpanTest}
use Rattle.cw_txn.proofs.Kept.{Keeps-same, keeps_commit}
use Rattle.cw_txn.proofs.MovedRows.{tag_set}
use Rattle.cw_txn.proofs.SpanTests.{chain_test}
use Rattle.cw_txn.proofs.tables.Tables.put.Goals as goal

pub returns-in_ok-chains-in-Commit-clause-kept : goal.returns-in_ok-chains-in-Commit-clause-kept
returns-in_ok-chains-in-Commit-clause-kept c entries kept =
    subst (λ (e : Entry). Keeps (record { epochs = c.args.self.now.epochs; committed = c.insert.new.self; parts = c.put_ends.new.parts }) (entries ++ e ∷ [])) (sym c.in-Commit.is)
    (keeps_commit c.args.self.now entries kept c.insert.new.self c.put_ends.new.parts c.in-Commit.tag c.in-Commit.generation c.in-Commit.spans
    (λ q. tag_set c.args.self.now.committed c.insert.new.self c.in_ok-copy-in-Commit.field-0 c.in_ok-insert-in-Commit.ensures.updates.0 q
    ∙ ap (λ (t : Tag). cond (same_tag q t) true (committed_at c.args.self.now.committed q)) c.in_ok-copy-in-Commit.ensures)
    (λ part. c.in_ok-chains-in-Commit.ensures.moved part ∙ ap (λ (l : List Span). fold (after_span part) (history_at c.args.self.now.parts part) l) c.as_slice.ensures))

pub returns-in_ok-chains-in-Commit-clause-chains : goal.returns-in_ok-chains-in-Commit-clause-chains
returns-in_ok-chains-in-Commit-clause-chains c entries kept =
    subst (λ (e : Entry). IsChainTest entries e c.in_ok-chains-in-Commit.chains) (sym c.in-Commit.is)
    (chain_test c.args.self.now entries kept c.in-Commit.tag c.in-Commit.generation c.in-Commit.spans c.in_ok-chains-in-Commit.chains
    (subst (λ (l : List Span). IsSpanTest c.args.self.now.parts l c.in_ok-chains-in-Commit.chains) c.as_slice.ensures c.in_ok-chains-in-Commit.ensures.chains))

pub returns-in_ok-make_rows-in-Set-clause-kept : goal.returns-in_ok-make_rows-in-Set-clause-kept
returns-in_ok-make_rows-in-Set-clause-kept c entries kept =
    subst (λ (e : Entry). Keeps c.add.new.self (entries ++ e ∷ [])) c.of-set.ensures (c.add.ensures.kept entries (Keeps-same c.args.self.now c.make_rows.new.self entries c.make_rows.ensures.same kept))
