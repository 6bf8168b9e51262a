use Rattle.std.proofs.Common.{sym, subst}
use Rattle.cw_txn.specs.declared.entry.EntryRef.{EntryRef}
use Rattle.cw_txn.specs.Tables.{HasRows, entry_of}
use Rattle.cw_txn.proofs.tables.Tables.make_rows.Goals as goal

pub returns-in_ok-make_span_parts-in-Commit-clause-there : goal.returns-in_ok-make_span_parts-in-Commit-clause-there
returns-in_ok-make_span_parts-in-Commit-clause-there c =
    subst (λ (e : EntryRef). HasRows (record { epochs = c.args.self.now.epochs; committed = c.make_tag.new.committed; parts = c.make_span_parts.new.parts }) (entry_of e)) (sym c.in-Commit.is)
    (c.in_ok-make_tag-in-Commit.ensures.there, c.in_ok-make_span_parts-in-Commit.ensures.there)

pub returns-in_ok-make_set_parts-in-Set-clause-there : goal.returns-in_ok-make_set_parts-in-Set-clause-there
returns-in_ok-make_set_parts-in-Set-clause-there c =
    subst (λ (e : EntryRef). HasRows (record { epochs = c.args.self.now.epochs; committed = c.args.self.now.committed; parts = c.make_set_parts.new.parts }) (entry_of e)) (sym c.in-Set.is)
    c.in_ok-make_set_parts-in-Set.ensures.there
