use Rattle.std.proofs.Common.{◌∙◌, ◌++◌, ◌∷◌, [], sym, subst}
use Rattle.cw_txn.specs.declared.entry.EntryRef.{EntryRef}
use Rattle.cw_txn.specs.Tables.{HasRows, Keeps, entry_of}
use Rattle.cw_txn.proofs.Kept.{keeps_bump, keeps_commit}
use Rattle.cw_txn.proofs.MovedRows.{raised_there, tag_set}
use Rattle.cw_txn.proofs.tables.Tables.add.Goals as goal

pub move_ends-requires : goal.move_ends-requires
move_ends-requires c = (subst (λ (e : EntryRef). HasRows c.args.self.now (entry_of e)) c.in-Commit.is c.requires.rows).1

pub set_histories-requires : goal.set_histories-requires
set_histories-requires c = subst (λ (e : EntryRef). HasRows c.args.self.now (entry_of e)) c.in-Set.is c.requires.rows

pub returns-in-Bump-clause-kept : goal.returns-in-Bump-clause-kept
returns-in-Bump-clause-kept c entries kept =
    let row = subst (λ (e : EntryRef). HasRows c.args.self.now (entry_of e)) c.in-Bump.is c.requires.rows in
    subst (λ (e : EntryRef). Keeps (record { epochs = c.raise_row.new.epochs; committed = c.args.self.now.committed; parts = c.args.self.now.parts }) (entries ++ entry_of e ∷ [])) (sym c.in-Bump.is)
    (keeps_bump c.args.self.now entries kept c.raise_row.new.epochs c.in-Bump.tid.now
    (raised_there c.args.self.now.epochs c.raise_row.new.epochs c.in-Bump.tid.now c.raise_row.result c.raise_row.ensures.there c.raise_row.ensures.raised (c.raise_row.ensures.there ∙ row)))

pub returns-in-Commit-clause-kept : goal.returns-in-Commit-clause-kept
returns-in-Commit-clause-kept c entries kept =
    subst (λ (e : EntryRef). Keeps (record { epochs = c.args.self.now.epochs; committed = c.set_row.new.table; parts = c.move_ends.new.parts }) (entries ++ entry_of e ∷ [])) (sym c.in-Commit.is)
    (keeps_commit c.args.self.now entries kept c.set_row.new.table c.move_ends.new.parts c.in-Commit.tag.now c.in-Commit.generation c.in-Commit.spans.now
    (tag_set c.args.self.now.committed c.set_row.new.table c.in-Commit.tag.now c.set_row.ensures)
    c.move_ends.ensures.moved)

pub set_row-requires : goal.set_row-requires
set_row-requires c = (subst (λ (e : EntryRef). HasRows c.args.self.now (entry_of e)) c.in-Commit.is c.requires.rows).0
