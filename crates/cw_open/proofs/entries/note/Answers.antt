use Rattle.std.proofs.Common.{subst, sym}
use Rattle.cw_txn.specs.declared.entry.Entry.{Entry}
use Rattle.cw_open.specs.Entries.{Notes}
use Rattle.cw_open.proofs.EntryLemmas.{notes_bump, notes_commit}
use Rattle.cw_open.proofs.entries.note.Goals as goal

pub returns-in_ok-raise-in-Bump : goal.returns-in_ok-raise-in-Bump
returns-in_ok-raise-in-Bump c =
    subst (λ (e : Entry). Notes e c.args.epochs.now c.args.committed.now c.raise.new.epochs c.args.committed.now) (sym c.in-Bump.is)
    (notes_bump c.args.epochs.now c.raise.new.epochs c.in-Bump.tid c.in_ok-raise-in-Bump.ensures c.args.committed.now)
