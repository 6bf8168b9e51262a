use Rattle.std.proofs.Common.{◌↔◌, List, true, IsTrue, sym, subst}
use Rattle.cw_types.specs.declared.ids.Span.{Span}
use Rattle.cw_txn.specs.declared.entry.Entry.{Entry}
use Rattle.cw_txn.specs.declared.entry.Entry.TheVariants.{Commit}
use Rattle.cw_open.specs.SafeEntries.{StandsBehind}
use Rattle.cw_open.proofs.SafeLemmas.{bump_stands, set_stands}
use Rattle.cw_open.proofs.safety.stands.Goals as goal

pub returns-in-Bump : goal.returns-in-Bump
returns-in-Bump c = λ records log known.
    subst (λ (e : Entry). IsTrue true ↔ StandsBehind records log c.args.place e) (sym c.in-Bump.is) (bump_stands records log c.args.place c.in-Bump.field-0)

pub returns-in_ok-stands-in-Commit : goal.returns-in_ok-stands-in-Commit
returns-in_ok-stands-in-Commit c = λ records log known.
    subst (λ (e : Entry). IsTrue c.in_ok-stands-in-Commit.stands ↔ StandsBehind records log c.args.place e) (sym c.in-Commit.is)
    (subst (λ (l : List Span). IsTrue c.in_ok-stands-in-Commit.stands ↔ StandsBehind records log c.args.place (Commit c.in-Commit.tag c.in-Commit.generation l)) c.as_slice.ensures
    (c.in_ok-stands-in-Commit.ensures records log known))

pub returns-in-Set : goal.returns-in-Set
returns-in-Set c = λ records log known.
    subst (λ (e : Entry). IsTrue true ↔ StandsBehind records log c.args.place e) (sym c.in-Set.is) (set_stands records log c.args.place c.in-Set.tid c.in-Set.epoch c.in-Set.list)
