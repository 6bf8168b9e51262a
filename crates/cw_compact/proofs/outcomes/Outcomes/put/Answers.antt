use Rattle.std.proofs.Common.{◌++◌, ◌∷◌, ◌&&◌, [], cond, List, Some, ap, sym, subst, ◌∙◌, refl}
use Rattle.std.specs.List.{list_any}
use Rattle.std.specs.BTreeMap.{get}
use Rattle.cw_types.specs.declared.ids.Span.{Span}
use Rattle.cw_types.specs.Same.{part_order, same_part}
use Rattle.cw_txn.specs.declared.entry.Entry.{Entry}
use Rattle.cw_txn.specs.declared.entry.SetOffset.{SetOffset}
use Rattle.cw_compact.specs.declared.outcomes.Outcomes.{Outcomes}
use Rattle.cw_compact.specs.Stored.{marked_at, stores_at}
use Rattle.cw_compact.specs.Outcomes.{AreTables}
use Rattle.cw_compact.proofs.Entered.{bumped, set_entered, commit_entered}
use Rattle.cw_compact.proofs.outcomes.Outcomes.put.Goals as goal

pub returns-in_ok-raise-in-Bump-clause-tables : goal.returns-in_ok-raise-in-Bump-clause-tables
returns-in_ok-raise-in-Bump-clause-tables c = λ log entries stored before.
    let now : Outcomes = record c.args.self.now { epochs = c.raise.new.epochs } in
    subst (λ (e : Entry). AreTables now log (entries ++ e ∷ [])) (sym c.in-Bump.is)
    (bumped c.args.self.now now log entries before c.in-Bump.tid c.in_ok-raise-in-Bump.ensures refl refl)

pub returns-in_ok-put_spans-in-Commit-clause-tables : goal.returns-in_ok-put_spans-in-Commit-clause-tables
returns-in_ok-put_spans-in-Commit-clause-tables c = λ log entries stored before.
    let now : Outcomes = record c.args.self.now { commits = c.put_first.new.commits; changes = c.put_spans.new.changes } in
    subst (λ (e : Entry). AreTables now log (entries ++ e ∷ [])) (sym c.in-Commit.is)
    (commit_entered c.args.self.now now log entries before c.args.stored.now.rows stored c.in-Commit.tag c.in-Commit.generation c.in-Commit.spans refl
    c.in_ok-put_first-in-Commit.ensures
    (λ q. c.in_ok-put_spans-in-Commit.ensures q
    ∙ ap (λ (l : List Span). cond (list_any (λ (span : Span). same_part q span.part) l && (marked_at c.args.stored.now.rows c.in-Commit.tag && stores_at c.args.stored.now.rows c.in-Commit.tag q)) (Some c.args.self.now.count) (get part_order c.args.self.now.changes q)) c.as_slice.ensures))

pub returns-in_ok-put_sets-in-Set-clause-tables : goal.returns-in_ok-put_sets-in-Set-clause-tables
returns-in_ok-put_sets-in-Set-clause-tables c = λ log entries stored before.
    let now : Outcomes = record c.args.self.now { changes = c.put_sets.new.changes } in
    subst (λ (e : Entry). AreTables now log (entries ++ e ∷ [])) (sym c.in-Set.is)
    (set_entered c.args.self.now now log entries before c.in-Set.tid c.in-Set.epoch c.in-Set.list refl refl
    (λ q. c.in_ok-put_sets-in-Set.ensures q
    ∙ ap (λ (l : List SetOffset). cond (list_any (λ (set : SetOffset). same_part q set.part) l) (Some c.args.self.now.count) (get part_order c.args.self.now.changes q)) c.as_slice-in-Set.ensures))
