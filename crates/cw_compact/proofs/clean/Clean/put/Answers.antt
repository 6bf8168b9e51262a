use Rattle.std.proofs.Common.{◌≡◌, List, ℕ, Some, cond, ap, subst, ◌∙◌}
use Rattle.std.specs.BTreeMap.{is_at}
use Rattle.std.specs.BTreeSet.{contains}
use Rattle.cw_types.specs.Order.{name_cmp}
use Rattle.cw_compact.specs.declared.clean.TaskSet.{TaskSet}
use Rattle.cw_compact.specs.Lasts.{higher}
use Rattle.cw_compact.specs.Clean.{waits, Sets, set_at}
use Rattle.cw_compact.proofs.Sets.{pair, task_put, commit_put}
use Rattle.cw_compact.proofs.clean.Clean.put.Goals as goal

pub returns-in_ok-set-in-Task-clause-sets : goal.returns-in_ok-set-in-Task-clause-sets
returns-in_ok-set-in-Task-clause-sets c = λ records before.
    let name : List ℕ = c.in-Task.id.connector in
    let offset : ℕ = c.args.written.now.offset in
    let was : TaskSet = set_at c.args.self.now.sets name in
    let e : pair c.set_of-was.result.commit c.higher.result ≡ pair was.commit (higher was.task offset) =
    ap (λ (s : TaskSet). pair s.commit c.higher.result) c.set_of-was.ensures
    ∙ ap (pair was.commit) (c.higher.ensures ∙ ap (λ (s : TaskSet). higher s.task offset) c.set_of-was.ensures) in
    task_put c.args.self.now.sets c.set.new.self.sets c.args.self.now.waiting c.set.new.self.waiting records c.args.written.now before c.in-Task.id c.in-Task.is
    (subst (λ (s : TaskSet). Sets name s c.args.self.now.sets c.set.new.self.sets) e c.in_ok-set-in-Task.ensures.sets)
    (subst (λ (s : TaskSet). (q : List ℕ) → contains name_cmp c.set.new.self.waiting q ≡ cond (is_at (name_cmp name) q) (waits s) (contains name_cmp c.args.self.now.waiting q)) e c.in_ok-set-in-Task.ensures.waiting)

pub returns-in_ok-set-in-Commit-clause-sets : goal.returns-in_ok-set-in-Commit-clause-sets
returns-in_ok-set-in-Commit-clause-sets c = λ records before.
    let name : List ℕ = c.in-Commit.name in
    let offset : ℕ = c.args.written.now.offset in
    let e : pair (Some offset) c.set_of.result.task ≡ pair (Some offset) (set_at c.args.self.now.sets name).task =
    ap (λ (s : TaskSet). pair (Some offset) s.task) c.set_of.ensures in
    commit_put c.args.self.now.sets c.set-in-Commit.new.self.sets c.args.self.now.waiting c.set-in-Commit.new.self.waiting records c.args.written.now before name c.in-Commit.is
    (subst (λ (s : TaskSet). Sets name s c.args.self.now.sets c.set-in-Commit.new.self.sets) e c.in_ok-set-in-Commit.ensures.sets)
    (subst (λ (s : TaskSet). (q : List ℕ) → contains name_cmp c.set-in-Commit.new.self.waiting q ≡ cond (is_at (name_cmp name) q) (waits s) (contains name_cmp c.args.self.now.waiting q)) e c.in_ok-set-in-Commit.ensures.waiting)
