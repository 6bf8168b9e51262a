use Rattle.std.proofs.Common.{◌≡◌, List, ℕ, subst, arith}
use Rattle.cw_open.specs.WaitingTasks.{TakesTask}
use Rattle.cw_open.proofs.OwnerLemmas.{id_of, tasks_more, tasks_not, tasks_ready}
use Rattle.cw_open.proofs.waiting.have_tasks_apart.Goals as goal

pub returns-then-not-branch : goal.returns-then-not-branch
returns-then-not-branch c =
    tasks_not c.args.passed.now c.requires c.args.name.now c.loop-index.index c.loop-index.owners c.loop-index.invariant.so_far c.args.count c.loop-index-test.true
    c.take_task.new.owners c.in_ok-take_task.field-0
    (subst (λ (n : List ℕ). TakesTask c.args.passed.now (id_of n c.loop-index.index) c.loop-index.owners c.take_task.new.owners c.in_ok-take_task.field-0) c.loop-index.invariant.name c.in_ok-take_task.ensures)
    c.if-not-branch.true

pub loop-index-preserved : goal.loop-index-preserved
loop-index-preserved c = record {
  name = c.loop-index.invariant.name;
  so_far = tasks_more c.args.passed.now c.requires c.args.name.now c.loop-index.index c.loop-index.owners c.loop-index.invariant.so_far
      c.take_task.new.owners c.in_ok-take_task.field-0
      (subst (λ (n : List ℕ). TakesTask c.args.passed.now (id_of n c.loop-index.index) c.loop-index.owners c.take_task.new.owners c.in_ok-take_task.field-0) c.loop-index.invariant.name c.in_ok-take_task.ensures)
      c.if-not-branch.false;
}

pub returns : goal.returns
returns c =
    let all : c.loop-index.index ≡ c.args.count = omega arith in
    tasks_ready c.args.passed.now c.requires c.args.name.now c.loop-index.index c.loop-index.owners c.loop-index.invariant.so_far c.args.count all
