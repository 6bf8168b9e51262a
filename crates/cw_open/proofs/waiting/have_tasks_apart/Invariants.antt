use Rattle.std.proofs.Common.{◌≡◌}
use Rattle.cw_open.proofs.OwnerLemmas.{WalkedTasks}
use Rattle.cw_open.proofs.waiting.have_tasks_apart.Given as goal

abbrev pub invariant-loop-index : goal.invariant-loop-index
invariant-loop-index l = record {
  name : l.id.connector ≡ l.name;
  so_far : WalkedTasks l.passed l.name l.index l.owners;
}
