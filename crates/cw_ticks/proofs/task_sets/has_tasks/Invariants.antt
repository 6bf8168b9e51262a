use Rattle.std.proofs.Common.{◌≡◌}
use Rattle.cw_config.specs.View.{task_of}
use Rattle.cw_types.specs.Task.{task_id}
use Rattle.cw_ticks.proofs.TaskSets.{from_on}
use Rattle.cw_ticks.proofs.task_sets.has_tasks.Given as goal

abbrev pub invariant-loop-index : goal.invariant-loop-index
invariant-loop-index l =
    from_on (λ index. task_of (task_id l.name index) l.read) l.proposal l.index ≡
    from_on (λ index. task_of (task_id l.name index) l.read) l.proposal 0
