use Rattle.std.proofs.Common.{◌≡◌}
use Rattle.cw_config.specs.View.{deferred_of}
use Rattle.cw_types.specs.Task.{task_id}
use Rattle.cw_ticks.proofs.TaskSets.{from_on}
use Rattle.cw_ticks.proofs.task_sets.has_deferred.Given as goal

abbrev pub invariant-loop-index : goal.invariant-loop-index
invariant-loop-index l =
    from_on (λ index. deferred_of (task_id l.name index) l.read) l.proposal l.index ≡
    from_on (λ index. deferred_of (task_id l.name index) l.read) l.proposal 0
