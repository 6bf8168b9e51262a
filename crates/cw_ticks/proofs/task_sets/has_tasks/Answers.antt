use Rattle.std.proofs.Common.{sym, ◌∙◌}
use Rattle.cw_config.specs.View.{task_of, task_count_of}
use Rattle.cw_types.specs.Task.{task_id}
use Rattle.cw_ticks.proofs.TaskSets.{other-counts}
use Rattle.cw_ticks.proofs.task_sets.has_tasks.Goals as goal

pub returns-then-count-proposal : goal.returns-then-count-proposal
returns-then-count-proposal c =
    let name = c.args.name.now in
    let read = c.args.read.now in
    sym (other-counts (λ index. task_of (task_id name index) read) (task_count_of name read) c.args.proposal.now
    (λ same. c.if-count-proposal.true (c.task_count-count.ensures ∙ same)))
