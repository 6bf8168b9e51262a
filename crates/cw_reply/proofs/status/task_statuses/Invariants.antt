use Rattle.std.proofs.Common.{◌≡◌, ◌++◌, map, drop}
use Rattle.std.specs.List.{filter_map}
use Rattle.serde_json.specs.View.{view}
use Rattle.cw_rest.specs.Pages as page
use Rattle.cw_reply.specs.View.{seen_in}
use Rattle.cw_reply.proofs.status.task_statuses.Given as goal

abbrev pub invariant-loop-id : goal.invariant-loop-id
invariant-loop-id l = map view l.values.items ++ filter_map (page.status_of_task (seen_in l.seen)) (drop l.id-index l.tasks) ≡ filter_map (page.status_of_task (seen_in l.seen)) l.tasks
