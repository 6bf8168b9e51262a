use Rattle.std.proofs.Common.{map, ap, ◌∙◌}
use Rattle.serde_json.proofs.Views.{view-Array}
use Rattle.cw_rest.specs.Pages as page
use Rattle.cw_reply.specs.View.{seen_in}
use Rattle.cw_reply.proofs.page.tasks_value.Goals as goal

pub returns : goal.returns
returns c =
    view-Array c.in_ok-task_values.field-0
    ∙ ap page.list_of (c.in_ok-task_values.ensures
    ∙ ap (map (page.task_data (seen_in c.args.seen.now).configs)) (c.deref.ensures.value ∙ c.in_ok-tasks.ensures ∙ ap (page.tasks_of c.args.connector.now) c.task_count.ensures))
