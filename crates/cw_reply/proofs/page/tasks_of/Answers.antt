use Rattle.std.proofs.Common.{◌++◌, ◌∷◌, [], ℕ, List, ap, sym, ◌∙◌}
use Rattle.cw_types.specs.declared.ids.TaskId.{TaskId}
use Rattle.cw_reply.proofs.Tasks.{tasks_more}
use Rattle.cw_reply.proofs.page.tasks_of.Goals as goal

pub loop-index-preserved : goal.loop-index-preserved
loop-index-preserved c =
    let task : List ℕ → TaskId = λ name. record { connector = name; index = c.loop-index.index } in
    c.in_ok-push.ensures.items
    ∙ ap (λ (name : List ℕ). c.loop-index.tasks.items ++ task name ∷ []) c.in_ok-connector.ensures
    ∙ ap (λ (items : List TaskId). items ++ task c.args.connector.now ∷ []) c.loop-index.invariant
    ∙ sym (tasks_more c.args.connector.now c.loop-index.index)
