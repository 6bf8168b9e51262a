use Rattle.std.proofs.Common.{◌++◌, ◌∷◌, [], List, sym, ap, subst, ◌∙◌}
use Rattle.cw_model.specs.State.{StampedStatus}
use Rattle.cw_topics.specs.Statuses.{StatusList, IsStatusList, next_in}
use Rattle.cw_topics.proofs.StatusLists.{list-more}
use Rattle.cw_topics.proofs.status_log.StatusLog.put.Goals as goal

pub invariant_of-self : goal.invariant_of-self
invariant_of-self c =
    let inside = c.self.inside in
    let r : StampedStatus = record { stamp = c.stamped.inside.stamp; status = c.stamped.inside.status } in
    let more = list-more inside.records.items inside.state.applied c.apply_reserved.new.state.applied inside.next c.checked_add-self-inside.result inside.count
    c.saturating_add-self-inside.result r c.self.invariant
    (ap (λ (s : StampedStatus). s.status.offset) c.stamped.view_is ∙ c.requires.next ∙ ap (λ (l : StatusList). next_in l.list) (sym c.self.view_is))
    c.apply_reserved.ensures c.checked_add-self-inside.ensures c.saturating_add-self-inside.ensures in
    subst (λ (l : List StampedStatus). IsStatusList l c.apply_reserved.new.state.applied c.checked_add-self-inside.result c.saturating_add-self-inside.result)
    (ap (λ (s : StampedStatus). inside.records.items ++ s ∷ []) c.stamped.view_is ∙ sym c.and-self-inside.ensures) more
