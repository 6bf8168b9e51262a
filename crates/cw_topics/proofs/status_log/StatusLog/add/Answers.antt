use Rattle.std.proofs.Common.{◌++◌, ◌∷◌, [], List, sym, ap, subst, ◌∙◌}
use Rattle.cw_model.specs.State.{StampedStatus}
use Rattle.cw_status.specs.Records.{Records}
use Rattle.cw_topics.specs.Statuses.{IsStatusList}
use Rattle.cw_topics.proofs.StatusLists.{list-added}
use Rattle.cw_topics.proofs.status_log.StatusLog.add.Goals as goal

pub invariant_of-self : goal.invariant_of-self
invariant_of-self c =
    subst (λ (r : Records). IsStatusList c.self.inside.records.items r.applied c.self.inside.next c.self.inside.count) (sym c.in_err-add_status.ensures.err) c.self.invariant

pub invariant_of-self-2 : goal.invariant_of-self-2
invariant_of-self-2 c =
    let inside = c.self.inside in
    let r : StampedStatus = record { stamp = c.stamped.inside.stamp; status = c.stamped.inside.status } in
    let more = list-added inside.records.items inside.state.applied c.add_status.new.state.applied inside.next c.above-next.result inside.count
    c.saturating_add-self-inside.result r c.self.invariant (ap (λ (s : Records). s.applied) c.in_ok-add_status.ensures.ok) c.above-next.ensures c.saturating_add-self-inside.ensures in
    subst (λ (l : List StampedStatus). IsStatusList l c.add_status.new.state.applied c.above-next.result c.saturating_add-self-inside.result)
    (ap (λ (s : StampedStatus). inside.records.items ++ s ∷ []) c.stamped.view_is ∙ sym c.and-records.ensures) more
