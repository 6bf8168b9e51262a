use Rattle.std.proofs.Common.{ap, ◌∙◌}
use Rattle.cw_group.specs.Circle.{CircleState, is_due}
use Rattle.cw_group.proofs.CircleLemmas.{plan-stored}
use Rattle.cw_group.proofs.circle.Circle.store_plan.Goals as goal

pub returns : goal.returns
returns c = plan-stored c.args.w c.args.configured.now c.args.self.now c.store.new.self c.free_if.new.self c.is_due-due.result c.in_ok-plan.plan
    (c.is_due-due.ensures ∙ ap (λ (s : CircleState). is_due s.moment s.delay) c.self.view_is) c.in_ok-plan.ensures.plan c.in_ok-store.ensures.row
    c.in_ok-store.ensures.rest c.free_if.ensures
