use Rattle.std.proofs.Common.{◌∙◌, ap, sym, subst, List}
use mathlib.Core.Path.{fun_ext}
use Rattle.cw_assign.specs.declared.items.Kind.TheVariants.{Connectors, Tasks}
use Rattle.cw_assign.specs.declared.share.Share.{Share}
use Rattle.cw_assign.specs.declared.share.Plan.{Plan}
use Rattle.cw_assign.specs.Items.{has}
use Rattle.cw_assign.specs.Valid.{IsValid}
use Rattle.cw_assign.proofs.Validity.{plan_is_valid}
use Rattle.cw_assign.proofs.PlanLemmas.{length-hands, plan-is}
use Rattle.cw_assign.proofs.planning.plan.Goals as goal

pub shares_of-requires-clause-connectors : goal.shares_of-requires-clause-connectors
shares_of-requires-clause-connectors c =
    length-hands Connectors c.args.members.now c.args.configured.now (has c.in_ok-of.field-0) (has c.in_ok-held_by.field-0) (has c.in_ok-of-2.field-0) c.args.running c.in_ok-connectors.connectors.items c.in_ok-connectors.ensures

pub shares_of-requires-clause-tasks : goal.shares_of-requires-clause-tasks
shares_of-requires-clause-tasks c =
    length-hands Tasks c.args.members.now c.args.configured.now (has c.in_ok-of.field-0) (has c.in_ok-held_by.field-0) (has c.in_ok-of-2.field-0) c.args.running c.in_ok-tasks.tasks.items c.in_ok-tasks.ensures

is-plan : goal.returns-clause-planned
is-plan c =
    ap (λ (shares : List Share). record { shares = shares }) c.new.ensures
    ∙ plan-is c.args.members.now c.args.configured.now c.args.lost.now c.args.running (has c.in_ok-of.field-0) (has c.in_ok-held_by.field-0) (has c.in_ok-of-2.field-0)
    c.in_ok-connectors.connectors.items c.in_ok-tasks.tasks.items c.in_ok-shares.shares.items
    (fun_ext c.in_ok-of.ensures.has) (fun_ext c.in_ok-held_by.ensures) (fun_ext c.in_ok-of-2.ensures.has) c.in_ok-connectors.ensures c.in_ok-tasks.ensures c.in_ok-shares.ensures

pub returns-clause-planned : goal.returns-clause-planned
returns-clause-planned c = is-plan c

pub returns-clause-valid : goal.returns-clause-valid
returns-clause-valid c rising =
    subst (λ (plan : Plan). IsValid c.args.members.now c.args.configured.now c.args.lost.now c.args.running plan) (sym (is-plan c))
    (plan_is_valid c.args.members.now c.args.configured.now c.args.lost.now c.args.running c.requires rising)
