use Rattle.std.proofs.Common.{sym, subst, ◌∙◌}
use Rattle.std.specs.Result.{IfOk}
use Rattle.cw_model.specs.TickRules.{Rule}
use Rattle.cw_model.specs.Tick.{first_rule}
use Rattle.cw_ticks.specs.Stages.{group_rules, leading_on}
use Rattle.cw_ticks.specs.Turns.{IsOfRule}
use Rattle.cw_ticks.proofs.Chosen.{chosen, left}
use Rattle.cw_ticks.proofs.turns.turn_in_group.Goals as goal

pub returns-in-Some : goal.returns-in-Some
returns-in-Some c =
    let s = c.args.cluster.now.state in
    let w = c.args.w in
    chosen (group_rules w s) (leading_on w s) w s c.in_ok-turn.field-0 c.in_ok-turn.ensures c.in-Some.turn c.in-Some.is

pub returns-in-None : goal.returns-in-None
returns-in-None c =
    let s = c.args.cluster.now.state in
    let w = c.args.w in
    subst (λ (r : Rule). IfOk c.turn_as_leader.result (λ t. IsOfRule t r w s))
    (sym (left (group_rules w s) (leading_on w s) w s c.in_ok-turn.field-0 c.in_ok-turn.ensures c.in-None.is)) c.turn_as_leader.ensures
