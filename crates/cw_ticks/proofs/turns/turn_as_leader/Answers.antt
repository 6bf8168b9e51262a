use Rattle.std.proofs.Common.{sym, subst, ◌∙◌}
use Rattle.std.specs.Result.{IfOk}
use Rattle.cw_model.specs.TickRules.{Rule}
use Rattle.cw_model.specs.Tick.{first_rule}
use Rattle.cw_ticks.specs.Stages.{leading_rules, running_rules}
use Rattle.cw_ticks.specs.Turns.{IsOfRule}
use Rattle.cw_ticks.proofs.Chosen.{chosen, left}
use Rattle.cw_ticks.proofs.turns.turn_as_leader.Goals as goal

pub returns-in-Some : goal.returns-in-Some
returns-in-Some c =
    let s = c.args.cluster.now.state in
    let w = c.args.w in
    chosen (leading_rules w s) (running_rules w s) w s c.in_ok-turn.field-0 c.in_ok-turn.ensures c.in-Some.turn c.in-Some.is

pub returns-in-None : goal.returns-in-None
returns-in-None c =
    let s = c.args.cluster.now.state in
    let w = c.args.w in
    subst (λ (r : Rule). IfOk c.turn_with_items.result (λ t. IsOfRule t r w s))
    (sym (left (leading_rules w s) (running_rules w s) w s c.in_ok-turn.field-0 c.in_ok-turn.ensures c.in-None.is)) c.turn_with_items.ensures
