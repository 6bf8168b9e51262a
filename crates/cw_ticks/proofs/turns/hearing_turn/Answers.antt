use Rattle.std.proofs.Common.{sym, subst, ◌∙◌}
use Rattle.std.specs.Result.{IfOk}
use Rattle.cw_model.specs.TickRules.{Rule}
use Rattle.cw_model.specs.Tick.{first_rule, rules, rule_for}
use Rattle.cw_ticks.specs.Stages.{group_on, reading_rules}
use Rattle.cw_ticks.specs.Turns.{IsOfRule}
use Rattle.cw_ticks.proofs.Stages.{hears}
use Rattle.cw_ticks.proofs.Chosen.{chosen, left, of_same}
use Rattle.cw_ticks.proofs.turns.hearing_turn.Goals as goal

pub returns-in-Some : goal.returns-in-Some
returns-in-Some c =
    let s = c.args.cluster.now.state in
    let w = c.args.w in
    of_same c.in-Some.turn (first_rule (rules w s)) (rule_for w s) w s (sym (hears w s c.requires.hears))
    (chosen (reading_rules w s) (group_on w s) w s c.in_ok-turn.field-0 c.in_ok-turn.ensures c.in-Some.turn c.in-Some.is)

pub returns-in-None : goal.returns-in-None
returns-in-None c =
    let s = c.args.cluster.now.state in
    let w = c.args.w in
    subst (λ (r : Rule). IfOk c.turn_in_group.result (λ t. IsOfRule t r w s))
    (sym (hears w s c.requires.hears ∙ left (reading_rules w s) (group_on w s) w s c.in_ok-turn.field-0 c.in_ok-turn.ensures c.in-None.is))
    c.turn_in_group.ensures
