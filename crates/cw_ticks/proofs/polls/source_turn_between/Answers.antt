use Rattle.std.proofs.Common.{sym, ap, ◌∙◌}
use Rattle.cw_model.specs.Polls.{is_something, cut_at}
use Rattle.cw_ticks.proofs.Lists.{find-skips}
use Rattle.cw_ticks.proofs.polls.source_turn_between.Goals as goal

pub loop-turn-preserved : goal.loop-turn-preserved
loop-turn-preserved c =
    sym (find-skips (λ turn. is_something (cut_at c.args.feeds.now c.args.instance.now turn)) c.loop-turn.turn c.args.to c.loop-turn-test.true
    (ap is_something (sym c.cut_at.ensures) ∙ sym c.is_something.ensures ∙ c.if-is_something.false)) ∙ c.loop-turn.invariant
