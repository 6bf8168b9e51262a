use Rattle.std.proofs.Common.{sym, ◌∙◌}
use Rattle.cw_ticks.specs.Polled.{has_records}
use Rattle.cw_ticks.proofs.Lists.{find-hits, find-skips}
use Rattle.cw_ticks.proofs.sink_polls.sink_turn_between.Goals as goal

pub returns-then-has_records : goal.returns-then-has_records
returns-then-has_records c =
    sym (find-hits (has_records c.args.instance.now c.args.log.now.entries) c.loop-turn.turn c.args.to c.loop-turn-test.true
    (sym c.has_records.ensures ∙ c.if-has_records.true)) ∙ c.loop-turn.invariant

pub loop-turn-preserved : goal.loop-turn-preserved
loop-turn-preserved c =
    sym (find-skips (has_records c.args.instance.now c.args.log.now.entries) c.loop-turn.turn c.args.to c.loop-turn-test.true
    (sym c.has_records.ensures ∙ c.if-has_records.false)) ∙ c.loop-turn.invariant
