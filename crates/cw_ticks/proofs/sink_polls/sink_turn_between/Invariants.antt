use Rattle.std.proofs.Common.{◌≡◌, ◌-◌}
use Rattle.std.specs.List.{find, range_with_len}
use Rattle.cw_ticks.specs.Polled.{has_records}
use Rattle.cw_ticks.proofs.sink_polls.sink_turn_between.Given as goal

abbrev pub invariant-loop-turn : goal.invariant-loop-turn
invariant-loop-turn l =
    find (has_records l.instance l.log.entries) (range_with_len l.turn (l.to - l.turn)) ≡
    find (has_records l.instance l.log.entries) (range_with_len l.from (l.to - l.from))
