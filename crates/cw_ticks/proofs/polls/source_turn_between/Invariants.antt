use Rattle.std.proofs.Common.{◌≡◌, ◌-◌}
use Rattle.std.specs.List.{find, range_with_len}
use Rattle.cw_model.specs.Polls.{is_something, cut_at}
use Rattle.cw_ticks.proofs.polls.source_turn_between.Given as goal

abbrev pub invariant-loop-turn : goal.invariant-loop-turn
invariant-loop-turn l =
    find (λ turn. is_something (cut_at l.feeds l.instance turn)) (range_with_len l.turn (l.to - l.turn)) ≡
    find (λ turn. is_something (cut_at l.feeds l.instance turn)) (range_with_len l.from (l.to - l.from))
