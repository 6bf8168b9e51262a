use Rattle.std.proofs.Common.{sym, ◌∙◌}
use Rattle.cw_sinktask.proofs.Turns.{sink-turn-within}
use Rattle.cw_sinktask.proofs.gathering.gather_of.Goals as goal

pub delivery_at-requires-clause-within : goal.delivery_at-requires-clause-within
delivery_at-requires-clause-within c = sink-turn-within c.args.own.now c.args.log.now.entries c.in-Some.turn (sym c.sink_turn.ensures ∙ c.in-Some.is)
