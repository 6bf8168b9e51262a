use Rattle.std.proofs.Common.{◌≡◌, drop}
use Rattle.cw_model.specs.TickRules.{same_items}
use Rattle.cw_ticks.proofs.rounds.same_items.Given as goal

abbrev pub invariant-loop-at : goal.invariant-loop-at
invariant-loop-at l = same_items (drop l.at l.items) (drop l.at l.others) ≡ same_items l.items l.others
