use Rattle.std.proofs.Common.{◌≡◌}
use Rattle.cw_rows.specs.Crew.{with_ends, ends_below}
use Rattle.cw_rows.proofs.crew.Crew.end_item_below.Given as goal

abbrev pub invariant-loop-w : goal.invariant-loop-w
invariant-loop-w l = l.self ≡ with_ends (ends_below l.initial.self.rows l.item l.w) l.initial.self
