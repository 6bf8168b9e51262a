use Rattle.std.proofs.Common.{◌≡◌, true, None, length}
use Rattle.std.specs.List.{AllByRecursion}
use Rattle.cw_turns.specs.Going.{Start, GoesOn}
use Rattle.cw_turns.proofs.beginning.begin.Given as goal

-- so many workers have come, and all of them live
abbrev pub invariant-loop-w : goal.invariant-loop-w
invariant-loop-w g l = record {
  goes_on : (start : Start) → GoesOn g.D.Disk start l.fn.world → GoesOn g.D.Disk start l.world;
  journal : l.world.state.journal ≡ l.fn.world.state.journal;
  alive : l.world.state.closed ≡ None;
  setting : l.world.setting ≡ l.fn.world.setting;
  name : l.world.name ≡ l.fn.world.name;
  count : length l.world.state.rows ≡ l.w;
  live : AllByRecursion (λ row. row.live ≡ true) l.world.state.rows;
}
