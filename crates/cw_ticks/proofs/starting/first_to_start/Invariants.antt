use Rattle.std.proofs.Common.{◌≡◌, drop}
use Rattle.std.specs.List.{find}
use Rattle.cw_ticks.specs.Running.{may_start_beside}
use Rattle.cw_ticks.proofs.starting.first_to_start.Given as goal

abbrev pub invariant-loop-item : goal.invariant-loop-item
invariant-loop-item l =
    find (may_start_beside l.read l.held) (drop l.item-index l.items) ≡ find (may_start_beside l.read l.held) l.items
