use Rattle.std.proofs.Common.{◌≡◌, drop, ◌++◌, length}
use Rattle.cw_assign.specs.Plan.{shares_of}
use Rattle.cw_assign.proofs.planning.shares_of.Given as goal

abbrev pub invariant-loop-at : goal.invariant-loop-at
invariant-loop-at l = record {
  connectors : length l.connectors.items ≡ length l.members;
  tasks : length l.tasks.items ≡ length l.members;
  shares : l.shares.items ++ shares_of (drop l.at l.members) (drop l.at l.connectors.items) (drop l.at l.tasks.items)
      ≡ shares_of l.members l.initial.connectors.items l.initial.tasks.items;
}
