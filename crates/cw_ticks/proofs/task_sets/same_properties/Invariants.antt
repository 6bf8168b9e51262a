use Rattle.std.proofs.Common.{◌≡◌, drop, length}
use Rattle.cw_model.specs.Proposals.{same_properties}
use Rattle.cw_ticks.proofs.task_sets.same_properties.Given as goal

abbrev pub invariant-loop-at : goal.invariant-loop-at
invariant-loop-at l = same_properties (drop l.at l.props) (drop l.at l.others) ≡ same_properties l.props l.others
