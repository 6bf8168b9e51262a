use Rattle.std.proofs.Common.{◌≡◌, drop}
use Rattle.std.specs.List.{find}
use Rattle.cw_assign.specs.Items.{same_item}
use Rattle.cw_model.specs.Lookups.{instance_of}
use Rattle.cw_ticks.proofs.stopping.number_among.Given as goal

abbrev pub invariant-loop-number : goal.invariant-loop-number
invariant-loop-number l =
    find (λ n. same_item (instance_of n l.cluster.state).item l.item) (drop l.number-index l.numbers) ≡
    find (λ n. same_item (instance_of n l.cluster.state).item l.item) l.numbers
