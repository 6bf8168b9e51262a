use Rattle.std.proofs.Common.{◌≡◌, map, take}
use Rattle.std.specs.List.{filter}
use Rattle.cw_model.specs.Lookups.{instance_of}
use Rattle.cw_ticks.specs.Running.{to_stop}
use Rattle.cw_ticks.proofs.stopping.items_to_stop.Given as goal

abbrev pub invariant-loop-number : goal.invariant-loop-number
invariant-loop-number l = l.items.items ≡ map (λ n. (instance_of n l.cluster.state).item)
    (filter (λ n. to_stop l.all l.w l.cluster.state (instance_of n l.cluster.state)) (take l.number-index l.numbers))
