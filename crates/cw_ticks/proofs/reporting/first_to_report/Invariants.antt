use Rattle.std.proofs.Common.{◌≡◌, drop}
use Rattle.std.specs.List.{find}
use Rattle.cw_model.specs.Lookups.{instance_of}
use Rattle.cw_ticks.specs.Running.{to_report}
use Rattle.cw_ticks.proofs.reporting.first_to_report.Given as goal

abbrev pub invariant-loop-number : goal.invariant-loop-number
invariant-loop-number l =
    find (λ n. to_report l.read (instance_of n l.cluster.state)) (drop l.number-index l.numbers) ≡
    find (λ n. to_report l.read (instance_of n l.cluster.state)) l.numbers
