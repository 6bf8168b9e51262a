use Rattle.std.proofs.Common.{◌≡◌, map, take}
use Rattle.cw_run.specs.Answers.{pair_of}
use Rattle.cw_cluster.proofs.events.list_of.Given as goal

abbrev pub invariant-loop-pair : goal.invariant-loop-pair
invariant-loop-pair l = l.list.items ≡ map pair_of (take l.pair-index l.pairs)
