use Rattle.std.proofs.Common.{◌≡◌, ◌++◌, drop, filter, not, bytes_eq}
use Rattle.std.specs.List.{list_any}
use Rattle.cw_plugin.specs.Tasks.{once}
use Rattle.cw_plugin.proofs.shares.once.Given as goal

abbrev pub invariant-loop-text : goal.invariant-loop-text
invariant-loop-text l = l.found.items ++ filter (λ x. not (list_any (λ y. bytes_eq y x) l.found.items)) (once (drop l.text-index l.texts)) ≡ once l.texts
