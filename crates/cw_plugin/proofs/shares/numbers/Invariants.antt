use Rattle.std.proofs.Common.{◌≡◌, decimal, map}
use Rattle.std.specs.List.{range_with_len}
use Rattle.cw_plugin.proofs.shares.numbers.Given as goal

abbrev pub invariant-loop-number : goal.invariant-loop-number
invariant-loop-number l = l.texts.items ≡ map decimal (range_with_len 0 l.number-counter)
