use Rattle.std.proofs.Common.{◌≡◌, drop, ◌++◌}
use Rattle.cw_topics.proofs.configs.copies_from.Given as goal

abbrev pub invariant-loop-at : goal.invariant-loop-at
invariant-loop-at l = l.copies.items ++ drop l.at l.records ≡ drop l.from l.records
