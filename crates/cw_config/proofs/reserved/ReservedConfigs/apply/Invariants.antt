use Rattle.std.proofs.Common.{◌≡◌, ◌++◌, length}
use Rattle.std.specs.Vec.Iter.{into_iter_items, into_iter_len}
use Rattle.cw_config.proofs.Applying.{Applying}
use Rattle.cw_config.proofs.reserved.ReservedConfigs.apply.Given as goal

-- what is left of the frame may still be applied
abbrev pub invariant-loop-added : goal.invariant-loop-added
invariant-loop-added l =
    (goal.iterator-loop-added).can_next l.added-iterator ×
    (goal.iterator-loop-added).is_finite l.added-iterator ×
    (into_iter_len l.added-iterator ≡ length (into_iter_items l.added-iterator)) ×
    Applying l.tables l.records.items (into_iter_items l.added-iterator) (l.fn.self.records ++ l.fn.self.frame)
