use Rattle.std.proofs.Common.{◌≡◌, cond, take, Some}
use Rattle.std.specs.List.{list_any}
use Rattle.std.specs.BTreeMap.{get}
use Rattle.cw_types.specs.declared.ids.PartKey.{PartKey}
use Rattle.cw_types.specs.Same.{part_order, same_part}
use Rattle.cw_txn.specs.declared.entry.SetOffset.{SetOffset}
use Rattle.cw_compact.proofs.outcomes.put_sets.Given as goal

abbrev pub invariant-loop-set : goal.invariant-loop-set
invariant-loop-set l = (q : PartKey) → get part_order l.changes q ≡ cond (list_any (λ (set : SetOffset). same_part q set.part) (take l.set-index l.list)) (Some l.place) (get part_order l.initial.changes q)
