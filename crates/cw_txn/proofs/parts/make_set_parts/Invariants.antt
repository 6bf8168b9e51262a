use Rattle.std.proofs.Common.{◌≡◌, take, All}
use Rattle.cw_types.specs.declared.ids.PartKey.{PartKey}
use Rattle.cw_txn.specs.declared.entry.SetOffset.{SetOffset}
use Rattle.cw_txn.specs.Tables.{history_at, HasPart}
use Rattle.cw_txn.proofs.parts.make_set_parts.Given as goal

abbrev pub invariant-loop-set : goal.invariant-loop-set
invariant-loop-set l =
    ((q : PartKey) → history_at l.parts q ≡ history_at l.initial.parts q)
    × ((q : PartKey) → HasPart l.initial.parts q → HasPart l.parts q)
    × All (λ (set : SetOffset). HasPart l.parts set.part) (take l.set-index l.list)
