use Rattle.std.proofs.Common.{◌≡◌, take}
use Rattle.std.specs.List.{fold}
use Rattle.cw_types.specs.declared.ids.PartKey.{PartKey}
use Rattle.cw_txn.specs.History.{after_offset}
use Rattle.cw_txn.specs.Tables.{history_at, HasPart}
use Rattle.cw_txn.proofs.parts.set_histories.Given as goal

abbrev pub invariant-loop-set : goal.invariant-loop-set
invariant-loop-set l =
    ((part : PartKey) → history_at l.parts part ≡ fold (after_offset part) (history_at l.initial.parts part) (take l.set-index l.list))
    × ((q : PartKey) → HasPart l.initial.parts q → HasPart l.parts q)
