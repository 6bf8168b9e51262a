use Rattle.std.proofs.Common.{◌≡◌, take}
use Rattle.std.specs.List.{fold}
use Rattle.cw_types.specs.declared.ids.PartKey.{PartKey}
use Rattle.cw_txn.specs.History.{after_span}
use Rattle.cw_txn.specs.Tables.{history_at}
use Rattle.cw_txn.specs.Walk.{IsSpanTest}
use Rattle.cw_txn.proofs.parts.put_ends.Given as goal

abbrev pub invariant-loop-span : goal.invariant-loop-span
invariant-loop-span l =
    ((part : PartKey) → history_at l.parts part ≡ fold (after_span part) (history_at l.initial.parts part) (take l.span-index l.spans))
    × IsSpanTest l.initial.parts (take l.span-index l.spans) l.chains
