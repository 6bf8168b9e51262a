use Rattle.std.proofs.Common.{◌≡◌, take, All}
use Rattle.cw_types.specs.declared.ids.PartKey.{PartKey}
use Rattle.cw_types.specs.declared.ids.Span.{Span}
use Rattle.cw_txn.specs.Tables.{history_at, HasPart}
use Rattle.cw_txn.proofs.parts.make_span_parts.Given as goal

abbrev pub invariant-loop-span : goal.invariant-loop-span
invariant-loop-span l =
    ((q : PartKey) → history_at l.parts q ≡ history_at l.initial.parts q)
    × ((q : PartKey) → HasPart l.initial.parts q → HasPart l.parts q)
    × All (λ (span : Span). HasPart l.parts span.part) (take l.span-index l.spans)
