use Rattle.std.proofs.Common.{All, take}
use Rattle.cw_types.specs.declared.ids.Span.{Span}
use Rattle.cw_txn.specs.History.{history, GoesOn}
use Rattle.cw_txn.proofs.coordinator.Coordinator.all_go_on.Given as goal

abbrev pub invariant-loop-span : goal.invariant-loop-span
invariant-loop-span l = All (λ (span : Span). GoesOn (history span.part l.self.entries) span) (take l.span-index l.spans)
