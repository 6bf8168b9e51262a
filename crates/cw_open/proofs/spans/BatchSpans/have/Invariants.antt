use Rattle.std.proofs.Common.{List, take}
use Rattle.std.specs.List.{Any, AllByRecursion}
use Rattle.cw_types.specs.declared.ids.Span.{Span}
use Rattle.cw_data.specs.declared.entry.DataEntry.{DataEntry}
use Rattle.cw_model.specs.Committed.{batches_of}
use Rattle.cw_model.specs.StandsFor.{IsBatchFor}
use Rattle.cw_open.specs.Backing.{AreBatchSpans}
use Rattle.cw_open.proofs.spans.BatchSpans.have.Given as goal

abbrev pub invariant-loop-at : goal.invariant-loop-at
invariant-loop-at l = (log : List DataEntry) → AreBatchSpans l.self log → AllByRecursion (λ (span : Span). Any (IsBatchFor l.tag span) (batches_of log)) (take l.at l.spans)
