-- The spans of which a data log has a batch. Internal.
use Rattle.std.specs.Prelude.{◌≡◌, ◌==◌, ◌&&◌, Bool, List, is_some}
use Rattle.std.specs.List.{list_any}
use Rattle.std.specs.BTreeMap.{get}
use Rattle.std.specs.declared.cmp.Ordering.{Ordering}
use Rattle.cw_data.specs.declared.entry.Batch.{Batch}
use Rattle.cw_data.specs.declared.entry.DataEntry.{DataEntry}
use Rattle.cw_model.specs.Committed.{batches_of, is_batch_of}
use Rattle.cw_open.specs.declared.spans.SpanKey.{SpanKey}
use Rattle.cw_open.specs.declared.spans.BatchSpans.{BatchSpans}
use Rattle.cw_open.specs.contracts.spans.SpanKeyOrd.TheImpl as span_ord

-- the order of spans in a table
abbrev pub span_order : SpanKey → SpanKey → Ordering
span_order = span_ord.cmp-value.it

-- whether a batch has this transaction, part, begin and end
abbrev pub is_batch_at : SpanKey → Batch → Bool
is_batch_at key batch = is_batch_of key.tag key.part batch && ((key.from == batch.from) && (key.to == batch.to))

-- the spans that a data log's batches have
pub record AreBatchSpans (spans : BatchSpans) (log : List DataEntry) : Type 0 where
  pub rows : (key : SpanKey) → is_some (get span_order spans.rows key) ≡ list_any (is_batch_at key) (batches_of log)
