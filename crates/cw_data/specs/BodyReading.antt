-- Reading a body of the data log from left to right.
use Rattle.std.specs.Prelude.{ℕ, List, ◌==◌, Ok, Err, if◌then◌else◌}
use Rattle.std.specs.Int.{w32}
use Rattle.cw_types.specs.declared.ids.Tag.{Tag}
use Rattle.cw_types.specs.declared.ids.Span.{Span}
use Rattle.cw_bytes.specs.declared.fault.FieldFault.TheVariants.{BadKind}
use Rattle.cw_bytes.specs.Unread.{Unread}
use Rattle.cw_bytes.specs.Reading.{◌>>=◌, Read, byte_at, number_at, text_at, name_at, tag_at, span_at, mark_at, many_at}
use Rattle.cw_data.specs.declared.entry.DataEntry.{DataEntry}
use Rattle.cw_data.specs.declared.entry.DataEntry.TheVariants.{Batch as InBatch, Mark}

-- values behind their number
unfoldable pub values_at : Unread → Read (List (List ℕ))
values_at from = do
  n ← number_at w32 from
  many_at text_at n.0 n.1

unfoldable pub spanned_at : Unread → Read (Span × List (List ℕ))
spanned_at from = do
  span ← span_at from
  values ← values_at span.1
  Ok ((span.0, values.0), values.1)

unfoldable pub named_at : Unread → Read (List ℕ × (Span × List (List ℕ)))
named_at from = do
  topic ← name_at from
  rest ← spanned_at topic.1
  Ok ((topic.0, rest.0), rest.1)

-- a batch of a transaction, a topic, a span and values
abbrev pub batch_of : Tag → List ℕ × (Span × List (List ℕ)) → DataEntry
batch_of tag rest = InBatch (record {
  tag = tag;
  topic = rest.0;
  part = rest.1.0.part;
  from = rest.1.0.from;
  to =
      rest.1.0.to;
  values = rest.1.1;
})

unfoldable pub stored_at : Unread → Read DataEntry
stored_at from = do
  tag ← tag_at from
  rest ← named_at tag.1
  Ok (batch_of tag.0 rest.0, rest.1)

unfoldable pub marked_at : Unread → Read DataEntry
marked_at from = do
  mark ← mark_at from
  Ok (Mark mark.0.tag mark.0.committed, mark.1)

unfoldable pub entry_at : Unread → Read DataEntry
entry_at from = do
  kind ← byte_at from
  if kind.0 == 1 then stored_at kind.1 else if kind.0 == 2 then marked_at kind.1 else Err (BadKind kind.0)
