-- The bytes of a body of the data log: 1 and a batch, or 2 and a mark. The format is this project's own.
use Rattle.std.specs.Prelude.{ℕ, ◌<◌, ◌^◌, List, ◌∷◌, ◌++◌, length}
use Rattle.std.specs.Bool.{⊤}
use Rattle.std.specs.List.{flat_map, AllByRecursion}
use Rattle.cw_types.specs.Name.{IsName}
use Rattle.cw_types.specs.declared.ids.Span.{Span}
use Rattle.cw_bytes.specs.Spelling.{word, text, tag_bytes, mark_bytes, span_bytes, IsText, IsTag, IsMark, IsSpan}
use Rattle.cw_data.specs.declared.entry.Batch.{Batch}
use Rattle.cw_data.specs.declared.entry.DataEntry.{DataEntry}
use Rattle.cw_data.specs.declared.entry.DataEntry.TheVariants.{Batch as InBatch, Mark}

-- what a batch adds to its part
abbrev pub span_of : Batch → Span
span_of batch = record { part = batch.part; from = batch.from; to = batch.to }

-- values behind their number
abbrev pub values_bytes : List (List ℕ) → List ℕ
values_bytes values = word (length values) ++ flat_map text values

abbrev pub entry_bytes : DataEntry → List ℕ
entry_bytes (InBatch batch) = 1 ∷ (tag_bytes batch.tag
    ++ (text batch.topic ++ (span_bytes (span_of batch) ++ values_bytes batch.values)))
entry_bytes (Mark tag committed) = 2 ∷ mark_bytes (record { tag = tag; committed = committed })

-- what has bytes: fewer than 2^32 values, each a text
abbrev pub AreValues : List (List ℕ) → Type 0
AreValues values = (length values < 2 ^ 32) × AllByRecursion IsText values

abbrev pub IsEntry : DataEntry → Type 0
IsEntry (InBatch batch) = IsTag batch.tag × IsName batch.topic × IsSpan (span_of batch) × AreValues batch.values
IsEntry (Mark tag committed) = IsMark (record { tag = tag; committed = committed })

-- an entry whose values are short enough to be written
abbrev pub IsShort : DataEntry → Type 0
IsShort (InBatch batch) = AreValues batch.values
IsShort (Mark tag committed) = ⊤
