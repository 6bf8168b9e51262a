-- The bytes of a body of the offset log: 1, a transaction and its records, or 2 and a mark. The format is this
-- project's own.
use Rattle.std.specs.Prelude.{ℕ, List, ◌∷◌, ◌++◌}
use Rattle.std.specs.Bool.{⊤}
use Rattle.cw_bytes.specs.Spelling.{tag_bytes, mark_bytes, records_bytes, IsTag, IsMark, AreRecords}
use Rattle.cw_offset.specs.declared.body.OffsetEntry.{OffsetEntry}
use Rattle.cw_offset.specs.declared.body.OffsetEntry.TheVariants.{Records, Mark}

abbrev pub entry_bytes : OffsetEntry → List ℕ
entry_bytes (Records tag records) = 1 ∷ (tag_bytes tag ++ records_bytes records)
entry_bytes (Mark mark) = 2 ∷ mark_bytes mark

-- what has bytes
abbrev pub IsEntry : OffsetEntry → Type 0
IsEntry (Records tag records) = IsTag tag × AreRecords records
IsEntry (Mark mark) = IsMark mark

-- an entry whose records can be written
abbrev pub HasRecords : OffsetEntry → Type 0
HasRecords (Records tag records) = AreRecords records
HasRecords (Mark mark) = ⊤
