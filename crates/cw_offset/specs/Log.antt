-- The offset log as the list of its frames: records of offsets under the transaction that stored them (KIP-618), and
-- markers of how transactions ended (KIP-98, control records).
use Rattle.std.specs.Prelude.{◌++◌, Bool, List, [], ◌∷◌, map, Option, Some, None, if◌then◌else◌}
use Rattle.std.specs.List.{filter_map, flat_map, list_any}
use Rattle.cw_types.specs.declared.ids.Tag.{Tag}
use Rattle.cw_types.specs.declared.verdict.Verdict.{Verdict}
use Rattle.cw_types.specs.Same.{same_tag}
use Rattle.cw_bytes.specs.declared.applied.Applied.{Applied}
use Rattle.cw_offset.specs.declared.body.OffsetEntry.{OffsetEntry}
use Rattle.cw_offset.specs.declared.body.OffsetEntry.TheVariants.{Records, Mark}
use Rattle.cw_offset.specs.declared.call.OffsetCall.{OffsetCall}
use Rattle.cw_offset.specs.declared.call.OffsetCall.TheVariants.{Stand, Commit, Abort}
use Rattle.cw_offset.specs.Offsets as calls

-- the records of an entry
abbrev pub offset_records : OffsetEntry → List Applied
offset_records (Records tag records) = records
offset_records (Mark mark) = []

-- the transaction of its records
abbrev pub offset_tag : OffsetEntry → Option Tag
offset_tag (Records tag records) = Some tag
offset_tag (Mark mark) = None

-- the transaction that it marks
abbrev pub offset_mark : OffsetEntry → Option Tag
offset_mark (Records tag records) = None
offset_mark (Mark mark) = Some mark.tag

-- whether a transaction has records in the log
abbrev pub has_records : Tag → List OffsetEntry → Bool
has_records tag log = list_any (same_tag tag) (filter_map offset_tag log)

-- whether a transaction is marked in the log
abbrev pub is_marked : Tag → List OffsetEntry → Bool
is_marked tag log = list_any (same_tag tag) (filter_map offset_mark log)

-- the call of a marker
abbrev pub marks_in : OffsetEntry → List OffsetCall
marks_in (Records tag records) = []
marks_in (Mark mark) = (if mark.committed then Commit mark.tag else Abort mark.tag) ∷ []

-- the first transaction, by its place in the log as it stands, that has ended and waits for its marker: that of the
-- calls that tell which transactions stand there, in the log's order, and which of them are marked
abbrev pub first_unmarked : (Tag → Verdict) → List OffsetEntry → Option Tag
first_unmarked verdict log =
    calls.first_unmarked verdict (map Stand (filter_map offset_tag log) ++ flat_map marks_in log)
