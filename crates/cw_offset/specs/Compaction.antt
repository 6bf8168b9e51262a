-- Compaction of the offset log. Which of its records go is this project's own: those of aborted transactions, and
-- those of committed ones whose part is set or replaced behind their commit. A marker stays where a record of its
-- transaction does.
use Rattle.std.specs.Prelude.{Bool, true, false, ◌||◌, ◌&&◌, ◌==◌, not, List, length, map}
use Rattle.std.specs.Option.{option_map_or}
use Rattle.std.specs.List.{filter, list_any, after_first}
use Rattle.cw_types.specs.declared.ids.Tag.{Tag}
use Rattle.cw_types.specs.declared.ids.PartKey.{PartKey}
use Rattle.cw_types.specs.declared.verdict.Verdict.{Verdict}
use Rattle.cw_types.specs.declared.verdict.Verdict.TheVariants.{Committed, Aborted, Open}
use Rattle.cw_types.specs.Same.{same_tag, same_part}
use Rattle.cw_bytes.specs.declared.applied.Applied.{Applied}
use Rattle.cw_keys.specs.Parts.{part_of}
use Rattle.cw_txn.specs.declared.entry.Entry.{Entry}
use Rattle.cw_txn.specs.declared.entry.Entry.TheVariants.{Bump, Commit, Set}
use Rattle.cw_txn.specs.Legal.{is_commit_of, verdict_of}
use Rattle.cw_offset.specs.declared.body.OffsetEntry.{OffsetEntry}
use Rattle.cw_offset.specs.declared.body.OffsetEntry.TheVariants.{Records, Mark}
use Rattle.cw_offset.specs.Log.{offset_records, has_records, is_marked}

-- whether a record's key is that of a part
abbrev pub is_record_of : PartKey → Applied → Bool
is_record_of part r = option_map_or (same_part part) (part_of r.key) false

-- whether an entry of the offset log has a record of a transaction and a part
abbrev pub stores : Tag → PartKey → OffsetEntry → Bool
stores tag part (Records other records) = same_tag tag other && list_any (is_record_of part) records
stores tag part (Mark mark) = false

-- whether an entry of the transaction list sets the offset of a part
abbrev pub sets_part : PartKey → Entry → Bool
sets_part part (Bump tid) = false
sets_part part (Commit tag generation spans) = false
sets_part part (Set tid epoch list) = list_any (λ set. same_part part set.part) list

-- whether it replaces the offset of a part: it commits the part under a transaction that has a record of it and a
-- marker in the log
abbrev pub replaces_part : List OffsetEntry → PartKey → Entry → Bool
replaces_part log part (Bump tid) = false
replaces_part log part (Commit tag generation spans) =
    list_any (λ span. same_part part span.part) spans && is_marked tag log && list_any (stores tag part) log
replaces_part log part (Set tid epoch list) = false

-- whether a part is set or replaced behind the commit of a transaction
abbrev pub is_outdated : List Entry → List OffsetEntry → Tag → PartKey → Bool
is_outdated entries log tag part =
    list_any (λ entry. sets_part part entry || replaces_part log part entry) (after_first (is_commit_of tag) entries)

-- whether a transaction is aborted
abbrev pub is_aborted : Verdict → Bool
is_aborted Committed = false
is_aborted Aborted = true
is_aborted Open = false

-- whether a record goes: its transaction is aborted, or it is committed and the record's part set or replaced behind
-- that
abbrev pub offset_goes : List Entry → List OffsetEntry → Tag → Applied → Bool
offset_goes entries log tag r =
    is_aborted (verdict_of entries tag) || option_map_or (is_outdated entries log tag) (part_of r.key) false

-- an entry of the offset log with the records that stay
abbrev pub records_staying : List Entry → List OffsetEntry → OffsetEntry → OffsetEntry
records_staying entries log (Records tag records) =
    Records tag (filter (λ r. not (offset_goes entries log tag r)) records)
records_staying entries log (Mark mark) = Mark mark

-- whether an entry has records
abbrev pub is_filled : OffsetEntry → Bool
is_filled entry = not (length (offset_records entry) == 0)

-- whether an entry of the offset log stays: it has records, or marks a transaction that has some
abbrev pub offset_stays : List OffsetEntry → OffsetEntry → Bool
offset_stays log (Records tag records) = not (length records == 0)
offset_stays log (Mark mark) = has_records mark.tag (filter is_filled log)

-- the offset log as a compaction leaves it
abbrev pub compact_offsets : List Entry → List OffsetEntry → List OffsetEntry
compact_offsets entries log =
    let kept = map (records_staying entries log) log in
    filter (offset_stays kept) kept
