-- The calls by which an opening replays the offset log: the transaction list is walked in order, since of a part the
-- commit that is later there counts (KIP-618), and what a user set counts from where it stands (KIP-875). That open
-- transactions' records come behind the list is this project's own.
use Rattle.std.specs.Prelude.{◌≡◌, ◌++◌, Bool, true, false, not, List, [], ◌∷◌, map, Option, Some, option_map}
use Rattle.std.specs.Prelude.{option_and_then, if◌then◌else◌}
use Rattle.std.specs.List.{filter_map, flat_map}
use Rattle.cw_types.specs.declared.ids.Tag.{Tag}
use Rattle.cw_types.specs.declared.ids.PartKey.{PartKey}
use Rattle.cw_types.specs.declared.verdict.Verdict.{Verdict}
use Rattle.cw_types.specs.Same.{same_tag}
use Rattle.cw_bytes.specs.declared.applied.Applied.{Applied}
use Rattle.cw_bytes.specs.Frames.{EachFrom}
use Rattle.cw_keys.specs.Parts.{part_of}
use Rattle.cw_keys.specs.Offsets.{offset_of}
use Rattle.cw_txn.specs.declared.entry.Entry.{Entry}
use Rattle.cw_txn.specs.declared.entry.Entry.TheVariants as entry
use Rattle.cw_txn.specs.Legal.{is_committed, verdict_of}
use Rattle.cw_offset.specs.declared.body.OffsetEntry.{OffsetEntry}
use Rattle.cw_offset.specs.declared.body.OffsetEntry.TheVariants.{Records, Mark}
use Rattle.cw_offset.specs.declared.call.OffsetCall.{OffsetCall}
use Rattle.cw_offset.specs.declared.call.OffsetCall.TheVariants.{Stand, Put, Set}
use Rattle.cw_offset.specs.Log.{offset_tag, is_marked, marks_in, first_unmarked}
use Rattle.cw_offset.specs.Offsets.{marker_of, is_commit, committed}
use Rattle.cw_offset.specs.Offsets as calls
use Rattle.cw_offset.specs.Compaction.{is_aborted}

-- the put of a record under a transaction, where its key is that of a part and its value an offset of it
abbrev pub put_in : Tag → Applied → Option OffsetCall
put_in tag r =
    option_and_then (λ part. option_map (Put tag part) (option_and_then (offset_of part) r.value)) (part_of r.key)

-- the puts of a transaction's records in an entry
abbrev pub puts_in : (Tag → Bool) → OffsetEntry → List OffsetCall
puts_in of (Records tag records) = if of tag then filter_map (put_in tag) records else []
puts_in of (Mark mark) = []

-- the puts of the transactions that pass a test, in the order of the log
abbrev pub puts_of : (Tag → Bool) → List OffsetEntry → List OffsetCall
puts_of of log = flat_map (puts_in of) log

-- the calls at an entry of the transaction list: at a commit its transaction's puts, at a set its sets
abbrev pub calls_at : List OffsetEntry → Entry → List OffsetCall
calls_at log (entry.Bump tid) = []
calls_at log (entry.Commit tag generation spans) = puts_of (same_tag tag) log
calls_at log (entry.Set tid epoch list) = map (λ set. Set set.part set.to) list

-- the calls of an opening: which transactions stand in the log, in its order, then the calls of the transaction list,
-- then the puts of transactions without a commit, and the markers
abbrev pub replayed : List Entry → List OffsetEntry → List OffsetCall
replayed entries log = map Stand (filter_map offset_tag log)
    ++ (flat_map (calls_at log) entries
    ++ (puts_of (λ tag. not (is_committed tag entries)) log ++ flat_map marks_in log))

-- the calls of a frame that is added later: its transaction stands in the log, and its records are put; or its mark
abbrev pub told_in : OffsetEntry → List OffsetCall
told_in (Records tag records) = Stand tag ∷ filter_map (put_in tag) records
told_in (Mark mark) = marks_in (Mark mark)

-- ---- what a compacted log says

-- frames that may stand behind others: none has records of a transaction that is marked before
abbrev pub AreUnmarked : (before : List OffsetEntry) → List OffsetEntry → Type 0
AreUnmarked before frames = EachFrom (λ earlier e. (tag : Tag) → offset_tag e ≡ Some tag →
    is_marked tag earlier ≡ false) before frames

-- the first transaction to mark is by place in the log as it stands: behind an opening, and behind any further frames
abbrev pub GoesByPlace : List Entry → List OffsetEntry → Type 0
GoesByPlace entries log = (verdict : Tag → Verdict) (more : List OffsetEntry) → AreUnmarked log more →
    calls.first_unmarked verdict (replayed entries log ++ flat_map told_in more) ≡ first_unmarked verdict (log ++ more)

-- these calls commit no transaction that was aborted before
abbrev pub TellTheTruth : List Entry → List OffsetCall → Type 0
TellTheTruth entries calls =
    (tag : Tag) → is_aborted (verdict_of entries tag) ≡ true → is_commit (marker_of tag calls) ≡ false

-- two logs say the same of each part, now and behind any further calls that tell the truth
abbrev pub SaysTheSame : List Entry → (standing whole : List OffsetEntry) → Type 0
SaysTheSame entries standing whole = (more : List OffsetCall) (part : PartKey) → TellTheTruth entries more →
    committed part (replayed entries standing ++ more) ≡ committed part (replayed entries whole ++ more)
