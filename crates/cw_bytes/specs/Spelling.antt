-- The bytes of fields in the bodies of the logs. Numbers are big-endian, as in Kafka's protocol; kinds and order are
-- this project's own.
use Rattle.std.specs.Prelude.{ℕ, ◌<◌, ◌≤◌, ◌^◌, List, [], ◌∷◌, ◌++◌, length, Option, Some, None, Bool, true, false}
use Rattle.std.specs.Bool.{⊤}
use Rattle.std.specs.List.{flat_map, AllByRecursion}
use Rattle.std.specs.Int.{w32, w64, to_be_bytes}
use Rattle.cw_types.specs.Name.{IsName}
use Rattle.cw_types.specs.declared.ids.Tid.{Tid}
use Rattle.cw_types.specs.declared.ids.Tid.TheVariants.{Lead, Task, Raw as RawId}
use Rattle.cw_types.specs.declared.ids.Tag.{Tag}
use Rattle.cw_types.specs.declared.ids.PartKey.{PartKey}
use Rattle.cw_types.specs.declared.ids.PartKey.TheVariants.{Raw, File, Seq, Sink}
use Rattle.cw_types.specs.declared.ids.Span.{Span}
use Rattle.cw_bytes.specs.declared.applied.Applied.{Applied}
use Rattle.cw_bytes.specs.declared.mark.Mark.{Mark}

-- four bytes and eight bytes of a number
unfoldable pub word : ℕ → List ℕ
word n = to_be_bytes w32 n

unfoldable pub long : ℕ → List ℕ
long n = to_be_bytes w64 n

-- a text behind its length
unfoldable pub text : List ℕ → List ℕ
text bytes = word (length bytes) ++ bytes

-- a producer's id: 1 is the leader, 2 a task, 3 a producer of a script
abbrev pub tid_bytes : Tid → List ℕ
tid_bytes Lead = 1 ∷ []
tid_bytes (Task id) = 2 ∷ (text id.connector ++ word id.index)
tid_bytes (RawId n) = 3 ∷ word n

-- a transaction
abbrev pub tag_bytes : Tag → List ℕ
tag_bytes tag = tid_bytes tag.tid ++ (long tag.epoch.0 ++ long tag.number)

-- how a transaction ended: 0 is aborted, 1 committed
abbrev pub flag_bytes : Bool → List ℕ
flag_bytes false = 0 ∷ []
flag_bytes true = 1 ∷ []

-- a mark
abbrev pub mark_bytes : Mark → List ℕ
mark_bytes mark = tag_bytes mark.tag ++ flag_bytes mark.committed

-- a part: 1 is a script's, 2 a feed, 3 a sequence, 4 a topic of a sink
abbrev pub part_bytes : PartKey → List ℕ
part_bytes (Raw n) = 1 ∷ word n
part_bytes (File connector feed) = 2 ∷ (text connector ++ text feed)
part_bytes (Seq connector index) = 3 ∷ (text connector ++ word index)
part_bytes (Sink connector topic) = 4 ∷ (text connector ++ text topic)

-- a span
abbrev pub span_bytes : Span → List ℕ
span_bytes span = part_bytes span.part ++ (long span.from ++ long span.to)

-- a value behind 1, or 0 for a tombstone
abbrev pub value_bytes : Option (List ℕ) → List ℕ
value_bytes None = 0 ∷ []
value_bytes (Some value) = 1 ∷ text value

-- a record
abbrev pub record_bytes : Applied → List ℕ
record_bytes r = long r.offset ++ (long r.stamp ++ (text r.key ++ value_bytes r.value))

-- a list of records behind its length
abbrev pub records_bytes : List Applied → List ℕ
records_bytes records = word (length records) ++ flat_map record_bytes records

-- what has bytes: texts shorter than 2^32, names, and numbers of their widths
abbrev pub IsText : List ℕ → Type 0
IsText bytes = length bytes < 2 ^ 32

abbrev pub IsTid : Tid → Type 0
IsTid Lead = ⊤
IsTid (Task id) = IsName id.connector × (id.index < 2 ^ 32)
IsTid (RawId n) = n < 2 ^ 32

abbrev pub IsTag : Tag → Type 0
IsTag tag = IsTid tag.tid × (tag.epoch.0 < 2 ^ 64) × (tag.number < 2 ^ 64)

abbrev pub IsMark : Mark → Type 0
IsMark mark = IsTag mark.tag

abbrev pub IsPart : PartKey → Type 0
IsPart (Raw n) = n < 2 ^ 32
IsPart (File connector feed) = IsName connector × IsName feed
IsPart (Seq connector index) = IsName connector × (index < 2 ^ 32)
IsPart (Sink connector topic) = IsName connector × IsName topic

abbrev pub IsSpan : Span → Type 0
IsSpan span = IsPart span.part × (span.from < 2 ^ 64) × (span.to < 2 ^ 64)

abbrev pub IsValue : Option (List ℕ) → Type 0
IsValue None = ⊤
IsValue (Some value) = IsText value

abbrev pub IsRecord : Applied → Type 0
IsRecord r = (r.offset < 2 ^ 64) × (r.stamp < 2 ^ 64) × IsText r.key × IsValue r.value

-- a written list has 1 to 2^32 - 1 records
pub record AreRecords (records : List Applied) : Type 0 where
  pub some : 1 ≤ length records
  pub few : length records < 2 ^ 32
  pub each : AllByRecursion IsRecord records
