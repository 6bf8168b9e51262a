-- What the tables keep of the log, so that no look-up walks it. Internal: no public contract cites this.
use Rattle.std.specs.Prelude.{◌≡◌, ℕ, ◌+◌, ◌≤◌, Bool, false, List, length, Contains, Option, None, Some, IsSome}
use Rattle.std.specs.Prelude.{unwrap_or, slice_index_or, take, drop, ◌<◌, ◌^◌, if◌then◌else◌, vec_capacity}
use Rattle.std.specs.Bool.{⊤}
use Rattle.std.specs.Option.{option_or}
use Rattle.std.specs.List.{count_by, list_any}
use Rattle.std.specs.Str.{bytes_eq}
use Rattle.std.specs.BTreeMap.{BTreeMap, get}
use Rattle.std.specs.Ordering.{nat_cmp}
use Rattle.std.specs.Cmp.Lexicographic.{slice_cmp}
use Rattle.std.specs.declared.cmp.Ordering.{Ordering}
use Rattle.cw_types.specs.declared.ids.Tag.{Tag}
use Rattle.cw_data.specs.declared.entry.Batch.{Batch}
use Rattle.cw_data.specs.declared.entry.DataEntry.{DataEntry}
use Rattle.cw_data.specs.declared.entry.DataEntry.TheVariants.{Batch as InBatch, Mark}
use Rattle.cw_data.specs.declared.entry.EntryRef.{EntryRef}
use Rattle.cw_data.specs.declared.entry.EntryRef.TheVariants.{Batch as BatchRef, Mark as MarkRef}
use Rattle.cw_data.specs.declared.topic.Topic.{Topic}
use Rattle.cw_data.specs.declared.tables.Tables.{Tables}
use Rattle.cw_types.specs.Same.{same_tag, tag_order}
use Rattle.cw_data.specs.Log.{marker_of, records}
use Rattle.cw_data.specs.Rows.{Marks, batch_at, rows_of, BeginsUnmarked, TopicAt}
use Rattle.cw_data.specs.Unmarked.{KeepsPlaces, HasPlaces}

-- the entry that is borrowed in parts
abbrev pub entry_of : EntryRef → DataEntry
entry_of (BatchRef batch) = InBatch batch.now
entry_of (MarkRef tag committed) = Mark tag.now committed

-- the order of the topics' names
abbrev pub name_order : List ℕ → List ℕ → Ordering
name_order = slice_cmp nat_cmp

-- what the table says of a transaction; a missing row reads as no marker
abbrev pub marks_in : BTreeMap Tag (Option Bool) → Marks
marks_in marks tag = unwrap_or (get tag_order marks tag) None

-- the tables are those of the entries
pub record Keeps (tables : Tables) (entries : List DataEntry) : Type 0 where
  pub marks : (tag : Tag) → marks_in tables.marks tag ≡ marker_of tag entries
  pub unmarked : KeepsPlaces (marks_in tables.marks) entries tables.unmarked
  pub topics : (name : List ℕ) → TopicAt (marks_in tables.marks) entries name (get name_order tables.topics name)

-- whether a batch is of a topic
abbrev pub is_in_topic : List ℕ → Option Batch → Bool
is_in_topic name None = false
is_in_topic name (Some batch) = bytes_eq name batch.topic

-- a topic whose passed rows are all up to the first one without marker, unless one of these places is a batch of it
abbrev pub NextAt : Marks → List DataEntry → List ℕ → List ℕ → Option Topic → Type 0
NextAt marks entries name places None = ⊤
NextAt marks entries name places (Some topic) =
    list_any (λ place. is_in_topic name (batch_at entries place)) places ≡ false →
    BeginsUnmarked marks entries (drop topic.passed (rows_of name entries))

-- how transactions are marked behind a marker of one of them
abbrev pub after_mark : Marks → Tag → Bool → Marks
after_mark marks tag committed q = option_or (marks q) (if same_tag q tag then Some committed else None)

-- a batch's records have offsets
abbrev pub FitsBehind : List DataEntry → DataEntry → Type 0
FitsBehind entries (InBatch batch) = length (records batch.topic entries) + length batch.values < 2 ^ 64
FitsBehind entries (Mark tag committed) = ⊤

-- whether an entry is a batch of a topic
abbrev pub is_batch_of : List ℕ → DataEntry → Bool
is_batch_of name (InBatch batch) = bytes_eq name batch.topic
is_batch_of name (Mark tag committed) = false

-- each row that an entry needs is there
abbrev pub HasRows : Tables → DataEntry → Type 0
HasRows tables (InBatch batch) = IsSome (get name_order tables.topics batch.topic)
HasRows tables (Mark tag committed) = IsSome (get tag_order tables.marks tag)

-- room for so many rows more of a topic
abbrev pub RoomAt : ℕ → Option Topic → Type 0
RoomAt more None = ⊤
RoomAt more (Some topic) = length topic.rows.items + more ≤ vec_capacity topic.rows

-- rows and room for these entries
pub record HasRoom (tables : Tables) (reserved : List DataEntry) : Type 0 where
  pub rows : (entry : DataEntry) → Contains reserved entry → HasRows tables entry
  pub unmarked : HasPlaces tables.unmarked reserved
  pub topics : (name : List ℕ) → RoomAt (count_by (is_batch_of name) reserved) (get name_order tables.topics name)

-- the first place of an entry in a list
pub record IsFirstAt (entry : DataEntry) (entries : List DataEntry) (at : ℕ) : Type 0 where
  pub within : at < length entries
  pub there : slice_index_or entries at entry ≡ entry
  pub first : ¬ Contains (take at entries) entry

-- what every data log keeps: its tables are those of its list, and room is there for what is reserved
pub record IsDataLog (tables : Tables) (entries reserved : List DataEntry) (capacity : ℕ) : Type 0 where
  pub kept : Keeps tables entries
  pub has : HasRoom tables reserved
  pub room : length entries + length reserved ≤ capacity
