-- What the log keeps of a topic: a row a batch, and how far its rows are settled. Internal: no public contract cites
-- this.
use Rattle.std.specs.Prelude.{◌≡◌, ℕ, zero, suc, ◌+◌, ◌≤◌, Bool, true, false, List, [], ◌∷◌, ◌++◌, length, take, drop}
use Rattle.std.specs.Prelude.{Option, None, Some, is_some, slice_get}
use Rattle.std.specs.Bool.{⊤}
use Rattle.std.specs.List.{filter, AllByRecursion}
use Rattle.cw_types.specs.declared.ids.Tag.{Tag}
use Rattle.cw_data.specs.declared.entry.Batch.{Batch}
use Rattle.cw_data.specs.declared.entry.DataEntry.{DataEntry}
use Rattle.cw_data.specs.declared.entry.DataEntry.TheVariants.{Batch as InBatch, Mark}
use Rattle.cw_data.specs.declared.topic.Row.{Row}
use Rattle.cw_data.specs.declared.topic.Topic.{Topic}
use Rattle.cw_data.specs.Log.{records_in, records, is_commit}

-- how each transaction is marked
abbrev pub Marks : Type 0
Marks = Tag → Option Bool

-- the batch that an entry is
abbrev pub batch_in : Option DataEntry → Option Batch
batch_in None = None
batch_in (Some (InBatch batch)) = Some batch
batch_in (Some (Mark tag committed)) = None

-- the batch at a place
abbrev pub batch_at : List DataEntry → ℕ → Option Batch
batch_at entries place = batch_in (slice_get entries place)

-- the values of a batch
abbrev pub values_in : Option Batch → List (List ℕ)
values_in None = []
values_in (Some batch) = batch.values

-- how a batch is marked
abbrev pub mark_of_batch : Marks → Option Batch → Option Bool
mark_of_batch marks None = None
mark_of_batch marks (Some batch) = marks batch.tag

-- how the batch at a place is marked
abbrev pub mark_at : Marks → List DataEntry → ℕ → Option Bool
mark_at marks entries place = mark_of_batch marks (batch_at entries place)

-- whether a row's batch is committed, and whether it is marked
abbrev pub commits : Marks → List DataEntry → Row → Bool
commits marks entries row = is_commit (mark_at marks entries row.place)

abbrev pub is_marked : Marks → List DataEntry → Row → Bool
is_marked marks entries row = is_some (mark_at marks entries row.place)

-- the row of an entry at a place, whose first record has an offset; what adds no record has none
abbrev pub rows_in : ℕ → ℕ → ℕ → List Row
rows_in place first zero = []
rows_in place first (suc more) = record { first = first; end = first + suc more; place = place } ∷ []

-- the rows of a topic, from a place and an offset on
abbrev pub rows_from : List ℕ → ℕ → ℕ → List DataEntry → List Row
rows_from topic place first [] = []
rows_from topic place first (entry ∷ entries) =
    rows_in place first (length (records_in topic entry))
    ++ rows_from topic (place + 1) (first + length (records_in topic entry)) entries

abbrev pub rows_of : List ℕ → List DataEntry → List Row
rows_of topic entries = rows_from topic 0 0 entries

-- the first of these rows, if there is one, has no marker
abbrev pub BeginsUnmarked : Marks → List DataEntry → List Row → Type 0
BeginsUnmarked marks entries [] = ⊤
BeginsUnmarked marks entries (row ∷ rows) = is_marked marks entries row ≡ false

-- the log ends with an entry at a place
pub record EndsWith (entries : List DataEntry) (place : ℕ) (entry : DataEntry) : Type 0 where
  pub last : entries ≡ take place entries ++ entry ∷ []
  pub at : place ≡ length (take place entries)

-- the passed rows are marked, the committed ones of them stand in front, and the rows behind them are as they were made
pub record Waits (marks : Marks) (entries : List DataEntry) (name : List ℕ) (topic : Topic) : Type 0 where
  pub front : take topic.kept topic.rows.items
      ≡ filter (commits marks entries) (take topic.passed (rows_of name entries))
  pub marked : AllByRecursion (λ row. is_marked marks entries row ≡ true) (take topic.passed (rows_of name entries))
  pub back : drop topic.passed topic.rows.items ≡ drop topic.passed (rows_of name entries)
  pub behind : topic.kept ≤ topic.passed
  pub within : topic.passed ≤ length topic.rows.items
  pub long : length topic.rows.items ≡ length (rows_of name entries)
  pub end : topic.end ≡ length (records name entries)

-- the passed rows are all up to the first one without marker
pub record IsTopic (marks : Marks) (entries : List DataEntry) (name : List ℕ) (topic : Topic) : Type 0 where
  pub waits : Waits marks entries name topic
  pub next : BeginsUnmarked marks entries (drop topic.passed (rows_of name entries))

-- rows that can be read and moved
pub record IsSound (topic : Topic) : Type 0 where
  pub behind : topic.kept ≤ topic.passed
  pub within : topic.passed ≤ length topic.rows.items

-- what is kept of a topic, which may be nothing
abbrev pub WaitsAt : Marks → List DataEntry → List ℕ → Option Topic → Type 0
WaitsAt marks entries name None = records name entries ≡ []
WaitsAt marks entries name (Some topic) = Waits marks entries name topic

abbrev pub TopicAt : Marks → List DataEntry → List ℕ → Option Topic → Type 0
TopicAt marks entries name None = records name entries ≡ []
TopicAt marks entries name (Some topic) = IsTopic marks entries name topic

-- the offset of the first of these rows, else another
abbrev pub first_or : ℕ → List Row → ℕ
first_or end [] = end
first_or end (row ∷ rows) = row.first
