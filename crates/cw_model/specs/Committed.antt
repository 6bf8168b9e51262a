-- What is committed of a source's part: the records of the transactions that were committed since its offset was last
-- set, one after the other (KIP-618: records and offsets are committed together; KIP-875: offsets are set).
use Rattle.std.specs.Prelude.{◌≡◌, ℕ, ◌&&◌, Bool, true, List, [], Option, Some, None, is_some, if◌then◌else◌}
use Rattle.std.specs.Option.{option_map_or}
use Rattle.std.specs.List.{find, filter_map, flat_map, list_any, after_last, AllByRecursion}
use Rattle.cw_types.specs.declared.ids.Tid.{Tid}
use Rattle.cw_types.specs.declared.ids.Tag.{Tag}
use Rattle.cw_types.specs.declared.ids.PartKey.{PartKey}
use Rattle.cw_types.specs.declared.ids.Span.{Span}
use Rattle.cw_txn.specs.declared.entry.Entry.{Entry}
use Rattle.cw_txn.specs.declared.entry.Entry.TheVariants.{Bump, Commit, Set}
use Rattle.cw_types.specs.Same.{same_tag, same_part}
use Rattle.cw_txn.specs.Legal.{is_committed}
use Rattle.cw_offset.specs.Compaction.{sets_part}
use Rattle.cw_data.specs.declared.entry.Batch.{Batch}
use Rattle.cw_data.specs.declared.entry.DataEntry.{DataEntry}
use Rattle.cw_data.specs.declared.entry.DataEntry.TheVariants.{Batch as InBatch, Mark}
use Rattle.cw_io.specs.Shelf.{Files}
use Rattle.cw_feed.specs.Feeds.{IsOfSource}
use Rattle.cw_feed.specs.Yield.{Yield}
use Rattle.cw_model.specs.Lookups.{task_connector}

-- whether a producer is a task
abbrev pub is_task : Tid → Bool
is_task tid = is_some (task_connector tid)

-- the batch that an entry of the data log is
abbrev pub batch_in : DataEntry → Option Batch
batch_in (InBatch batch) = Some batch
batch_in (Mark tag committed) = None

-- the batches of the data log
abbrev pub batches_of : List DataEntry → List Batch
batches_of log = filter_map batch_in log

-- whether a batch is of a transaction and a part
abbrev pub is_batch_of : Tag → PartKey → Batch → Bool
is_batch_of tag part batch = same_tag tag batch.tag && same_part part batch.part

-- whether a span is of a part
abbrev pub is_span_of : PartKey → Span → Bool
is_span_of part span = same_part part span.part

-- the transaction of a task that an entry commits with a span of a part
abbrev pub tag_committing : PartKey → Entry → Option Tag
tag_committing part (Bump tid) = None
tag_committing part (Commit tag generation spans) =
    if is_task tag.tid && list_any (is_span_of part) spans then Some tag else None
tag_committing part (Set tid epoch list) = None

-- the transactions that tasks committed of a part behind its last set, in their order
abbrev pub tags_of : PartKey → List Entry → List Tag
tags_of part entries = filter_map (tag_committing part) (after_last (sets_part part) entries)

-- the values of the batch of a transaction and a part
abbrev pub values_of : PartKey → List DataEntry → Tag → List (List ℕ)
values_of part log tag = option_map_or (λ batch. batch.values) (find (is_batch_of tag part) (batches_of log)) []

-- the committed records of a part
abbrev pub committed_records : PartKey → List Entry → List DataEntry → List (List ℕ)
committed_records part entries log = flat_map (values_of part log) (tags_of part entries)

-- a batch of a source's part, once it is committed, is what the feeds yield
abbrev pub BatchAgrees : Files → List Entry → Batch → Type 0
BatchAgrees feeds entries batch = IsOfSource batch.part → is_committed batch.tag entries ≡ true →
    Yield feeds batch.part batch.from batch.to batch.values

-- the feeds agree with what was committed: they are those of which these records were read (this project's own
-- premise, since feeds may be changed between two runs)
abbrev pub Agrees : Files → List Entry → List DataEntry → Type 0
Agrees feeds entries log = AllByRecursion (BatchAgrees feeds entries) (batches_of log)
