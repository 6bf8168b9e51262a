-- The facts of the logs: what stands where it may (KIP-98, KIP-618), and that a log which was compacted still says
-- what its whole list says, as Kafka's compacted topics do. They are this project's own.
use Rattle.std.specs.Prelude.{◌≡◌, ℕ, ◌<◌, ◌≤◌, ◌^◌, true, List, [], length, map, Contains, IsSome}
use Rattle.std.specs.List.{AllByRecursion}
use Rattle.cw_types.specs.declared.ids.Item.{Item}
use Rattle.cw_keys.specs.Statuses.{IsItem, IsStatus}
use Rattle.cw_config.specs.declared.records.ConfigRecord.{ConfigRecord}
use Rattle.cw_config.specs.Compaction.{configs_in, AreConfigs, SaysTheSame}
use Rattle.cw_status.specs.Statuses.{latest}
use Rattle.cw_txn.specs.declared.entry.Entry.{Entry}
use Rattle.cw_txn.specs.Allowed.{AreAllowed}
use Rattle.cw_txn.specs.Body.{AreEntries}
use Rattle.cw_bytes.specs.Spelling.{AreRecords}
use Rattle.cw_bytes.specs.Frames.{EachFrom, joined, next_behind}
use Rattle.cw_offset.specs.Body.{IsEntry as IsOffsetEntry}
use Rattle.cw_offset.specs.Acceptance.{AreAllowedStored}
use Rattle.cw_data.specs.Body.{IsEntry as IsDataEntry}
use Rattle.cw_data.specs.declared.entry.DataEntry.{DataEntry}
use Rattle.cw_io.specs.Shelf.{Files}
use Rattle.cw_model.specs.State.{Cluster, Setting, StampedStatus}
use Rattle.cw_model.specs.Fences.{StandingFence}
use Rattle.cw_model.specs.Committed.{is_task, batches_of, BatchAgrees}
use Rattle.cw_model.specs.ConfigsAllowed.{AreAllowedConfigs}
use Rattle.cw_model.specs.Lookups.{list_end}
use Rattle.cw_model.specs.Bodies.{status_in, statuses_in, config_length, offsets_length, status_length, txn_length}
use Rattle.cw_model.specs.Bodies.{data_length}
use Rattle.cw_model.specs.Allowed.{IsAllowedData}

-- the records that stand in the config log
abbrev pub standing_configs : Cluster → List ConfigRecord
standing_configs s = configs_in s.config.frames

-- the records that stand in the status log
abbrev pub standing_statuses : Cluster → List StampedStatus
standing_statuses s = statuses_in s.status.frames

-- ---- the config log

-- a list of configs, and what stands of it
pub record ConfigFacts (standing whole : List ConfigRecord) (entries : List Entry) : Type 0 where
  -- each record is allowed behind those before it: `verify` needs it, since a fence has its commit's count and
  -- committed tasks share no part, and so does `set_offsets`, since a stopped connector has no tasks
  pub allowed : AreAllowedConfigs [] whole
  -- no record was written when the transaction list was longer than it is: `append_fence` keeps it, and a fence's mark
  -- lies within the list by it
  pub stamped : AllByRecursion (λ r. r.stamp ≤ list_end entries) whole
  -- what stands says what the whole list says: `compact` drops nothing that is looked up, and an appended record is
  -- then allowed behind what stands, too
  pub same : SaysTheSame standing whole
  -- what stands was written, and each record is allowed behind those before it: a reopening needs it, and `compact`
  -- keeps it
  pub among : AllByRecursion (Contains whole) standing
  pub standing_allowed : AreAllowedConfigs [] standing
  -- a fence that stands with a commit before it stands for that one in the whole list, too: a reopening needs it,
  -- since `compact` may drop the commit
  pub fences : (name : List ℕ) (generation mark : ℕ) → StandingFence standing name generation mark →
      StandingFence whole name generation mark

-- ---- the status log

-- a status may stand behind these: its offset rises, and it is one that can be written
pub record FitsStatus (before : List StampedStatus) (r : StampedStatus) : Type 0 where
  pub above : next_behind (map (λ b. b.status.offset) before) ≤ r.status.offset
  pub item : IsItem r.status.item
  pub value : IsStatus r.status.value

-- a list of statuses, and what stands of it
pub record StatusFacts (standing whole : List StampedStatus) : Type 0 where
  -- each may stand behind those before it: `put_status` keeps it
  pub allowed : EachFrom FitsStatus [] whole
  -- what stands may, too, and its end and each item's last status are those of the whole list: `compact` keeps them
  pub standing_allowed : EachFrom FitsStatus [] standing
  pub end : next_behind (map (λ r. r.status.offset) standing) ≡ next_behind (map (λ r. r.status.offset) whole)
  pub latest : (item : Item) → latest item (map (λ r. r.status) standing) ≡ latest item (map (λ r. r.status) whole)

-- ---- the data log

-- the batches of tasks agree: what is committed of them is what the feeds yield
abbrev pub TasksAgree : Files → List Entry → List DataEntry → Type 0
TasksAgree feeds entries log =
    AllByRecursion (λ batch. is_task batch.tag.tid ≡ true → BatchAgrees feeds entries batch) (batches_of log)

-- ---- all logs

-- each feed is so short that an offset record can tell any place in it
abbrev pub AreShort : Files → Type 0
AreShort feeds = AllByRecursion (λ feed. length feed.1 < 2 ^ 64) feeds

-- each log is one that a disk can hold: how many bytes it has is a number below 2^64
pub record FitDisks (s : Cluster) : Type 0 where
  pub config : config_length s < 2 ^ 64
  pub offsets : offsets_length s < 2 ^ 64
  pub status : status_length s < 2 ^ 64
  pub txn : txn_length s < 2 ^ 64
  pub batches : data_length s < 2 ^ 64

-- each frame has bytes: its numbers, names and lists fit their fields, so that it is read again as it is written
pub record AreWritten (s : Cluster) : Type 0 where
  pub config : AllByRecursion AreRecords s.config.frames
  pub offsets : AllByRecursion IsOffsetEntry s.offsets.frames
  pub status : AllByRecursion AreRecords s.status.frames
  pub txn : AllByRecursion AreEntries s.txn
  pub batches : AllByRecursion IsDataEntry s.batches

-- the facts of the logs
pub record LogFacts (setting : Setting) (s : Cluster) : Type 0 where
  -- each record that stands is read: a compaction, which goes by keys alone, needs it
  pub configs_read : AreConfigs s.config.frames
  pub statuses_read : AllByRecursion (λ a. IsSome (status_in a)) (joined s.status.frames)
  pub configs : ConfigFacts (standing_configs s) s.configs s.entries
  pub statuses : StatusFacts (standing_statuses s) s.statuses
  -- each entry is allowed behind those before it: `raw_commit` needs it, since a script's producer numbers its
  -- transactions by their places
  pub entries : AreAllowed s.entries
  -- the transaction log is never compacted: what stands in it is the whole list, so that a log with room has a list
  -- that is short enough for `commit`
  pub all_entries : joined s.txn ≡ s.entries
  -- each entry of the offset log is allowed behind those before it, by the whole transaction list: what was said of a
  -- transaction stays true as the list grows, since one that was aborted is never committed. The records of a
  -- transaction stand before its marker, so that `compact` leaves none behind it
  pub offsets : AreAllowedStored s.entries s.offsets.frames
  -- each batch and marker is allowed behind those before it, by the whole transaction list: `init` needs it, so that
  -- no batch has the epoch that it gets, and a marker stays true, since what was aborted is never committed
  pub batches : EachFrom (IsAllowedData s.entries) [] s.batches
  -- where the feeds agreed when the logs were opened, the tasks' batches agree: `commit` keeps it. Of a script's
  -- producer a batch that was there when the logs were opened may be committed by `raw_commit`, whatever it holds, and
  -- no task's records have it
  pub agree : setting.agreed ≡ true → TasksAgree setting.feeds s.entries s.batches
  -- what is written has numbers that fit: `append_config` and `put_status` need it, whose stamps are the list's end,
  -- `put_offsets`, whose record tells a place in a feed, and `put_sink`, whose offset is a number of records. A
  -- reopening needs it, which reads what is written
  pub short : AreShort setting.feeds
  pub disks : FitDisks s
  pub written : AreWritten s
