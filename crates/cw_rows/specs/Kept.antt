-- The cluster as it is kept in memory: the model's state, in the parts in which the code has it.
use Rattle.std.specs.Prelude.{◌≡◌, ◌≢◌, ℕ, ◌<◌, List, [], length, take, slice_index_or, Option, Some, None, Result, Ok}
use Rattle.std.specs.Prelude.{Err, if◌then◌else◌, ◌==◌, not, nat_lt, unwrap_or}
use Rattle.cw_types.specs.declared.logs.DiskName.{DiskName}
use Rattle.cw_txn.specs.declared.entry.Entry.{Entry}
use Rattle.cw_data.specs.declared.entry.DataEntry.{DataEntry}
use Rattle.cw_config.specs.declared.records.ConfigRecord.{ConfigRecord}
use Rattle.cw_config.specs.View.{generation_of, task_count_of, is_pending}
use Rattle.cw_offset.specs.Calls.{Calls}
use Rattle.cw_group.specs.Circle.{CircleState}
use Rattle.cw_model.specs.declared.fault.WorldFault.{WorldFault}
use Rattle.cw_model.specs.declared.fault.WorldFault.TheVariants.{Closed, Dead, Gone, Memory, StaleGeneration}
use Rattle.cw_model.specs.declared.fault.WorldFault.TheVariants.{PendingFence}
use Rattle.cw_model.specs.declared.journal.JournalEntry.{JournalEntry}
use Rattle.cw_status.specs.declared.record.StatusRecord.{StatusRecord}
use Rattle.cw_model.specs.State.{Setting, Cluster}
use Rattle.cw_model.specs.Answers.{Answer}
use Rattle.cw_model.specs.Phases.{is_ended}
use Rattle.cw_model.specs.Lookups.{no_row, row_of, instance_of}
use Rattle.cw_rows.specs.Crew.{CrewState}
use Rattle.cw_topics.specs.Topics.{TopicsState}

-- the cluster, what stays the same of it, the entries, data entries, configs and statuses for whose writing memory was
-- taken, and what is told of the offset log
pub record Kept : Type 0 where
  pub setting : Setting
  pub state : Cluster
  pub ready : List Entry
  pub ready_data : List DataEntry
  pub ready_configs : List ConfigRecord
  pub ready_statuses : List StatusRecord
  pub told : Calls

-- the state of these parts
abbrev pub state_of : TopicsState → CircleState → CrewState → List JournalEntry → Option (DiskName × ℕ) → Cluster
state_of topics circle crew journal closed = record {
  config = topics.config;
  offsets = record { frames = topics.offsets.frames; side = topics.offsets.side };
  status = topics.status;
  txn = topics.txn;
  batches = topics.batches.entries;
  configs = topics.configs;
  statuses = topics.statuses.list;
  entries = topics.entries.entries;
  group = circle.group;
  lost = circle.lost;
  delay = circle.delay;
  moment = circle.moment;
  rows = crew.rows;
  instances = crew.instances;
  journal = journal;
  closed = closed;
}

-- what is known of the parts together: each worker's configs are those that it has read
pub record IsCluster (topics : TopicsState) (crew : CrewState) : Type 0 where
  pub each : length crew.reads ≡ length crew.rows
  pub reads : (w : ℕ) → w < length crew.rows →
      slice_index_or crew.reads w [] ≡ take (slice_index_or crew.rows w no_row).prefix topics.configs

-- ---- what a call does

-- the logs hold the same, and writing has ended or not
pub record HasSameLogs (old new : Cluster) : Type 0 where
  pub config : new.config ≡ old.config
  pub offsets : new.offsets ≡ old.offsets
  pub status : new.status ≡ old.status
  pub txn : new.txn ≡ old.txn
  pub batches : new.batches ≡ old.batches
  pub closed : new.closed ≡ old.closed

-- an event is done, or is refused, just as the model says; it touches no log
pub record Is {A : Type 0} (event : Cluster → Answer A) (old new : Kept) (result : Result A WorldFault) : Type 0 where
  pub row : event old.state ≡ (result, new.state)
  pub setting : new.setting ≡ old.setting
  pub logs : HasSameLogs old.state new.state

-- the same, or memory is wanting and nothing has changed
pub record IsOrWants {A : Type 0} (event : Cluster → Answer A) (old new : Kept) (result : Result A WorldFault) : Type 0
  where
    pub done : result ≢ Err Memory → event old.state ≡ (result, new.state)
    pub wants : result ≡ Err Memory → new.state ≡ old.state
    pub setting : new.setting ≡ old.setting
    pub logs : HasSameLogs old.state new.state

-- ---- what is tested first

-- a test behind the test whether writing has ended
abbrev pub open_test : Option (DiskName × ℕ) → Result (Unit {0}) WorldFault → Result (Unit {0}) WorldFault
open_test None test = test
open_test (Some fault) test = Err (Closed fault.0 fault.1)

-- whether a worker may do something
abbrev pub worker_test : ℕ → Cluster → Result (Unit {0}) WorldFault
worker_test w s = open_test s.closed (if (row_of w s).live then Ok tt else Err (Dead w))

-- whether an instance may do something
abbrev pub instance_test : ℕ → Cluster → Result (Unit {0}) WorldFault
instance_test i s = open_test s.closed (if is_ended (instance_of i s).phase then Err (Gone i) else Ok tt)

-- whether a task is one of its connector's newest set, and all older ones are fenced
abbrev pub generation_test : List ℕ → (index own : ℕ) → List ConfigRecord → Result (Unit {0}) WorldFault
generation_test name index own configs = let newest = unwrap_or (generation_of name configs) 0 in
    if not (own == newest) then Err (StaleGeneration own newest) else
    if not (nat_lt index (task_count_of name configs)) then Err (StaleGeneration own newest) else
    if is_pending name configs then Err PendingFence else Ok tt
