-- Clusters of worked cases: some of which a sentence of safety is false, some whose ticks are told, and the story of
-- one source connector from its creation to its first commit.
use Rattle.std.specs.Prelude.{ℕ, List, [], ◌∷◌, ◌++◌, codes, decimal, replicate, Option, Some, None, Result, Ok, Err}
use Rattle.std.specs.Prelude.{map, true, false}
use Rattle.cw_types.specs.declared.ids.TaskId.{TaskId}
use Rattle.cw_types.specs.declared.ids.Epoch.{Epoch}
use Rattle.cw_types.specs.declared.ids.Tag.{Tag}
use Rattle.cw_types.specs.declared.ids.Item.{Item}
use Rattle.cw_types.specs.declared.ids.Item.TheVariants.{Connector, Task as TaskItem}
use Rattle.cw_types.specs.declared.ids.Tid.TheVariants.{Lead, Task}
use Rattle.cw_types.specs.declared.ids.PartKey.{PartKey}
use Rattle.cw_types.specs.declared.ids.PartKey.TheVariants.{File, Seq}
use Rattle.cw_bytes.specs.declared.applied.Applied.{Applied}
use Rattle.cw_group.specs.declared.answers.Phase.TheVariants.{Planned}
use Rattle.cw_group.specs.declared.member.Member.{Member}
use Rattle.cw_group.specs.Group.{empty_group}
use Rattle.cw_group.specs.Members.{new_member}
use Rattle.cw_keys.specs.declared.config_key.ConfigKey.{ConfigKey}
use Rattle.cw_keys.specs.declared.config_key.ConfigKey.TheVariants as key
use Rattle.cw_keys.specs.declared.config_value.ConfigValue.{ConfigValue}
use Rattle.cw_keys.specs.declared.config_value.ConfigValue.TheVariants as value
use Rattle.cw_keys.specs.declared.state.State.TheVariants.{Running}
use Rattle.cw_keys.specs.Parts.{part_text}
use Rattle.cw_keys.specs.Offsets.{offset_text}
use Rattle.cw_config.specs.declared.records.ConfigRecord.{ConfigRecord}
use Rattle.cw_config.specs.View.{Properties}
use Rattle.cw_txn.specs.declared.entry.Entry.{Entry}
use Rattle.cw_txn.specs.declared.entry.Entry.TheVariants.{Bump, Commit}
use Rattle.cw_offset.specs.declared.body.OffsetEntry.TheVariants.{Records, Mark as OffsetMark}
use Rattle.cw_data.specs.declared.entry.Batch.{Batch}
use Rattle.cw_data.specs.declared.entry.DataEntry.TheVariants.{Batch as InBatch, Mark as DataMark}
use Rattle.cw_plugin.specs.declared.class.Class.TheVariants.{FileStreamSource}
use Rattle.cw_plugin.specs.declared.task.TaskSpec.{TaskSpec}
use Rattle.cw_model.specs.declared.fault.WorldFault.{WorldFault}
use Rattle.cw_model.specs.declared.row.Row.{Row}
use Rattle.cw_model.specs.declared.row.RowPhase.TheVariants.{Stable}
use Rattle.cw_model.specs.declared.instance.Cut.{Cut}
use Rattle.cw_model.specs.declared.instance.Instance.{Instance}
use Rattle.cw_model.specs.declared.instance.InstancePhase.TheVariants as phase
use Rattle.cw_model.specs.State.{Setting, StampedStatus}
use Rattle.cw_model.specs.Lookups.{new_row, no_instance}
use Rattle.cw_model.specs.Answers.{Answer}
use Rattle.cw_model.specs.EventsWorkers.{spawn}
use Rattle.cw_model.specs.EventsItems.{read_config}
use Rattle.cw_model.specs.EventsLeading.{append_config}
use Rattle.cw_model.specs.Steps.{step}
use Rattle.cw_model.specs.StepText.{step_text}
use Rattle.cw_model.specs.Tick.{tick}
use Rattle.cw_model.specs.TickText.{words, tick_text}
use Rattle.cw_model.specs.StandsFor.{Stored}
use Rattle.cw_model.specs.Cases.{Small, empty_cluster}
use Rattle.cw_model.specs.Bodies.{config_applied, status_applied}

-- a connector
abbrev pub name : List ℕ
name = codes "a"

-- its first task
abbrev pub first_task : TaskId
first_task = record { connector = name; index = 0 }

-- ---- a task of an older set commits behind a fence

-- the commit of the newer set
abbrev pub commit_record : ConfigRecord
commit_record = record { offset = 2; stamp = 0; key = key.Commit name; value = Some (value.Commit 1) }

-- the fence that stands for it, with mark 1
abbrev pub fence_record : ConfigRecord
fence_record = record { offset = 3; stamp = 1; key = key.Fencing name; value = Some (value.Fencing 1) }

-- a task of the generation before commits its first transaction
abbrev pub late_commit : Entry
late_commit =
    Commit (record { number = 0; epoch = record { 0 = 1 }; tid = Task first_task }) 1
    (record { part = Seq name 0; from = 0; to = 5 } ∷ [])

-- the fence stands, and the older task commits behind it
abbrev pub overtaken : Small
overtaken = record empty_cluster {
  configs = commit_record ∷ fence_record ∷ [];
  entries = Bump (Task first_task) ∷ late_commit ∷ [];
}

-- ---- two members run one connector

-- a worker that entered as this member
abbrev pub member_row : ℕ → Row
member_row incarnation = record new_row { incarnation = Some incarnation }

-- the connector runs at a worker
abbrev pub running_at : ℕ → Instance
running_at w = record no_instance { worker = w; item = Connector name; phase = phase.Connector }

-- two members run it
abbrev pub doubled : Small
doubled = record empty_cluster {
  group = record empty_group { made = 2; members = new_member 0 1 ∷ new_member 1 2 ∷ [] };
  rows = member_row 1 ∷ member_row 2 ∷ [];
  instances = running_at 0 ∷ running_at 1 ∷ [];
}

-- ---- a commit stands without its batch

-- the commit stands alone
abbrev pub unbacked : Small
unbacked = record empty_cluster { entries = Bump (Task first_task) ∷ late_commit ∷ [] }

-- ---- a worker was just made; one was killed, and one is deaf

-- a worker that has done nothing
abbrev pub one_worker : Small
one_worker = record empty_cluster { rows = new_row ∷ [] }

-- one that was killed
abbrev pub killed_worker : Small
killed_worker = record empty_cluster { rows = record new_row { live = false } ∷ [] }

-- one that is deaf
abbrev pub deaf_worker : Small
deaf_worker = record empty_cluster { rows = record new_row { hearing = false } ∷ [] }

-- ---- nothing is in the files; the config log's only body is one byte

-- empty files
abbrev pub no_bodies : Stored
no_bodies = record {
  config = record { frames = []; side = 1 };
  offsets = record { frames = []; side = 1 };
  status = record { frames = []; side = 1 };
  txn = [];
  batches = [];
}

-- a config log with a body of one byte
abbrev pub one_byte : Stored
one_byte = record no_bodies { config = record { frames = (9 ∷ []) ∷ []; side = 1 } }

-- ---- the story of a source

-- its feed, of twelve lines
abbrev pub orders : List ℕ
orders =
    codes "line-01" ++ 10 ∷ codes "line-02" ++ 10 ∷ codes "line-03" ++ 10 ∷ codes "line-04" ++ 10 ∷
    codes "line-05" ++ 10 ∷ codes "line-06" ++ 10 ∷ codes "line-07" ++ 10 ∷ codes "line-08" ++ 10 ∷
    codes "line-09" ++ 10 ∷ codes "line-10" ++ 10 ∷ codes "line-11" ++ 10 ∷ codes "line-12" ++ 10 ∷ []

-- a group with that feed
abbrev pub setting : Setting
setting = record {
  group = codes "connect-cluster";
  delay = 300000;
  feeds = (codes "orders", orders) ∷ [];
  agreed = true;
}

-- its config, as a user creates it
abbrev pub properties : Properties
properties =
    (codes "connector.class", codes "FileStreamSource") ∷ (codes "file", codes "orders") ∷ (codes "name", name) ∷
    (codes "tasks.max", codes "1") ∷ (codes "topic", codes "t") ∷ []

-- the record that creates it
abbrev pub created : List (ConfigKey × Option ConfigValue)
created = (key.Connector name, Some (value.Connector properties)) ∷ []

-- its task's config
abbrev pub task_properties : Properties
task_properties =
    (codes "file", codes "orders") ∷ (codes "task.class", codes "FileStreamSourceTask") ∷
    (codes "topic", codes "t") ∷ []

-- the whole feed
abbrev pub whole : Cut
whole = record { turn = 0; from = 0; to = 96 }

-- what happens: a worker is made and ticks, a user creates the connector, the worker reads that, and its task goes on
pub data Move : Type 0 where
  Spawn : Move
  Ticks : Move
  Create : Move
  Read : Move
  Steps : Move

-- what is told of an event, and the state behind it
abbrev pub text_of : {A : Type 0} → Result A WorldFault → (A → List ℕ) → List ℕ
text_of (Ok x) text = text x
text_of (Err fault) text = codes "refused"

-- the same of a whole answer
abbrev pub telling : {A : Type 0} → Answer A → (A → List ℕ) → List ℕ × Small
telling did text = (text_of did.0 text, did.1)

-- one move at worker 0 or at its task, which is instance 1
abbrev pub moves : Move → Small → List ℕ × Small
moves Spawn s = telling (spawn s) (λ w. words (codes "worker" ∷ decimal w ∷ []))
moves Ticks s = telling (tick 0 s) (tick_text setting.group)
moves Create s = telling (append_config 0 created s) (λ offset. words (codes "created" ∷ decimal offset ∷ []))
moves Read s = telling (read_config 0 s) (λ _. codes "read")
moves Steps s = telling (step setting 1 s) step_text

-- what is told of some moves, and the state behind them
abbrev pub plays : List Move → Small → List (List ℕ) × Small
plays [] s = ([], s)
plays (move ∷ later) s = let first = moves move s in let rest = plays later first.1 in (first.0 ∷ rest.0, rest.1)

-- so many ticks
abbrev pub ticks : ℕ → List Move
ticks count = replicate count Ticks

-- the moves up to the connector's creation
abbrev pub beginning : List Move
beginning = Spawn ∷ ticks 5

-- those up to the start of its task
abbrev pub middle : List Move
middle = Create ∷ Read ∷ ticks 16

-- and those up to the markers of its first transaction
abbrev pub ending : List Move
ending = Steps ∷ Ticks ∷ Steps ∷ Ticks ∷ replicate 4 Steps ++ ticks 2

-- what the task reads
abbrev pub part : PartKey
part = File name (codes "orders")

-- what its task does
abbrev pub task : TaskSpec
task = record {
  class = FileStreamSource;
  parts = part ∷ [];
  topic = Some (codes "t");
  file = None;
  batch = 2000;
  count = 0;
}

-- ---- the states behind these moves

-- the epoch that both the leader and the task have
abbrev pub first_epoch : Epoch
first_epoch = record { 0 = 1 }

-- the worker's row, as it was told of a round what it is to run
abbrev pub told_row : ℕ → List Item → ℕ → Row
told_row round items prefix = record new_row {
  incarnation = Some 1;
  phase = Stable round 0;
  round = round;
  assigned = items;
  prefix = prefix;
  lead = Some first_epoch;
}

-- the only member, with its share of a plan
abbrev pub sole_member : (kept fresh : List Item) → Member
sole_member kept fresh = record (new_member 0 1) {
  claim = kept ++ fresh;
  joined = true;
  share = record { worker = 0; kept = kept; fresh = fresh; revoked = [] };
}

-- the worker leads
abbrev pub led : Small
led = record empty_cluster {
  txn = (Bump Lead ∷ []) ∷ [];
  entries = Bump Lead ∷ [];
  group = record { round = 1; phase = Planned; made = 1; members = sole_member [] [] ∷ []; planned = [] };
  rows = told_row 1 [] 0 ∷ [];
}

-- the connector, its task's config, the commit of that, and the fence before it
abbrev pub all_configs : List ConfigRecord
all_configs =
    record { offset = 0; stamp = 1; key = key.Connector name; value = Some (value.Connector properties) } ∷
    record { offset = 1; stamp = 1; key = key.Task first_task; value = Some (value.Task task_properties) } ∷
    record { offset = 2; stamp = 1; key = key.Commit name; value = Some (value.Commit 1) } ∷
    record { offset = 3; stamp = 1; key = key.Fencing name; value = Some (value.Fencing 1) } ∷ []

-- the instance of the connector, as it is started
abbrev pub connector_instance : Instance
connector_instance = record no_instance { item = Connector name; phase = phase.Connector }

-- the instance of its task
abbrev pub task_instance : Instance
task_instance = record no_instance { item = TaskItem first_task; phase = phase.New; generation = 2; task = Some task }

-- connector and task were started
abbrev pub started : Small
started = record led {
  config = record { frames = map (λ r. config_applied r ∷ []) all_configs; side = 1 };
  configs = all_configs;
  group = record {
    round = 3;
    phase = Planned;
    made = 1;
    members = sole_member (Connector name ∷ []) (TaskItem first_task ∷ []) ∷ [];
    planned = Connector name ∷ TaskItem first_task ∷ [];
  };
  rows = told_row 3 (Connector name ∷ TaskItem first_task ∷ []) 4 ∷ [];
  instances = connector_instance ∷ task_instance ∷ [];
}

-- the task's first transaction
abbrev pub first_tag : Tag
first_tag = record { number = 0; epoch = first_epoch; tid = Task first_task }

-- the transaction list behind that commit
abbrev pub all_entries : List Entry
all_entries = Bump Lead ∷ Bump (Task first_task) ∷
    Commit first_tag 2 (record { part = part; from = 0; to = 96 } ∷ []) ∷ []

-- the lines that the feed has
abbrev pub lines : List (List ℕ)
lines =
    codes "line-01" ∷ codes "line-02" ∷ codes "line-03" ∷ codes "line-04" ∷ codes "line-05" ∷ codes "line-06" ∷
    codes "line-07" ∷ codes "line-08" ∷ codes "line-09" ∷ codes "line-10" ∷ codes "line-11" ∷ codes "line-12" ∷ []

-- the batch of that transaction
abbrev pub batch : Batch
batch = record { tag = first_tag; topic = codes "t"; part = part; from = 0; to = 96; values = lines }

-- the offset that it stores
abbrev pub offset_applied : Applied
offset_applied = record { offset = 0; stamp = 2; key = part_text part; value = Some (offset_text part 96) }

-- a status that says that an item runs
abbrev pub running_status : ℕ → Item → StampedStatus
running_status offset item = record {
  stamp = 2;
  status = record {
    offset = offset;
    item = item;
    value = record { state = Running; trace = None; worker = 0; round = 3 };
  };
}

-- what was reported
abbrev pub all_statuses : List StampedStatus
all_statuses = running_status 0 (Connector name) ∷ running_status 1 (TaskItem first_task) ∷ []

-- the task committed all of its feed, and the transaction is marked
abbrev pub committed : Small
committed = record started {
  offsets = record {
    frames = Records first_tag (offset_applied ∷ []) ∷
        OffsetMark (record { tag = first_tag; committed = true }) ∷ [];
    side = 1;
  };
  status = record { frames = map (λ r. status_applied r ∷ []) all_statuses; side = 1 };
  txn = map (λ entry. entry ∷ []) all_entries;
  batches = InBatch batch ∷ DataMark first_tag true ∷ [];
  statuses = all_statuses;
  entries = all_entries;
  instances = record connector_instance { reported = Some Running } ∷ record task_instance {
    phase = phase.Polling;
    epoch = Some first_epoch;
    number = 1;
    positions = 96 ∷ [];
    last = Some 0;
    cut = Some whole;
    reported = Some Running;
  } ∷ [];
}

-- ---- a later leader has claimed its epoch, before the connector that runs has its tasks

-- the connector was started, and a later leader claimed
abbrev pub outrun : Small
outrun = let s = (plays (Create ∷ Read ∷ ticks 5) led).1 in
    record s { txn = s.txn ++ (Bump Lead ∷ []) ∷ []; entries = s.entries ++ Bump Lead ∷ [] }

-- ---- a task's cut begins elsewhere than its batch

-- the task, while its transaction is open, with a cut that begins behind the first line
abbrev pub shifted_cut : Instance
shifted_cut = record task_instance {
  phase = phase.Produced;
  epoch = Some first_epoch;
  positions = 0 ∷ [];
  last = Some 0;
  cut = Some (record { turn = 0; from = 8; to = 96 });
}
