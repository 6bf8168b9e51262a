-- Small states and steps for worked cases: one connector `s`, one or two workers, and what they run.
use Rattle.std.specs.Prelude.{codes, true, ◌++◌, ◌^◌, ◌-◌, Option, ℕ, List, [], ◌∷◌, map, Some, None, Result}
use Rattle.std.specs.List.{fold}
use Rattle.cw_types.specs.declared.ids.Epoch.{Epoch}
use Rattle.cw_types.specs.declared.ids.Item.{Item}
use Rattle.cw_types.specs.declared.ids.Item.TheVariants.{Connector, Task}
use Rattle.cw_types.specs.declared.ids.PartKey.{PartKey}
use Rattle.cw_types.specs.declared.ids.PartKey.TheVariants.{File, Seq, Sink}
use Rattle.cw_io.specs.Shelf.{Files}
use Rattle.cw_types.specs.declared.ids.Tid.{Tid}
use Rattle.cw_types.specs.declared.ids.Tid.TheVariants.{Lead, Task as TaskTid}
use Rattle.cw_keys.specs.declared.config_key.ConfigKey.{ConfigKey}
use Rattle.cw_keys.specs.declared.config_key.ConfigKey.TheVariants as key
use Rattle.cw_keys.specs.declared.config_value.ConfigValue.{ConfigValue}
use Rattle.cw_keys.specs.declared.config_value.ConfigValue.TheVariants as value
use Rattle.cw_config.specs.declared.records.ConfigRecord.{ConfigRecord}
use Rattle.cw_txn.specs.declared.entry.Entry.{Entry}
use Rattle.cw_txn.specs.declared.entry.Entry.TheVariants.{Bump, Commit}
use Rattle.cw_txn.specs.declared.entry.SetOffset.{SetOffset}
use Rattle.cw_types.specs.declared.ids.Tag.{Tag}
use Rattle.cw_types.specs.declared.ids.Span.{Span}
use Rattle.cw_keys.specs.declared.target.Target.TheVariants.{Stopped}
use Rattle.cw_assign.specs.declared.delay.Delay.TheVariants.{Idle}
use Rattle.cw_group.specs.Group.{empty_group}
use Rattle.cw_plugin.specs.declared.class.Class.TheVariants.{FileStreamSource, SequenceSource, FileStreamSink}
use Rattle.cw_plugin.specs.declared.task.TaskSpec.{TaskSpec}
use Rattle.cw_model.specs.declared.fault.WorldFault.{WorldFault}
use Rattle.cw_model.specs.declared.row.Row.{Row}
use Rattle.cw_model.specs.declared.row.RowPhase.TheVariants.{Stable}
use Rattle.cw_bytes.specs.declared.applied.Applied.{Applied}
use Rattle.cw_bytes.specs.Frames.{joined}
use Rattle.cw_keys.specs.Parts.{part_text}
use Rattle.cw_keys.specs.Offsets.{offset_text}
use Rattle.cw_offset.specs.declared.body.OffsetEntry.TheVariants.{Records, Mark}
use Rattle.cw_model.specs.declared.instance.Instance.{Instance}
use Rattle.cw_model.specs.declared.instance.Cut.{Cut}
use Rattle.cw_model.specs.declared.instance.InstancePhase.{InstancePhase}
use Rattle.cw_model.specs.declared.instance.InstancePhase.TheVariants.{Polling, Inited, Verified}
use Rattle.cw_types.specs.declared.logs.LogName.TheVariants.{Batches}
use Rattle.cw_model.specs.EventsSources.{produce, put_offsets, commit}
use Rattle.cw_model.specs.EventsSinks.{deliver, put_sink}
use Rattle.cw_status.specs.declared.record.StatusRecord.{StatusRecord}
use Rattle.cw_model.specs.declared.instance.Trace.TheVariants.{Fenced}
use Rattle.cw_model.specs.EventsReports.{fail, put_status}
use Rattle.cw_model.specs.EventsRaw.{raw_init, raw_commit}
use Rattle.cw_model.specs.EventsMarking.{mark}
use Rattle.cw_model.specs.State.{Setting, Cluster}
use Rattle.cw_model.specs.Lookups.{new_row}
use Rattle.cw_model.specs.Bodies.{config_applied}
use Rattle.cw_model.specs.Answers.{Answer}
use Rattle.cw_model.specs.EventsWorkers.{spawn, kill, expire}
use Rattle.cw_model.specs.EventsGroups.{join, close_round, store_plan, sync}
use Rattle.cw_model.specs.EventsItems.{read_config, start_item, stop_item}
use Rattle.cw_model.specs.EventsLeading.{claim_lead, append_config, fence_one, append_fence, set_offsets}

-- a cluster whose journal has numbers for its calls
abbrev pub Small : Type 0
Small = Cluster

-- nothing stands in a log, and no worker is there
abbrev pub empty_cluster : Small
empty_cluster = record {
  config = record { frames = []; side = 1 };
  offsets = record { frames = []; side = 1 };
  status = record { frames = []; side = 1 };
  txn = [];
  batches = [];
  configs = [];
  statuses = [];
  entries = [];
  group = empty_group;
  lost = [];
  delay = Idle;
  moment = 0;
  rows = [];
  instances = [];
  journal = [];
  closed = None;
}

-- a group without feeds, whose lost members are waited for 300 milliseconds
abbrev pub small_setting : Setting
small_setting = record { group = []; delay = 300; feeds = []; agreed = true }

-- the state behind an event
abbrev pub behind : {A : Type 0} → (Small → Answer A) → Small → Small
behind event s = (event s).1

-- what an event answers
abbrev pub answer_of : {A : Type 0} → (Small → Answer A) → Small → Result A WorldFault
answer_of event s = (event s).0

-- the state behind several steps
abbrev pub played : List (Small → Small) → Small → Small
played steps s = fold (λ state step. step state) s steps

-- the name of the connector
abbrev pub name_s : List ℕ
name_s = 115 ∷ []

-- the connector as an item
abbrev pub connector_s : Item
connector_s = Connector name_s

-- its tasks
abbrev pub task_s : ℕ → Item
task_s index = Task (record { connector = name_s; index = index })

-- their producers
abbrev pub tid_s : ℕ → Tid
tid_s index = TaskTid (record { connector = name_s; index = index })

-- its parts, each a sequence
abbrev pub part_s : ℕ → PartKey
part_s index = Seq name_s index

-- an epoch of this number
abbrev pub epoch : ℕ → Epoch
epoch n = record { 0 = n }

-- the first transaction of its first task under some epoch
abbrev pub tag_s : ℕ → Tag
tag_s n = record { number = 0; epoch = epoch n; tid = tid_s 0 }

-- a span of its first part
abbrev pub span_s : (from to : ℕ) → Span
span_s from to = record { part = part_s 0; from = from; to = to }

-- a record of the config log, written before any transaction
abbrev pub written : ℕ → ConfigKey → ConfigValue → ConfigRecord
written offset record_key record_value =
    record { offset = offset; stamp = 0; key = record_key; value = Some record_value }

-- the config of `s`
abbrev pub configured_s : ℕ → ConfigRecord
configured_s offset = written offset (key.Connector name_s) (value.Connector [])

-- a commit of so many of its tasks
abbrev pub committed_s : ℕ → ℕ → ConfigRecord
committed_s offset count = written offset (key.Commit name_s) (value.Commit count)

-- the record that older tasks are fenced, before so many
abbrev pub fenced_s : ℕ → ℕ → ConfigRecord
fenced_s offset count = written offset (key.Fencing name_s) (value.Fencing count)

-- these records stand in the config log, each in a frame of its own
abbrev pub with_records : List ConfigRecord → Small → Small
with_records records s = record s {
  config = record { frames = map (λ r. config_applied r ∷ []) records; side = 1 };
  configs = records;
}

-- these entries stand in the transaction list, each in a frame of its own
abbrev pub with_list : List Entry → Small → Small
with_list entries s = record s { txn = map (λ e. e ∷ []) entries; entries = entries }

-- a worker that leads under its first epoch, and has read so much
abbrev pub leader_row : ℕ → Row
leader_row prefix = record new_row { prefix = prefix; lead = Some (epoch 1) }

-- a task of one sequence of three records
abbrev pub spec_s : ℕ → TaskSpec
spec_s index = record {
  class = SequenceSource;
  parts = part_s index ∷ [];
  topic = Some name_s;
  file = None;
  batch = 2;
  count = 3;
}

-- an instance of a task at worker 0, with its first epoch, which has taken its first two records
abbrev pub instance_s : InstancePhase → ℕ → Instance
instance_s phase generation = record {
  worker = 0;
  item = task_s 0;
  phase = phase;
  generation = generation;
  epoch = Some (epoch 1);
  number = 0;
  task = Some (spec_s 0);
  positions = 0 ∷ [];
  last = Some 0;
  cut = Some (record { turn = 0; from = 0; to = 2 });
  trace = None;
  reported = None;
}

-- `s` has an older task set, committed at offset 1 and fenced, and a newer one, committed at offset 3, which isn't
-- fenced; worker 0 leads, and an instance of a task of some generation is in some phase
abbrev pub unfenced : InstancePhase → ℕ → Small
unfenced phase generation = record (with_list (Bump Lead ∷ Bump (tid_s 0) ∷ [])
    (with_records (configured_s 0 ∷ committed_s 1 1 ∷ fenced_s 2 1 ∷ committed_s 3 1 ∷ []) empty_cluster)) {
      rows = leader_row 4 ∷ [];
      instances = instance_s phase generation ∷ [];
    }

-- `s` has two tasks, which are fenced
abbrev pub two_tasks : List ConfigRecord
two_tasks = configured_s 0 ∷ committed_s 1 2 ∷ fenced_s 2 2 ∷ []

-- worker 0 alone: it joins, closes the round, plans, and is told its share
abbrev pub round_of_one : List (Small → Small)
round_of_one = behind (join 0) ∷ behind (close_round 0) ∷ behind (store_plan 0) ∷ behind (sync 0) ∷ []

-- workers 0 and 1: both join, worker 0 closes the round and plans, and both are told their shares
abbrev pub round_of_two : List (Small → Small)
round_of_two =
    behind (join 1) ∷ behind (join 0) ∷ behind (close_round 0) ∷ behind (store_plan 0) ∷ behind (sync 0) ∷
    behind (sync 1) ∷ []

-- worker 0 runs the connector as instance 0, and its tasks as instances 1 and 2
abbrev pub at_one_worker : Small
at_one_worker = played
    (behind spawn ∷ behind (read_config 0) ∷ round_of_one ++ behind (start_item 0 connector_s) ∷
    behind (start_item 0 (task_s 0)) ∷ behind (start_item 0 (task_s 1)) ∷ [])
    (with_records two_tasks empty_cluster)

-- then worker 1 comes, and there is a round
abbrev pub revoked_from_one : Small
revoked_from_one = played (behind spawn ∷ behind (read_config 1) ∷ round_of_two) at_one_worker

-- then worker 0 gives up its second task, there is another round, and worker 1 starts that task as instance 3
abbrev pub at_two_workers : Small
at_two_workers = played (behind (stop_item 2) ∷ round_of_two ++ behind (start_item 1 (task_s 1)) ∷ []) revoked_from_one

-- then worker 1 is killed, and the group lets it go
abbrev pub lost_one : Small
lost_one = played (behind (kill 1) ∷ behind (expire small_setting 1) ∷ []) at_two_workers

-- then there is a round while the delay runs
abbrev pub waiting_out : Small
waiting_out = played round_of_one lost_one

-- and another one once it has run out
abbrev pub given_back : Small
given_back = played round_of_one (record waiting_out { moment = 300 })

-- `s` has one task, which has committed its first two records; worker 0 leads
abbrev pub producing : Small
producing = record (with_list (Bump Lead ∷ Bump (tid_s 0) ∷ Commit (tag_s 1) 1 (span_s 0 2 ∷ []) ∷ [])
    (with_records (configured_s 0 ∷ committed_s 1 1 ∷ fenced_s 2 1 ∷ []) empty_cluster)) { rows = leader_row 3 ∷ [] }

-- what stops `s`: it has no tasks any more, and its target state is STOPPED
abbrev pub stopping : List (ConfigKey × Option ConfigValue)
stopping = (key.Commit name_s, Some (value.Commit 0)) ∷ (key.Target name_s, Some (value.Target Stopped)) ∷ []

-- the same once it is stopped
abbrev pub stopped : Small
stopped = behind (append_config 0 stopping) producing

-- the offset of the first part of `s` is set
abbrev pub offset_set : Option ℕ → List SetOffset
offset_set to = record { part = part_s 0; to = to } ∷ []

-- then the offset of its first part is set
abbrev pub altered_to : Option ℕ → Small
altered_to to = behind (set_offsets 0 name_s (offset_set to)) stopped

-- the last record of the config log has the greatest offset that there is
abbrev pub out_of_offsets : Small
out_of_offsets = record (with_records (configured_s (2 ^ 64 - 1) ∷ []) empty_cluster) {
  rows = leader_row 1 ∷ [];
  txn = (Bump Lead ∷ []) ∷ [];
  entries = Bump Lead ∷ [];
}

-- `s` has one task that polls its sequence as instance 0; worker 0 leads
abbrev pub polling : Small
polling = record (with_list (Bump Lead ∷ Bump (tid_s 0) ∷ [])
    (with_records (configured_s 0 ∷ committed_s 1 1 ∷ fenced_s 2 1 ∷ []) empty_cluster)) {
      rows = leader_row 3 ∷ [];
      instances = record (instance_s Polling 1) { last = None; cut = None } ∷ [];
    }

-- a cut of the task's sequence from its beginning
abbrev pub cut_to : ℕ → Cut
cut_to to = record { turn = 0; from = 0; to = to }

-- the task has produced its first two records
abbrev pub produced : Small
produced = behind (produce small_setting 0 (cut_to 2)) polling

-- then it has written their offset
abbrev pub offered : Small
offered = behind (put_offsets 0) produced

-- then it has committed both
abbrev pub both_committed : Small
both_committed = behind (commit 0) offered

-- the topic `s` as a part of a sink `k`
abbrev pub sink_part : PartKey
sink_part = Sink (107 ∷ []) name_s

-- the task of that sink, which polls
abbrev pub sink_task : Instance
sink_task = record (instance_s Polling 1) {
  item = Task (record { connector = 107 ∷ []; index = 0 });
  epoch = Some (epoch 0);
  task = Some (record (spec_s 0) { class = FileStreamSink; parts = sink_part ∷ []; topic = None; file = Some name_s });
}

-- worker 0 has marked what the source committed, and the sink's task polls as instance 1
abbrev pub sinking : Small
sinking = record (behind (mark Batches) both_committed) { instances = both_committed.instances ++ sink_task ∷ [] }

-- a config of the task `i` of `s`
abbrev pub task_config_s : ℕ → ℕ → ConfigRecord
task_config_s offset index = written offset (key.Task (record { connector = name_s; index = index })) (value.Task [])

-- the config log of a connector that had three tasks and now has one
abbrev pub two_task_sets : List (List ConfigRecord)
two_task_sets =
    (configured_s 0 ∷ []) ∷ (task_config_s 1 0 ∷ task_config_s 2 1 ∷ task_config_s 3 2 ∷ []) ∷
    (committed_s 4 3 ∷ []) ∷ (fenced_s 5 3 ∷ []) ∷
    (configured_s 6 ∷ []) ∷ (task_config_s 7 0 ∷ []) ∷ (committed_s 8 1 ∷ []) ∷ (fenced_s 9 1 ∷ []) ∷ []

-- a cluster with this config log
abbrev pub with_frames : List (List ConfigRecord) → Small
with_frames frames = record empty_cluster {
  config = record { frames = map (map config_applied) frames; side = 1 };
  configs = joined frames;
}

-- the offsets of what stands in the config log
abbrev pub offsets_in : Small → List (List ℕ)
offsets_in s = map (λ frame. map (λ r. r.offset) frame) s.config.frames

-- a second worker is told that it leads
abbrev pub with_second_leader : Small → Small
with_second_leader s = record s { rows = s.rows ++ record new_row { phase = Stable 2 1 } ∷ [] }

-- the second transaction of the task `s`-0 under its first epoch
abbrev pub second_tag : Tag
second_tag = record (tag_s 1) { number = 1 }

-- an offset record of the first part of `s`
abbrev pub offset_at : (offset to : ℕ) → Applied
offset_at offset to = record {
  offset = offset;
  stamp = 2;
  key = part_text (part_s 0);
  value = Some (offset_text (part_s 0) to);
}

-- the task has committed two transactions, and both are marked in the offset log
abbrev pub twice_committed : Small
twice_committed = record (with_list (Bump (tid_s 0) ∷ Commit (tag_s 1) 1 (span_s 0 2 ∷ []) ∷
    Commit second_tag 1 (span_s 2 3 ∷ []) ∷ []) empty_cluster) {
      offsets = record {
        frames = Records (tag_s 1) (offset_at 0 2 ∷ []) ∷ Mark (record { tag = tag_s 1; committed = true }) ∷
            Records second_tag (offset_at 1 3 ∷ []) ∷
            Mark (record { tag = second_tag; committed = true }) ∷ [];
        side = 1;
      };
    }

-- a later instance of the task is verified behind these commits
abbrev pub verified_later : Small
verified_later = record twice_committed {
  instances = record (instance_s Verified 1) { positions = []; last = None; cut = None } ∷ [];
}

-- then that worker claims the lead
abbrev pub led_by_another : Small
led_by_another = behind (claim_lead 1) (with_second_leader polling)

-- the leader has fenced the older tasks of `s`, whose new task has its epoch
abbrev pub nearly_fenced : Small
nearly_fenced = behind (fence_one 0 name_s) (unfenced Inited 3)

-- and has written that they are fenced
abbrev pub wholly_fenced : Small
wholly_fenced = behind (append_fence 0 name_s) nearly_fenced

-- the sink has handed out two records, and has stored that
abbrev pub sunk : Small
sunk = played (behind (deliver 1 0 2) ∷ behind (put_sink 1 2) ∷ []) sinking

-- a script's producer has its first epoch
abbrev pub script_begun : Small
script_begun = behind (raw_init 0) empty_cluster

-- and then its second
abbrev pub script_begun_again : Small
script_begun_again = behind (raw_init 0) script_begun

-- a script's producer commits part 0 up to 5 under an epoch
abbrev pub commit_five : ℕ → Small → Answer (List Span)
commit_five n s = raw_commit 0 (epoch n) ((0, 5) ∷ []) s

-- a feed `f`, whose last line has no end
abbrev pub feed_f : Files
feed_f = (102 ∷ [], codes "one" ++ 10 ∷ codes "two") ∷ []

-- a task that reads that feed from its beginning
abbrev pub file_task : Instance
file_task = record (instance_s Polling 1) {
  task = Some (record (spec_s 0) { class = FileStreamSource; parts = File name_s (102 ∷ []) ∷ [] });
}

-- the records of the status log
abbrev pub status_records : Small → List StatusRecord
status_records s = map (λ r. r.status) s.statuses

-- the task `s`-0 is reported, fails as fenced, and is reported again
abbrev pub failed_then_reported : Small
failed_then_reported = played (behind (put_status 0 (task_s 0)) ∷ behind (fail 0 (Fenced 1 2)) ∷
    behind (put_status 0 (task_s 0)) ∷ []) polling

-- a target state as an older version spells it: without `state.v2`, with a blank, and with a member that nobody reads
abbrev pub older_target : Applied
older_target = record {
  offset = 0;
  stamp = 0;
  key = codes "target-state-s";
  value = Some (123 ∷ 34 ∷ codes "by" ++ 34 ∷ 58 ∷ 49 ∷ 44 ∷ 32 ∷ 34 ∷ codes "state" ++ 34 ∷ 58 ∷ 34 ∷
      codes "STOPPED" ++ 34 ∷ 125 ∷ []);
}

-- a log was opened that has such a record twice, in one frame
abbrev pub opened_older : Small
opened_older = record empty_cluster {
  config = record { frames = (older_target ∷ record older_target { offset = 1 } ∷ []) ∷ []; side = 1 };
  configs = written 0 (key.Target name_s) (value.Target Stopped) ∷
      written 1 (key.Target name_s) (value.Target Stopped) ∷ [];
}
