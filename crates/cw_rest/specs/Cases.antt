-- What worked cases of replies see: a connector `a`, a source of the feed `orders` into the topic `t`.
use Rattle.std.specs.Prelude.{ℕ, List, [], ◌∷◌, ◌++◌, Some, None, codes}
use Rattle.serde_json.specs.Data.{null}
use Rattle.cw_types.specs.declared.ids.Item.TheVariants.{Connector, Task}
use Rattle.cw_types.specs.declared.ids.PartKey.{PartKey}
use Rattle.cw_types.specs.declared.ids.PartKey.TheVariants.{File}
use Rattle.cw_types.specs.declared.ids.TaskId.{TaskId}
use Rattle.cw_types.specs.declared.ids.Tag.{Tag}
use Rattle.cw_types.specs.declared.ids.Tid.TheVariants.{Lead, Task as TaskTid}
use Rattle.cw_keys.specs.declared.state.State.TheVariants.{Running}
use Rattle.cw_keys.specs.declared.status.StatusValue.{StatusValue}
use Rattle.cw_keys.specs.declared.config_key.ConfigKey.TheVariants as key
use Rattle.cw_keys.specs.declared.config_value.ConfigValue.TheVariants as value
use Rattle.cw_keys.specs.Counts.{count_data}
use Rattle.cw_keys.specs.Parts.{file_partition, sink_partition}
use Rattle.cw_config.specs.View.{Properties}
use Rattle.cw_txn.specs.declared.entry.Entry.TheVariants.{Bump, Commit}
use Rattle.cw_rest.specs.Seen.{Seen, KeyedValues, behind_write}
use Rattle.cw_rest.specs.Operations.{config_values, commit_values, stop_values}
use Rattle.cw_rest.specs.Bodies.{Asked}
use Rattle.cw_rest.specs.Offsets.{Alteration}

-- the connector, its task and its part
abbrev pub name_a : List ℕ
name_a = codes "a"

abbrev pub task_a : TaskId
task_a = record { connector = name_a; index = 0 }

abbrev pub part_a : PartKey
part_a = File name_a (codes "orders")

-- its config, as it is asked for
abbrev pub config_a : Properties
config_a =
    (codes "connector.class", codes "FileStreamSource") ∷ (codes "file", codes "orders") ∷
    (codes "name", name_a) ∷ (codes "topic", codes "t") ∷ []

abbrev pub asked_a : Asked
asked_a = record { name = name_a; config = config_a }

-- its feed alone
abbrev pub nothing_yet : Seen
nothing_yet = record { configs = []; statuses = []; entries = []; feeds = codes "orders" ∷ [] }

-- it has one task, which is fenced
abbrev pub fenced_values : KeyedValues
fenced_values = commit_values name_a 1 ++ (key.Fencing name_a, Some (value.Fencing 1)) ∷ []

abbrev pub running : StatusValue
running = record { state = Running; trace = None; worker = 0; round = 3 }

-- and has committed the feed's first 96 bytes
abbrev pub tag_a : Tag
tag_a = record { number = 0; epoch = record { 0 = 1 }; tid = TaskTid task_a }

abbrev pub at_work : Seen
at_work = record (behind_write (config_values name_a config_a ++ fenced_values) nothing_yet) {
  statuses =
      record { offset = 0; item = Connector name_a; value = running } ∷
      record { offset = 1; item = Task task_a; value = running } ∷ [];
  entries =
      Bump Lead ∷ Bump (TaskTid task_a) ∷ Commit tag_a 1 (record { part = part_a; from = 0; to = 96 } ∷ []) ∷ [];
}

-- it is stopped
abbrev pub at_rest : Seen
at_rest = behind_write (stop_values name_a) at_work

-- ---- texts

abbrev pub info_text : List ℕ
info_text = codes "{\"config\":{\"connector.class\":\"FileStreamSource\",\"file\":\"orders\",\"name\":\"a\"," ++
    codes "\"topic\":\"t\"},\"name\":\"a\",\"tasks\":[],\"type\":\"source\"}"

abbrev pub exists_text : List ℕ
exists_text = codes "{\"error_code\":409,\"message\":\"Connector a already exists\"}"

abbrev pub absent_text : List ℕ
absent_text = codes "{\"error_code\":404,\"message\":\"Connector a not found\"}"

abbrev pub status_text : List ℕ
status_text = codes "{\"connector\":{\"state\":\"RUNNING\",\"worker_id\":\"worker-0\"},\"name\":\"a\"," ++
    codes "\"tasks\":[{\"id\":0,\"state\":\"RUNNING\",\"worker_id\":\"worker-0\"}],\"type\":\"source\"}"

abbrev pub offsets_text : List ℕ
offsets_text = codes "{\"offsets\":[{\"offset\":{\"position\":96},\"partition\":{\"filename\":\"orders\"}}]}"

-- ---- alterations

abbrev pub altering : Alteration
altering = record { partition = file_partition (codes "orders"); offset = count_data (codes "position") 6 }

abbrev pub removing : Alteration
removing = record { partition = file_partition (codes "orders"); offset = null }

abbrev pub altering_a_topic : Alteration
altering_a_topic = record { partition = sink_partition (codes "t"); offset = null }
