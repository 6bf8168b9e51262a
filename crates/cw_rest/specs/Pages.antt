-- What the calls that succeed answer: connectors, their configs, tasks, states and offsets as JSON, in the forms of
-- Kafka Connect's REST API (offsets: KIP-875). Members stand in the order of their keys.
use Rattle.std.specs.Prelude.{ℕ, ◌++◌, Bool, true, false, List, [], ◌∷◌, map, Option, Some, None, unwrap_or, option_map}
use Rattle.std.specs.Prelude.{codes, decimal, if◌then◌else◌}
use Rattle.std.specs.Option.{option_map_or}
use Rattle.std.specs.List.{filter_map, range_with_len}
use Rattle.serde_json.specs.Data.{Data, Members, no_members, member, array, object, number, unsigned, string}
use Rattle.serde_json.specs.View.{items_of}
use Rattle.cw_types.specs.declared.ids.Item.TheVariants.{Connector, Task}
use Rattle.cw_types.specs.declared.ids.TaskId.{TaskId}
use Rattle.cw_types.specs.declared.ids.PartKey.{PartKey}
use Rattle.cw_json.specs.Writing.{members_of_props}
use Rattle.cw_keys.specs.declared.state.State.{State}
use Rattle.cw_keys.specs.declared.state.State.TheVariants.{Unassigned, Running, Paused, Failed, Restarting, Stopped}
use Rattle.cw_keys.specs.declared.status.StatusValue.{StatusValue}
use Rattle.cw_keys.specs.Statuses.{state_name, trace_data}
use Rattle.cw_keys.specs.Offsets.{offset_name}
use Rattle.cw_keys.specs.Counts.{count_data}
use Rattle.cw_config.specs.declared.records.ConfigRecord.{ConfigRecord}
use Rattle.cw_config.specs.View.{Properties, config_of, task_count_of, task_of}
use Rattle.cw_plugin.specs.Classes.{row_of}
use Rattle.cw_plugin.specs.Tasks.{class_in}
use Rattle.cw_status.specs.Statuses.{latest}
use Rattle.cw_txn.specs.History.{end_of}
use Rattle.cw_rest.specs.Seen.{Seen, connectors_in}
use Rattle.cw_rest.specs.Offsets.{partition_of, parts_with_offsets}

-- a JSON list, and an object of members
abbrev pub list_of : List Data → Data
list_of values = array (items_of values)

abbrev pub members_of : List (List ℕ × Data) → Members
members_of [] = no_members
members_of (m ∷ ms) = member m.0 m.1 (members_of ms)

abbrev pub object_of : List (List ℕ × Data) → Data
object_of members = object (members_of members)

-- a whole number, and properties
abbrev pub whole : ℕ → Data
whole n = number (unsigned n)

abbrev pub properties : Properties → Data
properties props = object (members_of_props props)

-- ---- connectors and tasks

-- the properties of a connector; of one that isn't configured there are none
abbrev pub config_seen : List ℕ → Seen → Properties
config_seen name seen = unwrap_or (config_of name seen.configs) []

-- whether properties are a source's
abbrev pub is_source : Properties → Bool
is_source props = option_map_or (λ class. (row_of class).is_source) (class_in props) false

-- a connector's type
abbrev pub type_text : Properties → List ℕ
type_text props = if is_source props then codes "source" else codes "sink"

-- a connector's tasks, of which there are so many
abbrev pub tasks_of : List ℕ → ℕ → List TaskId
tasks_of name count = map (λ index. record { connector = name; index = index }) (range_with_len 0 count)

abbrev pub tasks_seen : List ℕ → Seen → List TaskId
tasks_seen name seen = tasks_of name (task_count_of name seen.configs)

-- a task's id
abbrev pub id_data : TaskId → Data
id_data id = object_of ((codes "connector", string id.connector) ∷ (codes "task", whole id.index) ∷ [])

-- a connector with its config and tasks
abbrev pub info_with : List ℕ → Properties → List TaskId → Data
info_with name config tasks = object_of (
    (codes "config", properties config) ∷
    (codes "name", string name) ∷
    (codes "tasks", list_of (map id_data tasks)) ∷
    (codes "type", string (type_text config)) ∷ [])

abbrev pub info : List ℕ → Seen → Data
info name seen = info_with name (config_seen name seen) (tasks_seen name seen)

-- a task with its config
abbrev pub task_data : List ConfigRecord → TaskId → Data
task_data configs id = object_of (
    (codes "config", properties (unwrap_or (task_of id configs) [])) ∷ (codes "id", id_data id) ∷ [])

-- the names of all connectors
abbrev pub names : Seen → Data
names seen = list_of (map string (connectors_in seen))

-- the tasks of a connector
abbrev pub task_infos : List ℕ → Seen → Data
task_infos name seen = list_of (map (task_data seen.configs) (tasks_seen name seen))

-- ---- states

-- whether a state is a failure
abbrev pub is_failure : State → Bool
is_failure Unassigned = false
is_failure Running = false
is_failure Paused = false
is_failure Failed = true
is_failure Restarting = false
is_failure Stopped = false

-- the trace of a failure, which stands behind the state
abbrev pub trace_member : StatusValue → List (List ℕ × Data)
trace_member status = if is_failure status.state then (codes "trace", trace_data status.trace) ∷ [] else []

-- a status: the state, and which worker reported it
abbrev pub status_members : StatusValue → List (List ℕ × Data)
status_members status = ((codes "state", string (state_name status.state)) ∷ trace_member status) ++
    (codes "worker_id", string (codes "worker-" ++ decimal status.worker)) ∷ []

-- the status of a task
abbrev pub task_status : (index : ℕ) → StatusValue → Data
task_status index status = object_of ((codes "id", whole index) ∷ status_members status)

-- the status of a task, where one was reported
abbrev pub status_of_task : Seen → TaskId → Option Data
status_of_task seen id = option_map (task_status id.index) (latest (Task id) seen.statuses)

-- those of a connector's tasks that have one
abbrev pub task_statuses : List ℕ → Seen → Data
task_statuses name seen = list_of (filter_map (status_of_task seen) (tasks_seen name seen))

-- the status of a connector and of its tasks
abbrev pub connector_status : List ℕ → StatusValue → Seen → Data
connector_status name status seen = object_of (
    (codes "connector", object_of (status_members status)) ∷
    (codes "name", string name) ∷
    (codes "tasks", task_statuses name seen) ∷
    (codes "type", string (type_text (config_seen name seen))) ∷ [])

-- ---- offsets

-- the offset of a part
abbrev pub offset_info : Seen → PartKey → Data
offset_info seen part = object_of (
    (codes "offset", count_data (offset_name part) (unwrap_or (end_of part seen.entries) 0)) ∷
    (codes "partition", partition_of part) ∷ [])

-- the parts of a connector that have offsets
abbrev pub parts_seen : List ℕ → Seen → List PartKey
parts_seen name seen = parts_with_offsets (is_source (config_seen name seen)) name seen.entries

-- the offsets of a connector
abbrev pub offset_infos : List ℕ → Seen → Data
offset_infos name seen =
    object_of ((codes "offsets", list_of (map (offset_info seen) (parts_seen name seen))) ∷ [])

-- that they were altered or reset
abbrev pub message : List ℕ → Data
message text = object_of ((codes "message", string text) ∷ [])

-- ---- classes

-- a class
abbrev pub plugin : List ℕ → List ℕ → Data
plugin class type = object_of (
    (codes "class", string class) ∷ (codes "type", string type) ∷ (codes "version", string (codes "1")) ∷ [])

-- the classes of connectors
abbrev pub plugins : Data
plugins = list_of (
    plugin (codes "FileSetSource") (codes "source") ∷
    plugin (codes "FileStreamSink") (codes "sink") ∷
    plugin (codes "FileStreamSource") (codes "source") ∷
    plugin (codes "SequenceSource") (codes "source") ∷ [])
