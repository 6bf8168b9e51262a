-- The records of Connect's status topic: `status-connector-NAME` or `status-task-NAME-INDEX`, and
-- `{"generation":r,"state":S,"trace":T,"worker_id":"worker-N"}`. T is null or a text; members may stand in any order,
-- and members of other names are passed over. That a worker's id is `worker-` and its number is this project's own
-- choice.
use Rattle.std.specs.Prelude.{◌<◌, ◌^◌, ◌-◌, ℕ, List, ◌++◌, drop, nat_eq, Option, Some, None, Result, Ok, Err}
use Rattle.std.specs.Prelude.{option_map, option_and_then, bytes_eq, codes, decimal, if◌then◌else◌}
use Rattle.std.specs.List.{starts_with}
use Rattle.std.specs.Str.{IsUtf8}
use Rattle.serde_json.specs.Data.{Data, null, boolean, number, string, array, object, member, no_members, unsigned}
use Rattle.serde_json.specs.Find.{get, as_str}
use Rattle.serde_json.specs.Written.{compact_text}
use Rattle.cw_types.specs.Name.{name_of, IsName}
use Rattle.cw_types.specs.Decimal.{number_of}
use Rattle.cw_types.specs.declared.ids.Item.{Item}
use Rattle.cw_types.specs.declared.ids.Item.TheVariants.{Connector, Task}
use Rattle.cw_json.specs.Reading.{reading}
use Rattle.cw_keys.specs.Names.{task_of, task_text, IsTask}
use Rattle.cw_keys.specs.Counts.{u64_at}
use Rattle.cw_keys.specs.declared.state.State.{State}
use Rattle.cw_keys.specs.declared.state.State.TheVariants.{Unassigned, Running, Paused, Failed, Restarting, Stopped}
use Rattle.cw_keys.specs.declared.status.StatusValue.{StatusValue}
use Rattle.cw_keys.specs.declared.fault.KeyFault.{KeyFault}
use Rattle.cw_keys.specs.declared.fault.KeyFault.TheVariants.{BadKey, BadValue}

-- the connector or task that a key names
abbrev pub status_item : List ℕ → Option Item
status_item bytes =
    if starts_with nat_eq bytes (codes "status-connector-") then option_map Connector (name_of (drop 17 bytes)) else
    if starts_with nat_eq bytes (codes "status-task-") then option_map Task (task_of (drop 12 bytes)) else None

-- the key of a connector or a task
abbrev pub status_key : Item → List ℕ
status_key (Connector name) = codes "status-connector-" ++ name
status_key (Task id) = codes "status-task-" ++ task_text id

-- what each item of the program holds
abbrev pub IsItem : Item → Type 0
IsItem (Connector name) = IsName name
IsItem (Task id) = IsTask id

-- the state with a name, as Connect's REST API names it
abbrev pub state_named : List ℕ → Option State
state_named name =
    if bytes_eq name (codes "UNASSIGNED") then Some Unassigned else
    if bytes_eq name (codes "RUNNING") then Some Running else
    if bytes_eq name (codes "PAUSED") then Some Paused else
    if bytes_eq name (codes "FAILED") then Some Failed else
    if bytes_eq name (codes "RESTARTING") then Some Restarting else
    if bytes_eq name (codes "STOPPED") then Some Stopped else None

-- the name of a state
abbrev pub state_name : State → List ℕ
state_name Unassigned = codes "UNASSIGNED"
state_name Running = codes "RUNNING"
state_name Paused = codes "PAUSED"
state_name Failed = codes "FAILED"
state_name Restarting = codes "RESTARTING"
state_name Stopped = codes "STOPPED"

-- the number of the worker with an id
abbrev pub worker_named : List ℕ → Option ℕ
worker_named id = if starts_with nat_eq id (codes "worker-") then number_of (2 ^ 32 - 1) (drop 7 id) else None

-- null for no trace, or its text
abbrev pub trace_in : Data → Option (Option (List ℕ))
trace_in null = Some None
trace_in (string text) = Some (Some text)
trace_in (boolean b) = None
trace_in (number n) = None
trace_in (array ds) = None
trace_in (object ms) = None

-- the text at a key
abbrev pub text_at : List ℕ → Data → Option (List ℕ)
text_at key d = option_and_then as_str (get key d)

-- a status, where each of its members is well formed
abbrev pub status_with : Option State → Option (Option (List ℕ)) → Option ℕ → Option ℕ → Option StatusValue
status_with (Some state) (Some trace) (Some worker) (Some round) =
    Some (record { state = state; trace = trace; worker = worker; round = round })
status_with _ _ _ _ = None

-- the status that JSON tells: each of the four members is there and well formed
abbrev pub status_value : Data → Option StatusValue
status_value d =
    status_with (option_and_then state_named (text_at (codes "state") d))
    (option_and_then trace_in (get (codes "trace") d))
    (option_and_then worker_named (text_at (codes "worker_id") d))
    (u64_at (codes "generation") d)

-- a trace as it is written
abbrev pub trace_data : Option (List ℕ) → Data
trace_data None = null
trace_data (Some text) = string text

-- a status as it is written
abbrev pub status_data : StatusValue → Data
status_data status =
    object (member (codes "generation") (number (unsigned status.round)) (
    member (codes "state") (string (state_name status.state)) (
    member (codes "trace") (trace_data status.trace) (
    member (codes "worker_id") (string (codes "worker-" ++ decimal status.worker)) no_members))))

-- the text of a status
abbrev pub status_text : StatusValue → List ℕ
status_text status = compact_text (status_data status)

-- the record of a key and a value that were read, or the first fault
abbrev pub with_item : Option Item → Option StatusValue → Result (Item × StatusValue) KeyFault
with_item None status = Err BadKey
with_item (Some item) None = Err BadValue
with_item (Some item) (Some status) = Ok (item, status)

-- the record that a key and a value are: BadKey where the key isn't in the grammar, else BadValue where the value isn't
abbrev pub status_of : List ℕ → List ℕ → Result (Item × StatusValue) KeyFault
status_of key value = with_item (status_item key) (option_and_then status_value (reading value))

-- a trace's text is UTF-8
abbrev pub IsTrace : Option (List ℕ) → Type 0
IsTrace None = Unit {0}
IsTrace (Some text) = IsUtf8 text

-- what each status of the program holds
abbrev pub IsStatus : StatusValue → Type 0
IsStatus status = IsTrace status.trace × (status.worker < 2 ^ 32) × (status.round < 2 ^ 64)
