-- What the records of the config log say of a connector (Connect's config topic; KIP-618 for fences, KIP-875 for
-- target states). A set of tasks takes effect with the commit behind it; a fence counts for the task sets committed
-- before it.
use Rattle.std.specs.Prelude.{ℕ, ◌&&◌, Bool, true, false, not, nat_lt, List, Option, Some, None, is_some, unwrap_or}
use Rattle.std.specs.Prelude.{option_map, option_and_then, if◌then◌else◌}
use Rattle.cw_types.specs.declared.ids.TaskId.{TaskId}
use Rattle.cw_keys.specs.declared.target.Target.{Target}
use Rattle.cw_keys.specs.declared.target.Target.TheVariants.{Started}
use Rattle.cw_keys.specs.declared.config_key.ConfigKey.TheVariants.{Connector, Task, Commit, Target as TargetState}
use Rattle.cw_keys.specs.declared.config_key.ConfigKey.TheVariants.{Fencing}
use Rattle.cw_keys.specs.declared.config_value.ConfigValue.{ConfigValue}
use Rattle.cw_keys.specs.declared.config_value.ConfigValue.TheVariants as value
use Rattle.cw_config.specs.declared.records.ConfigRecord.{ConfigRecord}
use Rattle.cw_config.specs.Records.{has_key, last_where, last_of, value_of}

-- properties: a key and its value, each a text
abbrev pub Properties : Type 0
Properties = List (List ℕ × List ℕ)

-- the properties that a value is
abbrev pub properties_in : ConfigValue → Option Properties
properties_in (value.Connector props) = Some props
properties_in (value.Task props) = Some props
properties_in (value.Commit n) = None
properties_in (value.Target target) = None
properties_in (value.Fencing n) = None

-- the number that a value is
abbrev pub count_in : ConfigValue → Option ℕ
count_in (value.Connector props) = None
count_in (value.Task props) = None
count_in (value.Commit n) = Some n
count_in (value.Target target) = None
count_in (value.Fencing n) = Some n

-- the target state that a value is
abbrev pub target_in : ConfigValue → Option Target
target_in (value.Connector props) = None
target_in (value.Task props) = None
target_in (value.Commit n) = None
target_in (value.Target target) = Some target
target_in (value.Fencing n) = None

-- the config of a connector; it is configured where it has one
abbrev pub config_of : List ℕ → List ConfigRecord → Option Properties
config_of name records = option_and_then properties_in (value_of (last_of (Connector name) records))

-- the target state of a connector
abbrev pub target_of : List ℕ → List ConfigRecord → Target
target_of name records = unwrap_or (option_and_then target_in (value_of (last_of (TargetState name) records))) Started

-- the generation of a connector's tasks: the offset of the last commit
abbrev pub generation_of : List ℕ → List ConfigRecord → Option ℕ
generation_of name records = option_map (λ r. r.offset) (last_of (Commit name) records)

-- how many tasks the last commit says
abbrev pub task_count_of : List ℕ → List ConfigRecord → ℕ
task_count_of name records = unwrap_or (option_and_then count_in (value_of (last_of (Commit name) records))) 0

-- how many tasks the last fence says
abbrev pub fenced_count_of : List ℕ → List ConfigRecord → ℕ
fenced_count_of name records = unwrap_or (option_and_then count_in (value_of (last_of (Fencing name) records))) 0

-- a record before a generation; before none there is nothing
abbrev pub is_before : Option ℕ → ConfigRecord → Bool
is_before None r = false
is_before (Some generation) r = nat_lt r.offset generation

-- a record behind a generation; behind none there is all
abbrev pub is_behind : Option ℕ → ConfigRecord → Bool
is_behind None r = true
is_behind (Some generation) r = nat_lt generation r.offset

-- the last record of a task before its connector's generation
abbrev pub committed_record : TaskId → List ConfigRecord → Option ConfigRecord
committed_record id records =
    last_where (λ r. has_key (Task id) r && is_before (generation_of id.connector records) r) records

-- the last record of a task behind its connector's generation
abbrev pub deferred_record : TaskId → List ConfigRecord → Option ConfigRecord
deferred_record id records =
    last_where (λ r. has_key (Task id) r && is_behind (generation_of id.connector records) r) records

-- the config of a task, whose index is below its connector's task count
abbrev pub task_of : TaskId → List ConfigRecord → Option Properties
task_of id records =
    if nat_lt id.index (task_count_of id.connector records)
    then option_and_then properties_in (value_of (committed_record id records)) else None

-- the config of a task that waits for a commit
abbrev pub deferred_of : TaskId → List ConfigRecord → Option Properties
deferred_of id records = option_and_then properties_in (value_of (deferred_record id records))

-- a fence stands behind a connector's generation
abbrev pub is_fenced : List ℕ → List ConfigRecord → Bool
is_fenced name records =
    is_some (last_where (λ r. has_key (Fencing name) r && is_behind (generation_of name records) r) records)

-- a connector has a generation, whose producers before it aren't fenced yet
abbrev pub is_pending : List ℕ → List ConfigRecord → Bool
is_pending name records = is_some (generation_of name records) && not (is_fenced name records)
