-- The keys of Connect's config topic: a connector's config, the config of one of its tasks, the record that commits a
-- set of tasks, the target state (KIP-875 added STOPPED), and the fence before a new set of tasks (KIP-618).
use Rattle.std.specs.Prelude.{ℕ, List, ◌++◌, drop, nat_eq, Bool, true, false, Option, None, option_map, codes}
use Rattle.std.specs.Prelude.{if◌then◌else◌}
use Rattle.std.specs.List.{starts_with}
use Rattle.cw_types.specs.Name.{name_of, IsName}
use Rattle.cw_keys.specs.Names.{task_of, task_text, IsTask}
use Rattle.cw_keys.specs.declared.config_key.ConfigKey.{ConfigKey}
use Rattle.cw_keys.specs.declared.config_key.ConfigKey.TheVariants.{Connector, Task, Commit, Target, Fencing}

-- the keys of a set of tasks and of a target state
abbrev pub set_key : List ℕ → Option ConfigKey
set_key bytes =
    if starts_with nat_eq bytes (codes "commit-") then option_map Commit (name_of (drop 7 bytes)) else
    if starts_with nat_eq bytes (codes "target-state-") then option_map Target (name_of (drop 13 bytes)) else
    if starts_with nat_eq bytes (codes "tasks-fencing-") then option_map Fencing (name_of (drop 14 bytes)) else None

-- the key that bytes are
abbrev pub config_key : List ℕ → Option ConfigKey
config_key bytes =
    if starts_with nat_eq bytes (codes "connector-") then option_map Connector (name_of (drop 10 bytes)) else
    if starts_with nat_eq bytes (codes "task-") then option_map Task (task_of (drop 5 bytes)) else set_key bytes

-- the bytes of a key
abbrev pub config_key_text : ConfigKey → List ℕ
config_key_text (Connector name) = codes "connector-" ++ name
config_key_text (Task id) = codes "task-" ++ task_text id
config_key_text (Commit name) = codes "commit-" ++ name
config_key_text (Target name) = codes "target-state-" ++ name
config_key_text (Fencing name) = codes "tasks-fencing-" ++ name

-- what each key of the program holds
abbrev pub IsConfigKey : ConfigKey → Type 0
IsConfigKey (Connector name) = IsName name
IsConfigKey (Task id) = IsTask id
IsConfigKey (Commit name) = IsName name
IsConfigKey (Target name) = IsName name
IsConfigKey (Fencing name) = IsName name

-- a connector and its target state are removed by a record without a value; other keys have none such
abbrev pub may_be_removed : ConfigKey → Bool
may_be_removed (Connector name) = true
may_be_removed (Task id) = false
may_be_removed (Commit name) = false
may_be_removed (Target name) = true
may_be_removed (Fencing name) = false
