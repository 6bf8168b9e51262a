-- The tasks that a connector's config asks for, and those that the config log has of it: a worker that runs the
-- connector proposes new tasks where they differ, and then commits them (Connect's task configs and commit records in
-- the config topic).
use Rattle.std.specs.Prelude.{ℕ, ◌&&◌, Bool, true, false, not, List, [], ◌∷◌, map, length, Option, Some, bytes_eq}
use Rattle.std.specs.Option.{option_eq, option_map_or}
use Rattle.std.specs.List.{range_with_len, enumerate_from}
use Rattle.std.specs.Cmp.Lexicographic.{pointwise}
use Rattle.cw_types.specs.Task.{task_id}
use Rattle.cw_keys.specs.declared.target.Target.{Target}
use Rattle.cw_keys.specs.declared.target.Target.TheVariants.{Started, Paused, Stopped}
use Rattle.cw_keys.specs.declared.config_key.ConfigKey.{ConfigKey}
use Rattle.cw_keys.specs.declared.config_key.ConfigKey.TheVariants as key
use Rattle.cw_keys.specs.declared.config_value.ConfigValue.{ConfigValue}
use Rattle.cw_keys.specs.declared.config_value.ConfigValue.TheVariants as value
use Rattle.cw_config.specs.declared.records.ConfigRecord.{ConfigRecord}
use Rattle.cw_config.specs.View.{Properties, config_of, target_of, task_count_of, task_of, deferred_of}
use Rattle.cw_plugin.specs.Tasks.{task_configs}
use Rattle.cw_rest.specs.Replies.{is_stopped}

-- the tasks' configs that a connector's config asks for
abbrev pub proposal_of : List ℕ → List ConfigRecord → List Properties
proposal_of name records = option_map_or task_configs (config_of name records) []

-- the configs of its tasks
abbrev pub tasks_of : List ℕ → List ConfigRecord → List (Option Properties)
tasks_of name records = map (λ index. task_of (task_id name index) records)
    (range_with_len 0 (task_count_of name records))

-- the configs of so many tasks that wait for a commit
abbrev pub deferred_tasks : List ℕ → ℕ → List ConfigRecord → List (Option Properties)
deferred_tasks name count records = map (λ index. deferred_of (task_id name index) records) (range_with_len 0 count)

-- whether two properties have the same key and value
abbrev pub same_property : List ℕ × List ℕ → List ℕ × List ℕ → Bool
same_property p q = bytes_eq p.0 q.0 && bytes_eq p.1 q.1

-- whether two lists of properties are the same
abbrev pub same_properties : Properties → Properties → Bool
same_properties = pointwise same_property

-- whether tasks have just these configs
abbrev pub are_configs : List (Option Properties) → List Properties → Bool
are_configs tasks proposal = pointwise (option_eq same_properties) tasks (map Some proposal)

-- whether a connector that isn't stopped needs other tasks than it has
abbrev pub needs_tasks : List ConfigRecord → List ℕ → Bool
needs_tasks records name = not (is_stopped (target_of name records)) &&
    not (are_configs (tasks_of name records) (proposal_of name records))

-- whether the tasks that it needs wait for their commit
abbrev pub are_deferred : List ConfigRecord → List ℕ → Bool
are_deferred records name = are_configs (deferred_tasks name (length (proposal_of name records)) records)
    (proposal_of name records)

-- a record for each task
abbrev pub task_records : List ℕ → List Properties → List (ConfigKey × Option ConfigValue)
task_records name proposal = map (λ p. (key.Task (task_id name p.0), Some (value.Task p.1))) (enumerate_from 0 proposal)
