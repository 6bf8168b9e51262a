-- Which records may stand behind others in the config log (Connect's config topic): a config is one that its class
-- takes, tasks are committed once each of them has a config and no two share a part, and a stopped connector has no
-- tasks (KIP-875).
use Rattle.std.specs.Prelude.{◌≡◌, ℕ, ◌<◌, ◌≤◌, Bool, true, false, List, [], Option, Some, IsSome, unwrap_or}
use Rattle.std.specs.Bool.{⊤}
use Rattle.cw_bytes.specs.Frames.{EachFrom}
use Rattle.cw_keys.specs.ConfigKeys.{IsConfigKey}
use Rattle.cw_keys.specs.Configs.{IsConfigValue, is_record}
use Rattle.cw_keys.specs.declared.config_key.ConfigKey.{ConfigKey}
use Rattle.cw_keys.specs.declared.config_key.ConfigKey.TheVariants as key
use Rattle.cw_keys.specs.declared.config_value.ConfigValue.{ConfigValue}
use Rattle.cw_keys.specs.declared.config_value.ConfigValue.TheVariants as value
use Rattle.cw_keys.specs.declared.target.Target.{Target}
use Rattle.cw_keys.specs.declared.target.Target.TheVariants.{Stopped}
use Rattle.cw_types.specs.declared.ids.PartKey.{PartKey}
use Rattle.cw_config.specs.declared.records.ConfigRecord.{ConfigRecord}
use Rattle.cw_config.specs.View.{generation_of, task_count_of, target_of, deferred_of}
use Rattle.cw_config.specs.Acceptance.{end_of, has_tasks}
use Rattle.cw_plugin.specs.Parts.{task_of}
use Rattle.cw_plugin.specs.Tasks.{IsFaultless, parts_at, ShareNone}

-- the parts of a task whose config waits for its commit
abbrev pub waiting_parts : List ConfigRecord → List ℕ → ℕ → List PartKey
waiting_parts before name index =
    parts_at name (unwrap_or (deferred_of (record { connector = name; index = index }) before) [])

-- a commit of so many tasks: each has a config, no two share a part, and a stopped connector has none
pub record FitsCommit (before : List ConfigRecord) (name : List ℕ) (count : ℕ) : Type 0 where
  pub tasks : has_tasks name count before ≡ true
  pub apart : (i j : ℕ) → i < j → j < count → ShareNone (waiting_parts before name i) (waiting_parts before name j)
  pub stopped : target_of name before ≡ Stopped → count ≡ 0

-- a connector stops once it has no tasks
abbrev pub FitsTarget : List ConfigRecord → List ℕ → Target → Type 0
FitsTarget before name target = target ≡ Stopped → task_count_of name before ≡ 0

-- a fence has the number of tasks that were committed before it
abbrev pub FitsFence : List ConfigRecord → List ℕ → ℕ → Type 0
FitsFence before name count = IsSome (generation_of name before) → count ≡ task_count_of name before

-- what a value must be behind these records
abbrev pub FitsBehind : List ConfigRecord → ConfigKey → Option ConfigValue → Type 0
FitsBehind before (key.Connector name) (Some (value.Connector props)) = IsFaultless props
FitsBehind before (key.Task id) (Some (value.Task props)) = IsSome (task_of id.connector props)
FitsBehind before (key.Commit name) (Some (value.Commit count)) = FitsCommit before name count
FitsBehind before (key.Target name) (Some (value.Target target)) = FitsTarget before name target
FitsBehind before (key.Fencing name) (Some (value.Fencing count)) = FitsFence before name count
FitsBehind before _ _ = ⊤

-- a record that may stand behind these
pub record IsAllowedConfig (before : List ConfigRecord) (r : ConfigRecord) : Type 0 where
  pub rising : end_of before ≤ r.offset
  pub key : IsConfigKey r.key
  pub kind : is_record r.key r.value ≡ true
  pub value : IsConfigValue r.value
  pub fits : FitsBehind before r.key r.value

-- records that may stand behind these, one after the other
abbrev pub AreAllowedConfigs : (before : List ConfigRecord) → List ConfigRecord → Type 0
AreAllowedConfigs = EachFrom IsAllowedConfig

-- a key of fences
abbrev pub is_fence_key : ConfigKey → Bool
is_fence_key (key.Connector name) = false
is_fence_key (key.Task id) = false
is_fence_key (key.Commit name) = false
is_fence_key (key.Target name) = false
is_fence_key (key.Fencing name) = true
