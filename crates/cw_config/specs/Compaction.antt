-- Compaction of the config log, as Kafka's compacted topics have it: of each key the last record stays. Only keys are
-- looked at, never values, so a record without a value stays, too. That nothing goes from where a set of tasks still
-- waits for its commit is this project's own.
use Rattle.std.specs.Prelude.{◌≡◌, ℕ, ◌+◌, Bool, false, not, ◌||◌, nat_le, List, length, take, Option, Some, None}
use Rattle.std.specs.Prelude.{option_map, IsSome, true, ◌++◌, if◌then◌else◌}
use Rattle.std.specs.Option.{option_map_or}
use Rattle.std.specs.List.{filter_map, fold, list_any, range_with_len, AllByRecursion}
use Rattle.cw_types.specs.declared.ids.TaskId.{TaskId}
use Rattle.cw_bytes.specs.declared.applied.Applied.{Applied}
use Rattle.cw_bytes.specs.Frames.{EachFrom, joined, next_after, staying, is_last}
use Rattle.cw_keys.specs.ConfigKeys.{config_key}
use Rattle.cw_keys.specs.declared.config_key.ConfigKey.{ConfigKey}
use Rattle.cw_keys.specs.declared.config_key.ConfigKey.TheVariants as key
use Rattle.cw_config.specs.declared.records.ConfigRecord.{ConfigRecord}
use Rattle.cw_config.specs.View.{config_of, target_of, generation_of, task_count_of, fenced_count_of, task_of}
use Rattle.cw_config.specs.View.{deferred_of, is_pending, is_behind}
use Rattle.cw_config.specs.Acceptance.{end_of, record_of, may_follow}

-- ---- which records stay

-- a record of the config log without its value
abbrev pub keyed : Applied → Option ConfigRecord
keyed r = option_map (λ key. record { offset = r.offset; stamp = r.stamp; key = key; value = None }) (config_key r.key)

-- the connector of a key of a task's config
abbrev pub connector_of_task : ConfigKey → Option (List ℕ)
connector_of_task (key.Connector name) = None
connector_of_task (key.Task id) = Some id.connector
connector_of_task (key.Commit name) = None
connector_of_task (key.Target name) = None
connector_of_task (key.Fencing name) = None

-- whether a record is a task's config that waits for its commit
abbrev pub is_waiting : List ConfigRecord → ConfigRecord → Bool
is_waiting records r = option_map_or (λ name. is_behind (generation_of name records) r) (connector_of_task r.key) false

-- whether no task's config waits
abbrev pub is_clean : List ConfigRecord → Bool
is_clean records = not (list_any (is_waiting records) records)

-- the clean point: the last place of the config log at which no task's config waits
abbrev pub clean_point : List ConfigRecord → ℕ
clean_point records =
    fold (λ clean at. if is_clean (take at records) then at else clean) 0 (range_with_len 0 (length records + 1))

-- the records before the clean point
abbrev pub clean_part : List Applied → List Applied
clean_part records = take (clean_point (filter_map keyed records)) records

-- whether a record stays: behind the clean point all do, and before it the last one of each key
abbrev pub config_stays : (before : List Applied) → Applied → Bool
config_stays before r = nat_le (next_after before) r.offset || is_last before r

-- the config log as a compaction leaves it
abbrev pub compact_configs : List (List Applied) → List (List Applied)
compact_configs frames = staying (config_stays (clean_part (joined frames))) frames

-- ---- what a compacted log says

-- the record of the config log that fields are, where key and value are in its grammar; they may be spelled otherwise
-- than they are written
abbrev pub config_in : Applied → Option ConfigRecord
config_in a = record_of a.offset a.stamp a.key a.value

-- the records that frames of the config log are
abbrev pub configs_in : List (List Applied) → List ConfigRecord
configs_in frames = filter_map config_in (joined frames)

-- each record is read
abbrev pub AreConfigs : List (List Applied) → Type 0
AreConfigs frames = AllByRecursion (λ a. IsSome (config_in a)) (joined frames)

-- each of these records may stand where it does, behind those before it
abbrev pub AreAccepted : (before : List ConfigRecord) → List ConfigRecord → Type 0
AreAccepted before records = EachFrom (λ earlier r. may_follow earlier r ≡ true) before records

-- two lists say the same: whatever is asked of a connector or a task, the answer is the same
pub record SaysTheSame (standing whole : List ConfigRecord) : Type 0 where
  pub end : end_of standing ≡ end_of whole
  pub config : (name : List ℕ) → config_of name standing ≡ config_of name whole
  pub target : (name : List ℕ) → target_of name standing ≡ target_of name whole
  pub generation : (name : List ℕ) → generation_of name standing ≡ generation_of name whole
  pub task_count : (name : List ℕ) → task_count_of name standing ≡ task_count_of name whole
  pub fenced_count : (name : List ℕ) → fenced_count_of name standing ≡ fenced_count_of name whole
  pub task : (id : TaskId) → task_of id standing ≡ task_of id whole
  pub deferred : (id : TaskId) → deferred_of id standing ≡ deferred_of id whole
  pub pending : (name : List ℕ) → is_pending name standing ≡ is_pending name whole

-- they say the same now, and behind any further records that may stand behind the whole list
abbrev pub SaysTheSameBehind : (standing whole : List ConfigRecord) → Type 0
SaysTheSameBehind standing whole =
    (more : List ConfigRecord) → AreAccepted whole more → SaysTheSame (standing ++ more) (whole ++ more)
