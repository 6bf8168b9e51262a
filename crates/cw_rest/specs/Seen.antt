-- What a call of Connect's REST API sees of the cluster: the records of the config topic, the statuses, the
-- transaction list and the feeds. A call that reads sees as much of the config log as the asked worker has read; a
-- call that writes sees all of it.
use Rattle.std.specs.Prelude.{ℕ, ◌++◌, Bool, List, [], Option, Some, None, map, length, is_some, nat_lt}
use Rattle.std.specs.List.{enumerate_from, filter, filter_map, fold}
use Rattle.std.specs.BTreeSet.{insert_key}
use Rattle.cw_types.specs.Order.{name_cmp}
use Rattle.cw_types.specs.declared.ids.TaskId.{TaskId}
use Rattle.cw_keys.specs.declared.config_key.ConfigKey.{ConfigKey}
use Rattle.cw_keys.specs.declared.config_key.ConfigKey.TheVariants.{Connector, Task, Commit, Target, Fencing}
use Rattle.cw_keys.specs.declared.config_value.ConfigValue.{ConfigValue}
use Rattle.cw_config.specs.declared.records.ConfigRecord.{ConfigRecord}
use Rattle.cw_config.specs.Acceptance.{end_of}
use Rattle.cw_config.specs.View.{config_of, task_count_of}
use Rattle.cw_status.specs.declared.record.StatusRecord.{StatusRecord}
use Rattle.cw_txn.specs.declared.entry.Entry.{Entry}

-- what a call sees
pub record Seen : Type 0 where
  pub configs : List ConfigRecord
  pub statuses : List StatusRecord
  pub entries : List Entry
  pub feeds : List (List ℕ)

-- what an operation writes to the config log: keys, each with its value or none
abbrev pub KeyedValues : Type 0
KeyedValues = List (ConfigKey × Option ConfigValue)

-- the records that keys and values become: each gets the next offset of the log, and as its stamp how long the
-- transaction list was
abbrev pub records_behind : List ConfigRecord → (stamp : ℕ) → KeyedValues → List ConfigRecord
records_behind before stamp values =
    map (λ r. record { offset = r.0; stamp = stamp; key = r.1.0; value = r.1.1 })
    (enumerate_from (end_of before) values)

-- what is seen once these are written
abbrev pub behind_write : KeyedValues → Seen → Seen
behind_write values seen =
    record seen { configs = seen.configs ++ records_behind seen.configs (length seen.entries) values }

-- whether a connector is configured
abbrev pub is_connector : List ℕ → Seen → Bool
is_connector name seen = is_some (config_of name seen.configs)

-- whether a connector has a task of this number
abbrev pub is_task : TaskId → Seen → Bool
is_task id seen = nat_lt id.index (task_count_of id.connector seen.configs)

-- the connector of a config's key
abbrev pub connector_key : ConfigKey → Option (List ℕ)
connector_key (Connector name) = Some name
connector_key (Task id) = None
connector_key (Commit name) = None
connector_key (Target name) = None
connector_key (Fencing name) = None

-- the configured connectors, in the order of their bytes, each once
abbrev pub connectors_in : Seen → List (List ℕ)
connectors_in seen = fold (insert_key name_cmp) []
    (filter (λ name. is_connector name seen) (filter_map (λ r. connector_key r.key) seen.configs))
