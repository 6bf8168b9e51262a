-- The last record of a key: in Connect's config topic each key's last record counts, a record without a value being
-- none.
use Rattle.std.specs.Prelude.{◌==◌, ◌&&◌, Bool, false, List, Option, option_and_then, reverse, bytes_eq}
use Rattle.std.specs.List.{find}
use Rattle.cw_keys.specs.declared.config_key.ConfigKey.{ConfigKey}
use Rattle.cw_keys.specs.declared.config_key.ConfigKey.TheVariants.{Connector, Task, Commit, Target, Fencing}
use Rattle.cw_keys.specs.declared.config_value.ConfigValue.{ConfigValue}
use Rattle.cw_config.specs.declared.records.ConfigRecord.{ConfigRecord}

-- one key
abbrev pub same_key : ConfigKey → ConfigKey → Bool
same_key (Connector a) (Connector b) = bytes_eq a b
same_key (Task a) (Task b) = bytes_eq a.connector b.connector && (a.index == b.index)
same_key (Commit a) (Commit b) = bytes_eq a b
same_key (Target a) (Target b) = bytes_eq a b
same_key (Fencing a) (Fencing b) = bytes_eq a b
same_key _ _ = false

-- a record of a key
abbrev pub has_key : ConfigKey → ConfigRecord → Bool
has_key key r = same_key r.key key

-- the last record that passes a test
abbrev pub last_where : (ConfigRecord → Bool) → List ConfigRecord → Option ConfigRecord
last_where test records = find test (reverse records)

-- the last record of a key
abbrev pub last_of : ConfigKey → List ConfigRecord → Option ConfigRecord
last_of key records = last_where (has_key key) records

-- the value of a record, where there is one with a value
abbrev pub value_of : Option ConfigRecord → Option ConfigValue
value_of record_of_key = option_and_then (λ r. r.value) record_of_key
