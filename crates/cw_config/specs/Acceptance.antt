-- Which records may stand behind others in the config log: offsets rise, and a commit finds a record of each of its
-- tasks.
use Rattle.std.specs.Prelude.{ℕ, ◌+◌, ◌^◌, ◌&&◌, Bool, true, nat_le, nat_lt, max, List, [], ◌∷◌, ◌++◌, Option, Some}
use Rattle.std.specs.Prelude.{None, is_some, option_and_then, Result, Ok, Err, if◌then◌else◌}
use Rattle.std.specs.List.{fold, list_all, range_with_len}
use Rattle.cw_keys.specs.Configs.{config_of}
use Rattle.cw_keys.specs.declared.config_key.ConfigKey.{ConfigKey}
use Rattle.cw_keys.specs.declared.config_key.ConfigKey.TheVariants.{Commit}
use Rattle.cw_keys.specs.declared.config_value.ConfigValue.{ConfigValue}
use Rattle.cw_keys.specs.declared.config_value.ConfigValue.TheVariants as value
use Rattle.cw_keys.specs.declared.fault.KeyFault.{KeyFault}
use Rattle.cw_config.specs.declared.records.ConfigRecord.{ConfigRecord}
use Rattle.cw_config.specs.View.{deferred_record}

-- one above the greatest offset, 0 where there is none
abbrev pub end_of : List ConfigRecord → ℕ
end_of records = fold (λ end r. max end (r.offset + 1)) 0 records

-- the offset of the next record, if there is one below 2^64
abbrev pub next_of : List ConfigRecord → Option ℕ
next_of records = if nat_lt (end_of records) (2 ^ 64) then Some (end_of records) else None

-- each task below a count has a record behind its connector's last commit
abbrev pub has_tasks : List ℕ → ℕ → List ConfigRecord → Bool
has_tasks name count records =
    list_all (λ index. is_some (deferred_record
    (record { connector = name; index = index }) records)) (range_with_len 0 count)

-- a commit has its tasks; other records need nothing
abbrev pub is_backed : List ConfigRecord → ConfigKey → Option ConfigValue → Bool
is_backed records (Commit name) (Some (value.Commit count)) = has_tasks name count records
is_backed records _ _ = true

-- a record that may stand behind these
abbrev pub may_follow : List ConfigRecord → ConfigRecord → Bool
may_follow records r = nat_le (end_of records) r.offset && is_backed records r.key r.value

-- the records with one more, where it may stand behind them
abbrev pub followed_by : List ConfigRecord → ConfigRecord → Option (List ConfigRecord)
followed_by records r = if may_follow records r then Some (records ++ r ∷ []) else None

-- the record of a key and a value that were read
abbrev pub record_with : ℕ → ℕ → Result (ConfigKey × Option ConfigValue) KeyFault → Option ConfigRecord
record_with offset stamp (Ok read) = Some (record { offset = offset; stamp = stamp; key = read.0; value = read.1 })
record_with offset stamp (Err fault) = None

-- the record that a key and a value are, if they are one
abbrev pub record_of : ℕ → ℕ → List ℕ → Option (List ℕ) → Option ConfigRecord
record_of offset stamp key value = record_with offset stamp (config_of key value)

-- the records with the one that a key and a value are, where they are one and it may stand there
abbrev pub applied : List ConfigRecord → ℕ → ℕ → List ℕ → Option (List ℕ) → Option (List ConfigRecord)
applied records offset stamp key value = option_and_then (followed_by records) (record_of offset stamp key value)
