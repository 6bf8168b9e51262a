-- The records of the config log as they are kept in memory. There are two states of them: one answers what is asked,
-- and the other takes the next records first, so that putting them in wants no memory.
use Rattle.std.specs.Prelude.{◌≡◌, ℕ, ◌+◌, ◌≤◌, Bool, true, List, [], ◌∷◌, length, map, take, drop, Option}
use Rattle.std.specs.List.{enumerate_from, list_all}
use Rattle.cw_bytes.specs.declared.applied.Applied.{Applied}
use Rattle.cw_keys.specs.Configs.{is_record}
use Rattle.cw_keys.specs.declared.config_key.ConfigKey.{ConfigKey}
use Rattle.cw_keys.specs.declared.config_value.ConfigValue.{ConfigValue}
use Rattle.cw_config.specs.declared.records.ConfigRecord.{ConfigRecord}
use Rattle.cw_config.specs.Compaction.{AreAccepted}
use Rattle.cw_rest.specs.Seen.{KeyedValues}
use Rattle.cw_model.specs.Bodies.{config_applied, config_body}
use Rattle.cw_model.specs.Updates.{is_offset}
use Rattle.cw_topics.specs.declared.configs.Twin.{Twin}
use Rattle.cw_topics.specs.declared.configs.Twin.TheVariants.{Behind, Ahead}

-- ---- what is kept

-- the records, and those for whose writing memory was taken
pub record ConfigsState : Type 0 where
  pub records : List ConfigRecord
  pub ready : List ConfigRecord

-- the records for which the second state has room
abbrev pub ready_in : Twin → List ConfigRecord
ready_in (Behind state read) = []
ready_in (Ahead reserved) = reserved.frame

-- it has read the first ones of the records, and may read on
pub record IsBehind (records state : List ConfigRecord) (read : ℕ) : Type 0 where
  pub reads : state ≡ take read records
  pub further : AreAccepted state (drop read records)

-- it has read some or all of the records
abbrev pub Reads : List ConfigRecord → Twin → Type 0
Reads records (Behind state read) = IsBehind records state read
Reads records (Ahead reserved) = reserved.records ≡ records

-- it has, and there is room for no frame
abbrev pub ReadsAlone : List ConfigRecord → Twin → Type 0
ReadsAlone records twin = Reads records twin × (ready_in twin ≡ [])

-- one state says what the records do, the other has read of them, and there is room for so many records in all
pub record IsConfigs (records : List ConfigRecord) (most : ℕ) (state : List ConfigRecord) (twin : Twin) : Type 0 where
  pub says : state ≡ records
  pub reads : Reads records twin
  pub room : 1 ≤ length (ready_in twin) → length records + length (ready_in twin) ≤ most

-- the record of a place, a key and a value
abbrev pub recorded : (stamp : ℕ) → ℕ × (ConfigKey × Option ConfigValue) → ConfigRecord
recorded stamp r = record { offset = r.0; stamp = stamp; key = r.1.0; value = r.1.1 }

-- the records of keys and values, whose offsets rise from one on
abbrev pub records_from : (first stamp : ℕ) → KeyedValues → List ConfigRecord
records_from first stamp values = map (recorded stamp) (enumerate_from first values)

-- the offset of the first record
abbrev pub first_of : List ConfigRecord → ℕ
first_of [] = 0
first_of (r ∷ records) = r.offset

-- a key, and a value that may be written under it
abbrev pub IsWritable : ConfigKey × Option ConfigValue → Type 0
IsWritable value = is_record value.0 value.1 ≡ true

-- a record of such ones
abbrev pub IsWritableRecord : ConfigRecord → Type 0
IsWritableRecord r = is_record r.key r.value ≡ true

-- whether each record has an offset that it can have
abbrev pub have_offsets : List ConfigRecord → Bool
have_offsets records = list_all (λ r. is_offset r.offset) records

-- records, the list of the one frame of their fields, and the bytes of these
pub record IsSpelled (records : List ConfigRecord) (applied : List (List Applied)) (body : List ℕ) : Type 0 where
  pub applied_are : applied ≡ map config_applied records ∷ []
  pub body_is : body ≡ config_body records
