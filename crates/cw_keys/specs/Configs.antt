-- The records of Connect's config topic: a key, and a value of the key's kind. A value is JSON whose members may stand
-- in any order, and members of other names are passed over. A record without a value removes a connector or its target
-- state.
use Rattle.std.specs.Prelude.{◌≡◌, ◌<◌, ◌^◌, ℕ, List, Bool, true, false, Option, Some, None, Result, Ok, Err}
use Rattle.std.specs.Prelude.{option_map, option_and_then, codes, if◌then◌else◌}
use Rattle.serde_json.specs.Data.{Data}
use Rattle.serde_json.specs.Written.{compact_text}
use Rattle.cw_json.specs.Reading.{reading}
use Rattle.cw_json.specs.Rising.{IsRising}
use Rattle.cw_json.specs.Plain.{AreTexts}
use Rattle.cw_keys.specs.ConfigKeys.{config_key, may_be_removed}
use Rattle.cw_keys.specs.Counts.{commit_of, fencing_of, count_data}
use Rattle.cw_keys.specs.Properties.{properties_of, properties_data}
use Rattle.cw_keys.specs.Targets.{target_of, target_data}
use Rattle.cw_keys.specs.declared.config_key.ConfigKey.{ConfigKey}
use Rattle.cw_keys.specs.declared.config_key.ConfigKey.TheVariants as key
use Rattle.cw_keys.specs.declared.config_value.ConfigValue.{ConfigValue}
use Rattle.cw_keys.specs.declared.config_value.ConfigValue.TheVariants.{Connector, Task, Commit, Target, Fencing}
use Rattle.cw_keys.specs.declared.fault.KeyFault.{KeyFault}
use Rattle.cw_keys.specs.declared.fault.KeyFault.TheVariants.{BadKey, BadValue}

-- the value that JSON tells under a key
abbrev pub config_value : ConfigKey → Data → Option ConfigValue
config_value (key.Connector name) d = option_map Connector (properties_of d)
config_value (key.Task id) d = option_map Task (properties_of d)
config_value (key.Commit name) d = option_map Commit (commit_of d)
config_value (key.Target name) d = option_map Target (target_of d)
config_value (key.Fencing name) d = option_map Fencing (fencing_of d)

-- a value as it is written
abbrev pub config_data : ConfigValue → Data
config_data (Connector props) = properties_data props
config_data (Task props) = properties_data props
config_data (Commit n) = count_data (codes "tasks") n
config_data (Target target) = target_data target
config_data (Fencing n) = count_data (codes "task-count") n

-- the text of a value
abbrev pub config_text : ConfigValue → List ℕ
config_text value = compact_text (config_data value)

-- a key with the value that was read, or BadValue
abbrev pub or_bad_value : ConfigKey → Option ConfigValue → Result (ConfigKey × Option ConfigValue) KeyFault
or_bad_value key None = Err BadValue
or_bad_value key (Some value) = Ok (key, Some value)

-- the record of a key, and of a text or none
abbrev pub with_value : ConfigKey → Option (List ℕ) → Result (ConfigKey × Option ConfigValue) KeyFault
with_value key None = if may_be_removed key then Ok (key, None) else Err BadValue
with_value key (Some text) = or_bad_value key (option_and_then (config_value key) (reading text))

-- the record of a key that was read, or BadKey
abbrev pub with_key : Option ConfigKey → Option (List ℕ) → Result (ConfigKey × Option ConfigValue) KeyFault
with_key None value = Err BadKey
with_key (Some key) value = with_value key value

-- the record that a key and a value are: BadKey where the key isn't in the grammar, else BadValue where the value isn't
abbrev pub config_of : List ℕ → Option (List ℕ) → Result (ConfigKey × Option ConfigValue) KeyFault
config_of bytes value = with_key (config_key bytes) value

-- a value of the key's kind
abbrev pub is_of_kind : ConfigKey → ConfigValue → Bool
is_of_kind (key.Connector name) (Connector props) = true
is_of_kind (key.Task id) (Task props) = true
is_of_kind (key.Commit name) (Commit n) = true
is_of_kind (key.Target name) (Target target) = true
is_of_kind (key.Fencing name) (Fencing n) = true
is_of_kind _ _ = false

-- a key, and a value of its kind or none where it may be removed
abbrev pub is_record : ConfigKey → Option ConfigValue → Bool
is_record key None = may_be_removed key
is_record key (Some value) = is_of_kind key value

-- a count fits 32 bits
abbrev pub IsCounted : ConfigValue → Type 0
IsCounted (Connector props) = Unit {0}
IsCounted (Task props) = Unit {0}
IsCounted (Commit n) = n < 2 ^ 32
IsCounted (Target target) = Unit {0}
IsCounted (Fencing n) = n < 2 ^ 32

-- properties rise by their keys and are UTF-8
abbrev pub HasTexts : ConfigValue → Type 0
HasTexts (Connector props) = IsRising props × AreTexts props
HasTexts (Task props) = IsRising props × AreTexts props
HasTexts (Commit n) = Unit {0}
HasTexts (Target target) = Unit {0}
HasTexts (Fencing n) = Unit {0}

-- what each value of the program holds, if there is one
abbrev pub IsConfigValue : Option ConfigValue → Type 0
IsConfigValue None = Unit {0}
IsConfigValue (Some value) = IsCounted value × HasTexts value

-- a text is read as the JSON of a value, and there is none for no value
abbrev pub IsTextOf : Option (List ℕ) → Option ConfigValue → Type 0
IsTextOf None None = Unit {0}
IsTextOf None (Some value) = ⊥
IsTextOf (Some text) None = ⊥
IsTextOf (Some text) (Some value) = (reading text ≡ Some (config_data value)) × IsCounted value
