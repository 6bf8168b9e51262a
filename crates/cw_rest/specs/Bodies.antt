-- What the body of a call that makes or changes a connector says: `{"name":n,"config":{..}}` for a new one, the
-- properties alone for one that is named by the path. A property `name` may be there and must be the connector's; it
-- is always kept, as in Kafka Connect.
use Rattle.std.specs.Prelude.{ℕ, ◌+◌, ◌==◌, Bool, true, false, List, [], ◌∷◌, Option, Some, None}
use Rattle.std.specs.Prelude.{bytes_eq, option_map, option_and_then, codes, if◌then◌else◌}
use Rattle.std.specs.Option.{option_map_or}
use Rattle.std.specs.Result.{result_ok}
use Rattle.serde_json.specs.Data.{Data, Members, no_members, member}
use Rattle.serde_json.specs.Find.{get, as_str, as_object}
use Rattle.cw_json.specs.Reading.{reading}
use Rattle.cw_json.specs.Inserting.{with_value}
use Rattle.cw_json.specs.Pairs.{value_in}
use Rattle.cw_json.specs.Props.{props_of_data}
use Rattle.cw_config.specs.View.{Properties}

-- how many members an object has
abbrev pub member_count : Members → ℕ
member_count no_members = 0
member_count (member key value more) = member_count more + 1

-- whether a value is an object of so many members
abbrev pub has_members : ℕ → Data → Bool
has_members count value = option_map_or (λ members. member_count members == count) (as_object value) false

-- a value that passes a test
abbrev pub where_it : {A : Type 0} → (A → Bool) → A → Option A
where_it test x = if test x then Some x else None

-- whether the properties name this connector, or none
abbrev pub may_be_named : List ℕ → Properties → Bool
may_be_named name props = option_map_or (λ own. bytes_eq own name) (value_in props (codes "name")) true

-- the properties of a connector, as they are kept
abbrev pub named_config : List ℕ → Data → Option Properties
named_config name value = option_map (with_value (codes "name") name)
    (option_and_then (where_it (may_be_named name)) (result_ok (props_of_data value)))

-- the config that a body gives a connector
abbrev pub config_in : List ℕ → List ℕ → Option Properties
config_in name body = option_and_then (named_config name) (reading body)

-- a connector that is to be made
pub record Asked : Type 0 where
  pub name : List ℕ
  pub config : Properties

-- the connector of a name and a config
abbrev pub asked_with : Data → List ℕ → Option Asked
asked_with value name = option_map (λ config. record { name = name; config = config })
    (option_and_then (named_config name) (get (codes "config") value))

-- the connector that an object asks for: it has a name, a config and no other member
abbrev pub asked_by : Data → Option Asked
asked_by value = option_and_then (asked_with value) (option_and_then as_str (get (codes "name") value))

-- the connector that a body asks for; its name may be none that a connector can have
abbrev pub asked_in : List ℕ → Option Asked
asked_in body = option_and_then asked_by (option_and_then (where_it (has_members 2)) (reading body))
