-- When a connector's config may be taken, and which fault comes first. Kafka Connect checks a config before it stores
-- it; the faults and their order are this project's own.
use Rattle.std.specs.Prelude.{ℕ, ◌==◌, Bool, true, false, not, List, [], ◌∷◌, length, Option, Some, None, option_map}
use Rattle.std.specs.Prelude.{Result, Ok, Err, codes, bytes_eq, if◌then◌else◌}
use Rattle.std.specs.List.{list_any}
use Rattle.std.specs.Option.{is_none}
use Rattle.cw_types.specs.Name.{name_fault}
use Rattle.cw_json.specs.Pairs.{value_in}
use Rattle.cw_plugin.specs.declared.class.Class.{Class}
use Rattle.cw_plugin.specs.declared.class.Field.{Field}
use Rattle.cw_plugin.specs.declared.class.Field.TheVariants.{Feed, Feeds, Sequences, Count, Topic, Outlet, Topics}
use Rattle.cw_plugin.specs.declared.fault.PluginFault.{PluginFault}
use Rattle.cw_plugin.specs.declared.fault.PluginFault.TheVariants.{NoClass, UnknownClass, Missing, BadInt, NoFeed}
use Rattle.cw_plugin.specs.declared.fault.PluginFault.TheVariants.{BadName}
use Rattle.cw_plugin.specs.Classes.{ClassRow, row_of, class_of, key_of, is_list}
use Rattle.cw_plugin.specs.Lists.{elements}
use Rattle.cw_plugin.specs.Numbers.{tasks_max, batch_size, sequences, count}

-- whether bytes are a name
abbrev pub is_name : List ℕ → Bool
is_name bytes = is_none (name_fault bytes)

-- whether bytes are one of the names
abbrev pub is_among : List (List ℕ) → List ℕ → Bool
is_among names bytes = list_any (λ name. bytes_eq name bytes) names

-- the first of the elements that fails a test
abbrev pub first_failing : (List ℕ → Bool) → List (List ℕ) → Option (List ℕ)
first_failing test [] = None
first_failing test (e ∷ es) = if test e then first_failing test es else Some e

-- whether a required value is lacking; an empty list is
abbrev pub is_lacking : Field → Option (List ℕ) → Bool
is_lacking field None = true
is_lacking field (Some text) = if is_list field then length text == 0 else false

-- the first required key that is lacking
abbrev pub missing_key : List (List ℕ × List ℕ) → List Field → Option (List ℕ)
missing_key props [] = None
missing_key props (field ∷ more) =
    if is_lacking field (value_in props (key_of field)) then Some (key_of field) else missing_key props more

-- whether a required value is no number, or none in its range, where one is due
abbrev pub is_bad_number : Field → List ℕ → Bool
is_bad_number Feed text = false
is_bad_number Feeds text = false
is_bad_number Sequences text = is_none (sequences text)
is_bad_number Count text = is_none (count text)
is_bad_number Topic text = false
is_bad_number Outlet text = false
is_bad_number Topics text = false

-- a test of a value that may be lacking
abbrev pub is_value_bad : (List ℕ → Bool) → Option (List ℕ) → Bool
is_value_bad test None = false
is_value_bad test (Some text) = test text

-- the first required key whose value passes a test for badness
abbrev pub bad_key : (Field → List ℕ → Bool) → List (List ℕ × List ℕ) → List Field → Option (List ℕ)
bad_key test props [] = None
bad_key test props (field ∷ more) =
    if is_value_bad (test field) (value_in props (key_of field)) then Some (key_of field) else bad_key test props more

-- the first number that is bad: `tasks.max`, `batch.size` of a source, and then the required ones
abbrev pub bad_number : List (List ℕ × List ℕ) → ClassRow → Option (List ℕ)
bad_number props row =
    if is_none (tasks_max props) then Some (codes "tasks.max") else
    if not row.is_source then bad_key is_bad_number props row.fields else
    if is_none (batch_size props) then Some (codes "batch.size") else
    bad_key is_bad_number props row.fields

-- the first feed in a value that isn't loaded
abbrev pub feed_lacking_in : (List ℕ → Bool) → Field → List ℕ → Option (List ℕ)
feed_lacking_in is_loaded Feed text = if is_loaded text then None else Some text
feed_lacking_in is_loaded Feeds text = first_failing is_loaded (elements text)
feed_lacking_in is_loaded Sequences text = None
feed_lacking_in is_loaded Count text = None
feed_lacking_in is_loaded Topic text = None
feed_lacking_in is_loaded Outlet text = None
feed_lacking_in is_loaded Topics text = None

-- the same of a value that may be lacking
abbrev pub value_feed_lacking : (List ℕ → Bool) → Field → Option (List ℕ) → Option (List ℕ)
value_feed_lacking is_loaded field None = None
value_feed_lacking is_loaded field (Some text) = feed_lacking_in is_loaded field text

-- the first of two texts that is there
abbrev pub or_text : Option (List ℕ) → Option (List ℕ) → Option (List ℕ)
or_text None later = later
or_text (Some text) later = Some text

-- the first feed that isn't loaded
abbrev pub feed_lacking : (List ℕ → Bool) → List (List ℕ × List ℕ) → List Field → Option (List ℕ)
feed_lacking is_loaded props [] = None
feed_lacking is_loaded props (field ∷ more) =
    or_text (value_feed_lacking is_loaded field (value_in props (key_of field))) (feed_lacking is_loaded props more)

-- whether a value is no name, or has an element that is none, where names are due; feeds that are loaded are names
abbrev pub is_bad_name : Field → List ℕ → Bool
is_bad_name Feed text = false
is_bad_name Feeds text = false
is_bad_name Sequences text = false
is_bad_name Count text = false
is_bad_name Topic text = not (is_name text)
is_bad_name Outlet text = not (is_name text)
is_bad_name Topics text = list_any (λ e. not (is_name e)) (elements text)

-- the first of two faults that is there
abbrev pub or_fault : Option PluginFault → Option PluginFault → Option PluginFault
or_fault None later = later
or_fault (Some fault) later = Some fault

-- the first fault of properties of a class
abbrev pub fault_of_class : (List ℕ → Bool) → List (List ℕ × List ℕ) → ClassRow → Option PluginFault
fault_of_class is_loaded props row =
    or_fault (option_map Missing (missing_key props row.fields)) (
    or_fault (option_map BadInt (bad_number props row)) (
    or_fault (option_map NoFeed (feed_lacking is_loaded props row.fields)) (
    option_map BadName (bad_key is_bad_name props row.fields))))

-- the class, where it has no fault
abbrev pub unless_faulty : Class → Option PluginFault → Result Class PluginFault
unless_faulty class None = Ok class
unless_faulty class (Some fault) = Err fault

-- the class of properties, or the first fault
abbrev pub class_unless : (List ℕ → Bool) → List (List ℕ × List ℕ) → Option Class → Result Class PluginFault
class_unless is_loaded props None = Err UnknownClass
class_unless is_loaded props (Some class) = unless_faulty class (fault_of_class is_loaded props (row_of class))

-- the same, by the value of `connector.class`
abbrev pub class_called : (List ℕ → Bool) → List (List ℕ × List ℕ) → Option (List ℕ) → Result Class PluginFault
class_called is_loaded props None = Err NoClass
class_called is_loaded props (Some text) = class_unless is_loaded props (class_of text)

-- the class of a config, or its first fault
abbrev pub checked : (List ℕ → Bool) → List (List ℕ × List ℕ) → Result Class PluginFault
checked is_loaded props = class_called is_loaded props (value_in props (codes "connector.class"))
