-- Which tasks a connector has. As in Kafka Connect, there are at most `tasks.max`, and each has properties of its own;
-- how a list is parted among them is this project's own.
use Rattle.std.specs.Prelude.{◌≡◌, ℕ, suc, zero, ◌+◌, ◌-◌, ◌/◌, ◌%◌, min, not, List, [], ◌∷◌, length, take, drop, map}
use Rattle.std.specs.Prelude.{filter, Contains, All, AllPairs, Option, Some, None, option_map, option_and_then}
use Rattle.std.specs.Prelude.{unwrap_or, codes, decimal, bytes_eq, IsOk, IsSome, ◌++◌, if◌then◌else◌}
use Rattle.std.specs.List.{list_any, filter_map, flat_map, join_with_byte, range_with_len}
use Rattle.std.specs.Option.{option_map_or}
use Rattle.cw_types.specs.declared.ids.PartKey.{PartKey}
use Rattle.cw_types.specs.declared.ids.PartKey.TheVariants.{File, Seq, Sink}
use Rattle.cw_json.specs.Pairs.{value_in}
use Rattle.cw_plugin.specs.declared.class.Class.{Class}
use Rattle.cw_plugin.specs.declared.class.Class.TheVariants.{FileStreamSource, FileSetSource, SequenceSource}
use Rattle.cw_plugin.specs.declared.class.Class.TheVariants.{FileStreamSink}
use Rattle.cw_plugin.specs.declared.class.Field.{Field}
use Rattle.cw_plugin.specs.declared.class.Field.TheVariants.{Feed, Feeds, Sequences, Count, Topic, Outlet, Topics}
use Rattle.cw_plugin.specs.declared.class.TaskField.{TaskField}
use Rattle.cw_plugin.specs.declared.class.TaskField.TheVariants.{TaskClass, BatchSize, Whole, Group}
use Rattle.cw_plugin.specs.Classes.{ClassRow, row_of, class_of, key_of, task_key}
use Rattle.cw_plugin.specs.Checks.{is_name, checked}
use Rattle.cw_plugin.specs.Lists.{elements}
use Rattle.cw_plugin.specs.Numbers.{tasks_max, sequences}
use Rattle.cw_plugin.specs.Parts.{task_of}

-- properties that a check would meet no fault in, were each feed that they name loaded
unfoldable pub IsFaultless : List (List ℕ × List ℕ) → Type 0
IsFaultless props = IsOk (checked is_name props)

-- the elements, a repeat left out
abbrev pub once : List (List ℕ) → List (List ℕ)
once [] = []
once (e ∷ es) = e ∷ filter (λ x. not (bytes_eq x e)) (once es)

-- an element behind others, unless it is one of them
abbrev pub add_once : List (List ℕ) → List ℕ → List (List ℕ)
add_once found e = if list_any (λ x. bytes_eq x e) found then found else found ++ e ∷ []

-- what tasks share out: the elements of a list, or the numbers of sequences
abbrev pub shared_in : Field → List ℕ → List (List ℕ)
shared_in Feed text = []
shared_in Feeds text = once (elements text)
shared_in Sequences text = map decimal (range_with_len 0 (unwrap_or (sequences text) 0))
shared_in Count text = []
shared_in Topic text = []
shared_in Outlet text = []
shared_in Topics text = once (elements text)

-- groups of `least` elements, one behind the other, of which the first `more` have one more
unfoldable pub groups : ℕ → ℕ → ℕ → List (List ℕ) → List (List (List ℕ))
groups zero least more es = []
groups (suc count) least more es =
    take (least + min more 1) es ∷ groups count least (more - 1) (drop (least + min more 1) es)

-- the texts of a number of groups, as even as may be
abbrev pub parted : ℕ → List (List ℕ) → List (List ℕ)
parted count es = map (join_with_byte 44) (groups count (length es / count) (length es % count) es)

-- as many groups as there may be tasks, where there are as many elements
abbrev pub parted_up_to : ℕ → List (List ℕ) → List (List ℕ)
parted_up_to most es = parted (min (length es) most) es

-- how many tasks there may be
abbrev pub share_count : List (List ℕ × List ℕ) → ℕ
share_count props = unwrap_or (tasks_max props) 1

-- what each task has of what a class's tasks share out; where they share nothing, there is one task
abbrev pub shares : List (List ℕ × List ℕ) → Option Field → List (List ℕ)
shares props None = [] ∷ []
shares props (Some field) =
    option_map_or (λ text. parted_up_to (share_count props) (shared_in field text)) (value_in props (key_of field)) []

-- the value of a task's property, if it has one
abbrev pub task_value : List (List ℕ × List ℕ) → ClassRow → List ℕ → TaskField → Option (List ℕ)
task_value props row share TaskClass = Some row.task
task_value props row share BatchSize = value_in props (codes "batch.size")
task_value props row share (Whole field) = value_in props (key_of field)
task_value props row share (Group field) = Some share

-- a property of a task, where it has one
abbrev pub task_pair : List (List ℕ × List ℕ) → ClassRow → List ℕ → TaskField → Option (List ℕ × List ℕ)
task_pair props row share field = option_map (λ value. (task_key field, value)) (task_value props row share field)

-- the properties of a task with its share
unfoldable pub task_config : List (List ℕ × List ℕ) → ClassRow → List ℕ → List (List ℕ × List ℕ)
task_config props row share = filter_map (task_pair props row share) row.task_fields

-- the properties of each task of a class
abbrev pub configs_of_class : List (List ℕ × List ℕ) → ClassRow → List (List (List ℕ × List ℕ))
configs_of_class props row = map (task_config props row) (shares props row.shared)

-- the class of properties
abbrev pub class_in : List (List ℕ × List ℕ) → Option Class
class_in props = option_and_then class_of (value_in props (codes "connector.class"))

-- the properties of each task
abbrev pub task_configs : List (List ℕ × List ℕ) → List (List (List ℕ × List ℕ))
task_configs props = option_map_or (λ class. configs_of_class props (row_of class)) (class_in props) []

-- what a task of these properties reads or writes
unfoldable pub parts_at : List ℕ → List (List ℕ × List ℕ) → List PartKey
parts_at connector config = option_map_or (λ task. task.parts) (task_of connector config) []

-- what a config of a class reads or writes, each part once
abbrev pub class_parts : List ℕ → List (List ℕ × List ℕ) → Class → List PartKey
class_parts connector props FileStreamSource =
    option_map_or (λ file. File connector file ∷ []) (value_in props (codes "file")) []
class_parts connector props FileSetSource =
    option_map_or (λ text. map (File connector) (once (elements text))) (value_in props (codes "files")) []
class_parts connector props SequenceSource =
    option_map_or (λ text. map (Seq connector) (range_with_len 0 (unwrap_or (sequences text) 0)))
    (value_in props (codes "partitions")) []
class_parts connector props FileStreamSink =
    option_map_or (λ text. map (Sink connector) (once (elements text))) (value_in props (codes "topics")) []

-- what a connector's config reads or writes
abbrev pub config_parts : List ℕ → List (List ℕ × List ℕ) → List PartKey
config_parts connector props = option_map_or (class_parts connector props) (class_in props) []

-- nothing is left out: the parts of all tasks, joined in their order, are the config's
abbrev pub HaveAllParts : List (List ℕ × List ℕ) → List (List (List ℕ × List ℕ)) → Type 0
HaveAllParts props configs =
    (connector : List ℕ) → flat_map (parts_at connector) configs ≡ config_parts connector props

-- each of some configs is a task's, whatever its connector is called
abbrev pub AreTaskConfigs : List (List (List ℕ × List ℕ)) → Type 0
AreTaskConfigs configs = (connector : List ℕ) → All (λ config. IsSome (task_of connector config)) configs

-- no part is one of both
abbrev pub ShareNone : List PartKey → List PartKey → Type 0
ShareNone a b = (part : PartKey) → Contains a part → Contains b part → ⊥

-- no part is in two of them
abbrev pub AreApart : List (List (List ℕ × List ℕ)) → Type 0
AreApart configs =
    (connector : List ℕ) → AllPairs (λ a b. ShareNone (parts_at connector a) (parts_at connector b)) configs
