-- What a task reads or writes, by its properties. Kafka Connect hands a task its properties alone; which ones there are
-- is this project's own.
use Rattle.std.specs.Prelude.{ℕ, ◌++◌, List, [], ◌∷◌, Option, Some, None, option_map, option_and_then, codes}
use Rattle.std.specs.Prelude.{if◌then◌else◌}
use Rattle.cw_json.specs.Pairs.{value_in}
use Rattle.cw_types.specs.declared.ids.PartKey.{PartKey}
use Rattle.cw_types.specs.declared.ids.PartKey.TheVariants.{File, Seq, Sink}
use Rattle.cw_plugin.specs.declared.class.Class.{Class}
use Rattle.cw_plugin.specs.declared.class.Field.{Field}
use Rattle.cw_plugin.specs.declared.class.Field.TheVariants.{Feed, Feeds, Sequences, Count, Topic, Outlet, Topics}
use Rattle.cw_plugin.specs.declared.task.TaskSpec.{TaskSpec}
use Rattle.cw_plugin.specs.Classes.{ClassRow, row_of, task_class_of, key_of}
use Rattle.cw_plugin.specs.Checks.{is_name}
use Rattle.cw_plugin.specs.Lists.{elements, has_repeat}
use Rattle.cw_plugin.specs.Numbers.{batch_size, count, number_in}

-- the part of a connector that an element names: a feed, a sequence from 0 to 999, or a topic
abbrev pub part_of : List ℕ → Field → List ℕ → Option PartKey
part_of connector Feed e = if is_name e then Some (File connector e) else None
part_of connector Feeds e = if is_name e then Some (File connector e) else None
part_of connector Sequences e = option_map (λ n. Seq connector n) (number_in 0 999 e)
part_of connector Count e = None
part_of connector Topic e = None
part_of connector Outlet e = None
part_of connector Topics e = if is_name e then Some (Sink connector e) else None

-- some parts and those of elements, if each names one
abbrev pub parts_behind : List PartKey → List ℕ → Field → List (List ℕ) → Option (List PartKey)
parts_behind found connector field [] = Some found
parts_behind found connector field (e ∷ es) =
    option_and_then (λ part. parts_behind (found ++ part ∷ []) connector field es) (part_of connector field e)

-- what names parts in a value: the whole of a single feed, else each element
abbrev pub pieces : Field → List ℕ → List (List ℕ)
pieces Feed text = text ∷ []
pieces Feeds text = elements text
pieces Sequences text = elements text
pieces Count text = []
pieces Topic text = []
pieces Outlet text = []
pieces Topics text = elements text

-- the parts of elements, if each names one and none stands twice
abbrev pub parts_unless_repeated : List ℕ → Field → List (List ℕ) → Option (List PartKey)
parts_unless_repeated connector field es = if has_repeat es then None else parts_behind [] connector field es

-- the parts that a value names; a repeat is refused
abbrev pub parts_of : List ℕ → Field → List ℕ → Option (List PartKey)
parts_of connector field text = parts_unless_repeated connector field (pieces field text)

-- a task with these parts, if there are some
abbrev pub with_parts : TaskSpec → Option (List PartKey) → Option TaskSpec
with_parts spec found = option_map (λ parts. record spec { parts = parts }) found

-- what a value adds to a task
abbrev pub with_value : List ℕ → TaskSpec → Field → List ℕ → Option TaskSpec
with_value connector spec Feed text = with_parts spec (parts_of connector Feed text)
with_value connector spec Feeds text = with_parts spec (parts_of connector Feeds text)
with_value connector spec Sequences text = with_parts spec (parts_of connector Sequences text)
with_value connector spec Topics text = with_parts spec (parts_of connector Topics text)
with_value connector spec Count text = option_map (λ n. record spec { count = n }) (count text)
with_value connector spec Topic text = if is_name text then Some (record spec { topic = Some text }) else None
with_value connector spec Outlet text = if is_name text then Some (record spec { file = Some text }) else None

-- what the required properties add to a task, if each is there and well formed
abbrev pub with_fields : List ℕ → List (List ℕ × List ℕ) → TaskSpec → List Field → Option TaskSpec
with_fields connector props spec [] = Some spec
with_fields connector props spec (field ∷ more) =
    option_and_then (λ next. with_fields connector props next more)
    (option_and_then (λ text. with_value connector spec field text) (value_in props (key_of field)))

-- a sink has no batch size of its own
abbrev pub task_batch : List (List ℕ × List ℕ) → ClassRow → Option ℕ
task_batch props row = if row.is_source then batch_size props else Some 2000

-- a task with nothing to do yet
abbrev pub idle_task : Class → ℕ → TaskSpec
idle_task class batch = record { class = class; parts = []; topic = None; file = None; batch = batch; count = 0 }

-- a task of a class
abbrev pub task_of_class : List ℕ → List (List ℕ × List ℕ) → Class → Option TaskSpec
task_of_class connector props class =
    option_and_then (λ batch. with_fields connector props (idle_task class batch) (row_of class).fields)
    (task_batch props (row_of class))

-- the task that properties stand for
abbrev pub task_of : List ℕ → List (List ℕ × List ℕ) → Option TaskSpec
task_of connector props =
    option_and_then (λ class. task_of_class connector props class)
    (option_and_then task_class_of (value_in props (codes "task.class")))
