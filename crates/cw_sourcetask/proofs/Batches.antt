-- A task takes at least one record at a time, since its properties allow no batch of none; and one that polls and is no
-- sink's is a source's.
use Rattle.std.proofs.Common.{◌≡◌, ℕ, ◌<◌, ◌≤◌, ◌-◌, ◌^◌, List, [], ◌∷◌, Bool, true, false, cond, Option, Some, None, option_map, option_and_then, codes, refl, sym, ◌∙◌, ap, subst, arith}
use Rattle.std.specs.Option.{IsSomeAnd, option_map_or}
use Rattle.std.proofs.lemmas.Bool.Decides.{nat_tests}
use Rattle.cw_types.specs.Decimal.{number_of}
use Rattle.cw_types.specs.declared.ids.Item.{Item}
use Rattle.cw_types.specs.declared.ids.Item.TheVariants.{Connector, Task}
use Rattle.cw_types.specs.declared.ids.PartKey.{PartKey}
use Rattle.cw_json.specs.Pairs.{value_in}
use Rattle.cw_config.specs.declared.records.ConfigRecord.{ConfigRecord}
use Rattle.cw_plugin.specs.declared.class.Class.{Class}
use Rattle.cw_plugin.specs.declared.class.Field.{Field}
use Rattle.cw_plugin.specs.declared.class.Field.TheVariants.{Feed, Feeds, Sequences, Count, Topic, Outlet, Topics}
use Rattle.cw_plugin.specs.declared.task.TaskSpec.{TaskSpec}
use Rattle.cw_plugin.specs.Checks.{is_name}
use Rattle.cw_plugin.specs.Classes.{row_of, task_class_of, key_of}
use Rattle.cw_plugin.specs.Numbers.{within, or_default, batch_size, count}
use Rattle.cw_plugin.specs.Parts.{parts_of, with_value, with_fields, task_batch, idle_task, task_of_class, task_of}
use Rattle.cw_laws.proofs.Runs.{lives-sound}
use Rattle.cw_model.specs.declared.instance.Instance.{Instance}
use Rattle.cw_model.specs.declared.instance.InstancePhase.TheVariants as phase
use Rattle.cw_model.specs.State.{Setting, Cluster}
use Rattle.cw_model.specs.Facts.{AreFacts}
use Rattle.cw_model.specs.FactsRows.{IsSoundInstance, IsOfItem, IsTaskSpecOf}
use Rattle.cw_model.specs.Lookups.{instance_of}
use Rattle.cw_model.specs.Phases.{is_working}
use Rattle.cw_model.specs.Tasks.{batch_limit_of, is_source, is_sink}
use Rattle.cw_laws.proofs.TaskParts.{then_some}
use Rattle.cw_laws.proofs.TaskSteps.{source-or-sink}

abbrev Props : Type 0
Props = List (List ℕ × List ℕ)

-- ---- what gives something

-- ---- no property changes the batch

-- a task of the batch of another
abbrev HasBatch : TaskSpec → Option TaskSpec → Type 0
HasBatch spec next = (made : TaskSpec) → next ≡ Some made → made.batch ≡ spec.batch

mapped : {A : Type 0} (spec : TaskSpec) (f : A → TaskSpec) (o : Option A) → ((x : A) → (f x).batch ≡ spec.batch) → HasBatch spec (option_map f o)
mapped spec f None same made is = cc
mapped spec f (Some x) same made is = let one : f x ≡ made = cc in ap (λ (t : TaskSpec). t.batch) (sym one) ∙ same x

chosen : (spec next : TaskSpec) (b : Bool) → next.batch ≡ spec.batch → HasBatch spec (cond b (Some next) None)
chosen spec next true same made is = let one : next ≡ made = cc in ap (λ (t : TaskSpec). t.batch) (sym one) ∙ same
chosen spec next false same made is = cc

value-batch : (connector : List ℕ) (spec : TaskSpec) (field : Field) (text : List ℕ) → HasBatch spec (with_value connector spec field text)
value-batch connector spec Feed text = mapped spec (λ (parts : List PartKey). record spec { parts = parts }) (parts_of connector Feed text) (λ parts. refl)
value-batch connector spec Feeds text = mapped spec (λ (parts : List PartKey). record spec { parts = parts }) (parts_of connector Feeds text) (λ parts. refl)
value-batch connector spec Sequences text = mapped spec (λ (parts : List PartKey). record spec { parts = parts }) (parts_of connector Sequences text) (λ parts. refl)
value-batch connector spec Topics text = mapped spec (λ (parts : List PartKey). record spec { parts = parts }) (parts_of connector Topics text) (λ parts. refl)
value-batch connector spec Count text = mapped spec (λ (n : ℕ). record spec { count = n }) (count text) (λ n. refl)
value-batch connector spec Topic text = chosen spec (record spec { topic = Some text }) (is_name text) refl
value-batch connector spec Outlet text = chosen spec (record spec { file = Some text }) (is_name text) refl

fields-batch : (connector : List ℕ) (props : Props) (spec : TaskSpec) (fields : List Field) → HasBatch spec (with_fields connector props spec fields)
fields-batch connector props spec [] made is = let one : spec ≡ made = cc in ap (λ (t : TaskSpec). t.batch) (sym one)
fields-batch connector props spec (field ∷ more) made is =
    let next = then_some (λ (next : TaskSpec). with_fields connector props next more) (option_and_then (λ (text : List ℕ). with_value connector spec field text) (value_in props (key_of field))) made is in
    let value = then_some (λ (text : List ℕ). with_value connector spec field text) (value_in props (key_of field)) next.0 next.1 in
    fields-batch connector props next.0 more made next.2 ∙ value-batch connector spec field value.0 next.0 value.2

-- ---- a batch is of some

within-least : (least most : ℕ) (o : Option ℕ) (n : ℕ) → within least most o ≡ Some n → least ≤ n
within-least least most None n is = cc
within-least least most (Some m) n is = grind (arith, nat_tests)

size-some : (o : Option (List ℕ)) (n : ℕ) → or_default 1 100000 2000 o ≡ Some n → 0 < n
size-some None n is = let same : 2000 ≡ n = cc in omega (arith, same)
size-some (Some text) n is = omega (arith, within-least 1 100000 (number_of (2 ^ 32 - 1) text) n is)

batch-some : (props : Props) (class : Class) (n : ℕ) → task_batch props (row_of class) ≡ Some n → 0 < n
batch-some props class n is = either (row_of class).is_source is where
  either : (b : Bool) → cond b (batch_size props) (Some 2000) ≡ Some n → 0 < n
  either true some = size-some (value_in props (codes "batch.size")) n some
  either false some = let same : 2000 ≡ n = cc in omega (arith, same)

pub task-some : (connector : List ℕ) (props : Props) (spec : TaskSpec) → task_of connector props ≡ Some spec → 0 < spec.batch
task-some connector props spec is =
    let class = then_some (λ (class : Class). task_of_class connector props class) (option_and_then task_class_of (value_in props (codes "task.class"))) spec is in
    let batch = then_some (λ (batch : ℕ). with_fields connector props (idle_task class.0 batch) (row_of class.0).fields) (task_batch props (row_of class.0)) spec class.2 in
    subst (λ (n : ℕ). 0 < n) (sym (fields-batch connector props (idle_task class.0 batch.0) (row_of class.0).fields spec batch.2)) (batch-some props class.0 batch.0 batch.1)

-- ---- an instance

-- a task at work has a batch of some
of-task : (connector : List ℕ) (task : Option TaskSpec) → IsSomeAnd task (IsTaskSpecOf connector) → 0 < option_map_or (λ t. t.batch) task 0
of-task connector None none = absurd none
of-task connector (Some spec) asked = task-some connector asked.properties spec asked.asked

works-some : (records : List ConfigRecord) (item : Item) (i : Instance) → is_working i.phase ≡ true → IsOfItem records item i → 0 < batch_limit_of i
works-some records (Connector name) i works o = absurd (let idle : is_working i.phase ≡ false = o.idle in cc)
works-some records (Task id) i works o = of-task id.connector i.task o.task

module _ (setting : Setting) (s : Cluster) (i : ℕ) (facts : AreFacts setting s) where
  abbrev own : Instance
  own = instance_of i s

  polls-sound : own.phase ≡ phase.Polling → IsSoundInstance s own
  polls-sound polling = lives-sound s facts.rows i (rw polling refl)

  pub polls-some : own.phase ≡ phase.Polling → 0 < batch_limit_of own
  polls-some polling = works-some s.configs own.item own (rw polling refl) (polls-sound polling).of_item

  pub polls-source : own.phase ≡ phase.Polling → is_sink own ≡ false → is_source own ≡ true
  polls-source polling source = source-or-sink s.configs own.item own (rw polling refl) (polls-sound polling).of_item source
