-- A sink's task has a file to write, and its parts are topics, by what its config asks.
use Rattle.std.proofs.Common.{◌≡◌, ℕ, ◌<◌, ◌∷◌, [], Bool, true, false, not, cond, List, length, Option, Some, None, IsSome, option_map, option_and_then, codes, refl, sym, subst, ap, ◌∙◌}
use Rattle.std.specs.Option.{IsSomeAnd, option_map_or}
use Rattle.std.specs.List.{AllByRecursion}
use Rattle.cw_types.specs.declared.ids.Item.{Item}
use Rattle.cw_types.specs.declared.ids.Item.TheVariants.{Connector, Task}
use Rattle.cw_types.specs.declared.ids.PartKey.{PartKey}
use Rattle.cw_types.specs.declared.ids.PartKey.TheVariants.{Raw, File, Seq, Sink}
use Rattle.cw_types.specs.declared.ids.TaskId.{TaskId}
use Rattle.cw_config.specs.declared.records.ConfigRecord.{ConfigRecord}
use Rattle.cw_json.specs.Pairs.{value_in}
use Rattle.cw_plugin.specs.declared.class.Class.{Class}
use Rattle.cw_plugin.specs.declared.class.Class.TheVariants.{FileStreamSource, FileSetSource, SequenceSource, FileStreamSink}
use Rattle.cw_plugin.specs.declared.class.Field.{Field}
use Rattle.cw_plugin.specs.declared.class.Field.TheVariants.{Feed, Feeds, Sequences, Count, Topic, Outlet, Topics}
use Rattle.cw_plugin.specs.declared.task.TaskSpec.{TaskSpec}
use Rattle.cw_plugin.specs.Checks.{is_name}
use Rattle.cw_plugin.specs.Classes.{row_of, task_class_of, key_of}
use Rattle.cw_plugin.specs.Numbers.{count}
use Rattle.cw_plugin.specs.Parts.{parts_of as parts_named, with_value, with_fields, task_batch, idle_task, task_of_class, task_of}
use Rattle.cw_txn.specs.Allowed.{IsSinkOf}
use Rattle.cw_model.specs.declared.instance.Instance.{Instance}
use Rattle.cw_model.specs.Facts.{AreFacts}
use Rattle.cw_model.specs.FactsRows.{IsSoundInstance, IsOfItem, IsConnectorInstance, IsTaskSpecOf}
use Rattle.cw_model.specs.Lookups.{instance_of, no_instance}
use Rattle.cw_model.specs.State.{Setting, Cluster}
use Rattle.cw_model.specs.Tasks.{parts_of, is_sink, is_source}
use Rattle.cw_laws.proofs.AtWork.{HasSpec, has_spec, parts-spec}
use Rattle.cw_laws.proofs.Lists.{each-at, each-weaker}
use Rattle.cw_ticks.specs.Polled.{IsTopic}
use Rattle.cw_sinktask.specs.Gathered.{HasFile}
use Rattle.cw_laws.proofs.TaskParts.{then_some}

-- ---- the file of a sink's config

map-some : {A B : Type 0} (f : A → B) (o : Option A) (y : B) → option_map f o ≡ Some y → (x : A) × (o ≡ Some x) × (f x ≡ y)
map-some f None y is = absurd (cc)
map-some f (Some x) y is = (x, refl, cc)

if-some : {A : Type 0} (b : Bool) (x y : A) → cond b (Some x) None ≡ Some y → x ≡ y
if-some true x y is = cc
if-some false x y is = absurd (cc)

module _ (connector : List ℕ) (props : List (List ℕ × List ℕ)) where
  stream-file : (batch : ℕ) (spec : TaskSpec) → with_fields connector props (idle_task FileStreamSink batch) (Outlet ∷ Topics ∷ []) ≡ Some spec → IsSome spec.file
  stream-file batch spec is =
      let idle = idle_task FileStreamSink batch in
      let one = then_some (λ (next : TaskSpec). with_fields connector props next (Topics ∷ [])) (option_and_then (λ text. with_value connector idle Outlet text) (value_in props (key_of Outlet))) spec is in
      let text = then_some (λ (t : List ℕ). with_value connector idle Outlet t) (value_in props (key_of Outlet)) one.0 one.1 in
      let file : record idle { file = Some text.0 } ≡ one.0 = if-some (is_name text.0) (record idle { file = Some text.0 }) one.0 text.2 in
      let two = then_some (λ (next : TaskSpec). with_fields connector props next []) (option_and_then (λ t. with_value connector one.0 Topics t) (value_in props (key_of Topics))) spec one.2 in
      let topics = then_some (λ (t : List ℕ). with_value connector one.0 Topics t) (value_in props (key_of Topics)) two.0 two.1 in
      let parts = map-some (λ (parts : List PartKey). record (one.0) { parts = parts }) (parts_named connector Topics topics.0) two.0 topics.2 in
      let whole : two.0 ≡ spec = cc in
      subst (λ (k : TaskSpec). IsSome k.file) whole (subst (λ (k : TaskSpec). IsSome k.file) {x = record (one.0) { parts = parts.0 }} parts.2 (subst (λ (k : TaskSpec). IsSome k.file) {x = record idle { file = Some text.0 }} file refl))

  -- no property changes the class
  parts-class : (spec next : TaskSpec) (o : Option (List PartKey)) → option_map (λ (parts : List PartKey). record spec { parts = parts }) o ≡ Some next → next.class ≡ spec.class
  parts-class spec next o is = sym (ap (λ (k : TaskSpec). k.class) (map-some (λ (parts : List PartKey). record spec { parts = parts }) o next is).2)

  value-class : (field : Field) (text : List ℕ) (spec next : TaskSpec) → with_value connector spec field text ≡ Some next → next.class ≡ spec.class
  value-class Feed text spec next is = parts-class spec next (parts_named connector Feed text) is
  value-class Feeds text spec next is = parts-class spec next (parts_named connector Feeds text) is
  value-class Sequences text spec next is = parts-class spec next (parts_named connector Sequences text) is
  value-class Topics text spec next is = parts-class spec next (parts_named connector Topics text) is
  value-class Count text spec next is = sym (ap (λ (k : TaskSpec). k.class) (map-some (λ (n : ℕ). record spec { count = n }) (count text) next is).2)
  value-class Topic text spec next is = sym (ap (λ (k : TaskSpec). k.class) (if-some (is_name text) (record spec { topic = Some text }) next is))
  value-class Outlet text spec next is = sym (ap (λ (k : TaskSpec). k.class) (if-some (is_name text) (record spec { file = Some text }) next is))

  fields-class : (fields : List Field) (spec done : TaskSpec) → with_fields connector props spec fields ≡ Some done → done.class ≡ spec.class
  fields-class [] spec done is = let same : spec ≡ done = cc in sym (ap (λ (k : TaskSpec). k.class) same)
  fields-class (field ∷ more) spec done is =
      let next = then_some (λ (next : TaskSpec). with_fields connector props next more) (option_and_then (λ text. with_value connector spec field text) (value_in props (key_of field))) done is in
      let text = then_some (λ (t : List ℕ). with_value connector spec field t) (value_in props (key_of field)) next.0 next.1 in
      fields-class more next.0 done next.2 ∙ value-class field text.0 spec next.0 text.2

  source-class : (class : Class) (spec : TaskSpec) → spec.class ≡ class → (row_of class).is_source ≡ true → (row_of spec.class).is_source ≡ false → IsSome spec.file
  source-class class spec same source sink = absurd (let other : (row_of class).is_source ≡ false = subst (λ (c : Class). (row_of c).is_source ≡ false) same sink in cc)

  class-file : (class : Class) (batch : ℕ) (spec : TaskSpec) → with_fields connector props (idle_task class batch) (row_of class).fields ≡ Some spec →
      (row_of spec.class).is_source ≡ false → IsSome spec.file
  class-file FileStreamSource batch spec is sink = source-class FileStreamSource spec (fields-class (row_of FileStreamSource).fields (idle_task FileStreamSource batch) spec is) refl sink
  class-file FileSetSource batch spec is sink = source-class FileSetSource spec (fields-class (row_of FileSetSource).fields (idle_task FileSetSource batch) spec is) refl sink
  class-file SequenceSource batch spec is sink = source-class SequenceSource spec (fields-class (row_of SequenceSource).fields (idle_task SequenceSource batch) spec is) refl sink
  class-file FileStreamSink batch spec is sink = stream-file batch spec is

  pub spec-file : (spec : TaskSpec) → task_of connector props ≡ Some spec → (row_of spec.class).is_source ≡ false → IsSome spec.file
  spec-file spec is =
      let class = then_some (λ (class : Class). task_of_class connector props class) (option_and_then task_class_of (value_in props (codes "task.class"))) spec is in
      let batch = then_some (λ (batch : ℕ). with_fields connector props (idle_task class.0 batch) (row_of class.0).fields) (task_batch props (row_of class.0)) spec class.2 in
      class-file class.0 batch.0 spec batch.2

-- ---- a sink's task

-- its parts are topics, and it has a file
pub record IsSinkTask (i : Instance) : Type 0 where
  pub topics : AllByRecursion IsTopic (parts_of i)
  pub file : HasFile i

sink-topic : (connector : List ℕ) (p : PartKey) → IsSinkOf connector p → IsTopic p
sink-topic connector (Raw n) own = own
sink-topic connector (File a feed) own = own
sink-topic connector (Seq a index) own = own
sink-topic connector (Sink a topic) own = tt

not-true : (b : Bool) → not b ≡ true → b ≡ false
not-true true is = absurd (cc)
not-true false is = refl

of-spec : (o : Option TaskSpec) (spec : TaskSpec) → o ≡ Some spec → option_map_or (λ (t : TaskSpec). not (row_of t.class).is_source) o false ≡ true → (row_of spec.class).is_source ≡ false
of-spec o spec is sink = not-true (row_of spec.class).is_source (subst (λ (o : Option TaskSpec). option_map_or (λ (t : TaskSpec). not (row_of t.class).is_source) o false ≡ true) is sink)

task-sink : (id : TaskId) (i : Instance) → IsSomeAnd i.task (IsTaskSpecOf id.connector) → is_sink i ≡ true → IsSinkTask i
task-sink id i asks sink =
    let has : HasSpec id i = has_spec id i asks in
    let none : (row_of has.spec.class).is_source ≡ false = of-spec i.task has.spec has.has sink in
    record {
      topics = subst (λ (parts : List PartKey). AllByRecursion IsTopic parts) (sym (parts-spec id i has)) (each-weaker (IsSinkOf id.connector) IsTopic has.spec.parts (sink-topic id.connector) (has.is.sink none));
      file = at i.task refl asks;
    }
  where
    at : (o : Option TaskSpec) → i.task ≡ o → IsSomeAnd o (IsTaskSpecOf id.connector) → HasFile i
    at None is none = absurd none
    at (Some spec) is asked = subst (λ (o : Option TaskSpec). IsSome (option_and_then (λ (t : TaskSpec). t.file) o)) (sym is)
        (spec-file id.connector asked.properties spec asked.asked (of-spec i.task spec is sink))

no-sink : (j : Instance) → IsConnectorInstance j → is_sink j ≡ false
no-sink j own = ap (λ (o : Option TaskSpec). option_map_or (λ (t : TaskSpec). not (row_of t.class).is_source) o false) own.task

item-sink : (records : List ConfigRecord) (item : Item) (j : Instance) → IsOfItem records item j → is_sink j ≡ true → IsSinkTask j
item-sink records (Connector name) j own sink = let none : is_sink j ≡ false = no-sink j own in absurd (cc)
item-sink records (Task id) j own sink = task-sink id j own.task sink

module _ (setting : Setting) (s : Cluster) (i : ℕ) (within : i < length s.instances) (facts : AreFacts setting s) where
  pub sound : IsSoundInstance s (instance_of i s)
  sound = each-at (IsSoundInstance s) s.instances i no_instance within facts.rows.instances

  pub sink-task : is_sink (instance_of i s) ≡ true → IsSinkTask (instance_of i s)
  sink-task sink = item-sink s.configs (instance_of i s).item (instance_of i s) sound.of_item sink

-- no task is of both kinds
pub not-both : (i : Instance) → is_sink i ≡ true → is_source i ≡ true → ⊥
not-both i sink source = at i.task sink source where
  at : (o : Option TaskSpec) → option_map_or (λ (t : TaskSpec). not (row_of t.class).is_source) o false ≡ true → option_map_or (λ (t : TaskSpec). (row_of t.class).is_source) o false ≡ true → ⊥
  at None first second = cc
  at (Some spec) first second = let none : (row_of spec.class).is_source ≡ false = not-true (row_of spec.class).is_source first in cc
