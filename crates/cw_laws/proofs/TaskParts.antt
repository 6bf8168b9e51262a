-- What a task has, by the properties that it stands for: parts of its connector, each once and of its class's kind, and of a source a topic.
use Rattle.std.proofs.Common.{◌≡◌, ℕ, ◌<◌, ◌≤◌, ◌^◌, ◌-◌, ◌∷◌, ◌++◌, [], Bool, true, false, cond, ◌||◌, List, Option, Some, None, option_map, option_and_then, bytes_eq, codes, refl, sym, subst, ap, ◌∙◌, arith, append_assoc, append-nil}
use Rattle.cw_laws.proofs.Lists.{each-weaker}
use Rattle.std.specs.Option.{IsSomeAnd, is_none}
use Rattle.std.specs.List.{AllByRecursion, IsDistinct}
use Rattle.std.proofs.lemmas.Bool.{or_right, false_from_ne_true}
use Rattle.std.proofs.lemmas.Bool.Decides.{nat_tests}
use Rattle.std.proofs.lemmas.Map.Keys.{IsDistinct-cons}
use Rattle.cw_types.specs.Name.{IsName, name_fault}
use Rattle.cw_types.specs.declared.ids.PartKey.{PartKey}
use Rattle.cw_types.specs.declared.ids.PartKey.TheVariants.{File, Seq, Sink}
use Rattle.cw_types.specs.declared.name.NameFault.{NameFault}
use Rattle.cw_types.specs.Same.{same_part}
use Rattle.cw_types.proofs.SameLemmas.{same_part-Decides}
use Rattle.cw_bytes.specs.Spelling.{IsPart}
use Rattle.cw_txn.specs.Allowed.{IsSourceOf, IsSinkOf}
use Rattle.cw_txn.proofs.DistinctParts.{none_distinct}
use Rattle.cw_json.specs.Pairs.{value_in}
use Rattle.cw_plugin.specs.declared.class.Class.{Class}
use Rattle.cw_plugin.specs.declared.class.Class.TheVariants.{FileStreamSource, FileSetSource, SequenceSource, FileStreamSink}
use Rattle.cw_plugin.specs.declared.class.Field.{Field}
use Rattle.cw_plugin.specs.declared.class.Field.TheVariants.{Feed, Feeds, Sequences, Count, Topic, Outlet, Topics}
use Rattle.cw_plugin.specs.declared.task.TaskSpec.{TaskSpec}
use Rattle.cw_plugin.specs.Classes.{row_of, task_class_of, key_of}
use Rattle.cw_plugin.specs.Checks.{is_name}
use Rattle.cw_plugin.specs.Lists.{has_repeat}
use Rattle.cw_plugin.specs.Numbers.{within, number_in, count}
use Rattle.cw_plugin.specs.Parts.{part_of, parts_behind, pieces, parts_of, with_value, with_fields, task_batch, idle_task, task_of_class, task_of}
use Rattle.cw_plugin.proofs.ShareLemmas.{Texts, bytes_same}
use Rattle.cw_plugin.proofs.GroupLemmas.{is_in}
use Rattle.cw_plugin.proofs.TaskLemmas.{one_origin}
use Rattle.cw_plugin.proofs.FaultlessLemmas.{Props}
use Rattle.cw_laws.proofs.Lists.{each-weaker}
use Rattle.cw_types.specs.Decimal.{number_of}
use Rattle.std.proofs.lemmas.Option.{cond_some}

-- ---- what gives something

pub then_some : {A B : Type 0} (f : A → Option B) (o : Option A) (y : B) → option_and_then f o ≡ Some y → (x : A) × (o ≡ Some x) × (f x ≡ Some y)
then_some f None y is = cc
then_some f (Some x) y is = (x, refl, is)

map_some : {A B : Type 0} (f : A → B) (o : Option A) (y : B) → option_map f o ≡ Some y → (x : A) × (o ≡ Some x) × (f x ≡ y)
map_some f None y is = cc
map_some f (Some x) y is = (x, refl, cc)

unless_some : {A : Type 0} (b : Bool) (o : Option A) (y : A) → cond b None o ≡ Some y → (b ≡ false) × (o ≡ Some y)
unless_some true o y is = cc
unless_some false o y is = (refl, is)

same_some : {A : Type 0} (x y : A) → Some x ≡ Some y → x ≡ y
same_some x y is = cc

-- ---- the part of an element

abbrev names_source : Field → Bool
names_source Feed = true
names_source Feeds = true
names_source Sequences = true
names_source Count = false
names_source Topic = false
names_source Outlet = false
names_source Topics = false

part-source : (connector : List ℕ) (field : Field) (e : List ℕ) (p : PartKey) → names_source field ≡ true → part_of connector field e ≡ Some p → IsSourceOf connector p
part-source connector Feed e p of is = subst (IsSourceOf connector) (cond_some (is_name e) (File connector e) p is).1 refl
part-source connector Feeds e p of is = subst (IsSourceOf connector) (cond_some (is_name e) (File connector e) p is).1 refl
part-source connector Sequences e p of is = subst (IsSourceOf connector) (map_some (Seq connector) (number_in 0 999 e) p is).2 refl
part-source connector Count e p of is = cc
part-source connector Topic e p of is = cc
part-source connector Outlet e p of is = cc
part-source connector Topics e p of is = cc

part-sink : (connector e : List ℕ) (p : PartKey) → part_of connector Topics e ≡ Some p → IsSinkOf connector p
part-sink connector e p is = subst (IsSinkOf connector) (cond_some (is_name e) (Sink connector e) p is).1 refl

named-none : (o : Option NameFault) → is_none o ≡ true → o ≡ None
named-none None is = refl
named-none (Some fault) is = cc

pub named : (text : List ℕ) → is_name text ≡ true → IsName text
named text is = named-none (name_fault text) is

within-most : (least most : ℕ) (o : Option ℕ) (n : ℕ) → within least most o ≡ Some n → n ≤ most
within-most least most None n is = cc
within-most least most (Some m) n is = grind (arith, nat_tests)

part-named : (connector : List ℕ) (field : Field) (e : List ℕ) (p : PartKey) → IsName connector → part_of connector field e ≡ Some p → IsPart p
part-named connector Feed e p own is = let it = cond_some (is_name e) (File connector e) p is in subst IsPart it.1 (own, named e it.0)
part-named connector Feeds e p own is = let it = cond_some (is_name e) (File connector e) p is in subst IsPart it.1 (own, named e it.0)
part-named connector Sequences e p own is =
    let it = map_some (Seq connector) (number_in 0 999 e) p is in
    subst IsPart it.2 (own, omega (arith, within-most 0 999 (number_of (2 ^ 32 - 1) e) it.0 it.1))
part-named connector Count e p own is = cc
part-named connector Topic e p own is = cc
part-named connector Outlet e p own is = cc
part-named connector Topics e p own is = let it = cond_some (is_name e) (Sink connector e) p is in subst IsPart it.1 (own, named e it.0)

-- ---- the parts of elements

-- a part is of one of these elements
record IsFrom (connector : List ℕ) (field : Field) (es : Texts) (p : PartKey) : Type 0 where
  element : List ℕ
  there : is_in element es ≡ true
  names : part_of connector field element ≡ Some p

record AreFrom (connector : List ℕ) (field : Field) (es : Texts) (parts : List PartKey) : Type 0 where
  each : AllByRecursion (IsFrom connector field es) parts
  distinct : IsDistinct same_part parts

from-later : (connector : List ℕ) (field : Field) (d : List ℕ) (es : Texts) (p : PartKey) → IsFrom connector field es p → IsFrom connector field (d ∷ es) p
from-later connector field d es p from = record { element = from.element; there = or_right (bytes_eq d from.element) (is_in from.element es) from.there; names = from.names }

gathered : (connector : List ℕ) (field : Field) (found : List PartKey) (es : Texts) (parts : List PartKey) → has_repeat es ≡ false → parts_behind found connector field es ≡ Some parts →
    (own : List PartKey) × (parts ≡ found ++ own) × AreFrom connector field es own
gathered connector field found [] parts once is = ([], sym (append-nil found ∙ same_some found parts is), record { each = tt; distinct = none_distinct })
gathered connector field found (e ∷ es) parts once is =
    let here = then_some (λ (part : PartKey). parts_behind (found ++ part ∷ []) connector field es) (part_of connector field e) parts is in
    let unrepeated = fresh (is_in e es) (has_repeat es) once in
    let rest = gathered connector field (found ++ here.0 ∷ []) es parts unrepeated.1 here.2 in (
      here.0 ∷ rest.0,
      rest.1 ∙ append_assoc found (here.0 ∷ []) rest.0,
      record {
        each = (
          record { element = e; there = ap (λ b. b || is_in e es) (bytes_same e); names = here.1 },
          each-weaker (IsFrom connector field es) (IsFrom connector field (e ∷ es)) rest.0 (from-later connector field e es) rest.2.each,
        );
        distinct = IsDistinct-cons same_part here.0 rest.0
            (each-weaker (IsFrom connector field es) (λ q. same_part here.0 q ≡ false) rest.0 (apart here.0 here.1 unrepeated.0) rest.2.each) rest.2.distinct;
      },
    )
  where
    fresh : (b rest : Bool) → cond b true rest ≡ false → (b ≡ false) × (rest ≡ false)
    fresh true rest repeats = cc
    fresh false rest repeats = (refl, repeats)

    apart : (p : PartKey) → part_of connector field e ≡ Some p → is_in e es ≡ false → (q : PartKey) → IsFrom connector field es q → same_part p q ≡ false
    apart p names new q from = false_from_ne_true (same_part p q) (λ same.
        let one : p ≡ q = (same_part-Decides p q).0 same in
        let element : e ≡ from.element = one_origin connector field e from.element q (names ∙ ap Some one) from.names in
        let there : is_in e es ≡ true = subst (λ x. is_in x es ≡ true) (sym element) from.there in cc)

parts-from : (connector : List ℕ) (field : Field) (text : List ℕ) (parts : List PartKey) → parts_of connector field text ≡ Some parts → AreFrom connector field (pieces field text) parts
parts-from connector field text parts is =
    let once = unless_some (has_repeat (pieces field text)) (parts_behind [] connector field (pieces field text)) parts is in
    let all = gathered connector field [] (pieces field text) parts once.0 once.1 in
    subst (AreFrom connector field (pieces field text)) (sym all.1) all.2

-- ---- the task

-- what holds of a task's spec
pub record IsSpecOf (connector : List ℕ) (spec : TaskSpec) : Type 0 where
  pub source : (row_of spec.class).is_source ≡ true → AllByRecursion (IsSourceOf connector) spec.parts
  pub sink : (row_of spec.class).is_source ≡ false → AllByRecursion (IsSinkOf connector) spec.parts
  pub named : IsName connector → AllByRecursion IsPart spec.parts
  pub distinct : IsDistinct same_part spec.parts
  pub topic : (row_of spec.class).is_source ≡ true → IsSomeAnd spec.topic IsName
  pub count : spec.count < 2 ^ 64

abbrev with_source : Class → ℕ → List PartKey → ℕ → List ℕ → TaskSpec
with_source class batch parts count topic = record { class = class; parts = parts; topic = Some topic; file = None; batch = batch; count = count }

source_spec : (connector : List ℕ) (field : Field) (es : Texts) (class : Class) (batch count : ℕ) (parts : List PartKey) (topic : List ℕ) →
    (row_of class).is_source ≡ true → names_source field ≡ true → AreFrom connector field es parts → count < 2 ^ 64 → is_name topic ≡ true →
    IsSpecOf connector (with_source class batch parts count topic)
source_spec connector field es class batch count parts topic is_source of are few name = record {
  source = λ _. each-weaker (IsFrom connector field es) (IsSourceOf connector) parts (λ p from. part-source connector field from.element p of from.names) are.each;
  sink = λ no_source. cc;
  named = λ own. each-weaker (IsFrom connector field es) IsPart parts (λ p from. part-named connector field from.element p own from.names) are.each;
  distinct = are.distinct;
  topic = λ _. named topic name;
  count = few;
}

sink_spec : (connector : List ℕ) (es : Texts) (batch : ℕ) (parts : List PartKey) (file : List ℕ) → AreFrom connector Topics es parts →
    IsSpecOf connector (record { class = FileStreamSink; parts = parts; topic = None; file = Some file; batch = batch; count = 0 })
sink_spec connector es batch parts file are = record {
  source = λ is_source. cc;
  sink = λ _. each-weaker (IsFrom connector Topics es) (IsSinkOf connector) parts (λ p from. part-sink connector from.element p from.names) are.each;
  named = λ own. each-weaker (IsFrom connector Topics es) IsPart parts (λ p from. part-named connector Topics from.element p own from.names) are.each;
  distinct = are.distinct;
  topic = λ is_source. cc;
  count = omega arith;
}

-- a required property that was read
record Reads (connector : List ℕ) (props : Props) (spec : TaskSpec) (field : Field) (more : List Field) (done : TaskSpec) : Type 0 where
  text : List ℕ
  next : TaskSpec
  value : with_value connector spec field text ≡ Some next
  rest : with_fields connector props next more ≡ Some done

reads : (connector : List ℕ) (props : Props) (spec : TaskSpec) (field : Field) (more : List Field) (done : TaskSpec) → with_fields connector props spec (field ∷ more) ≡ Some done →
    Reads connector props spec field more done
reads connector props spec field more done is =
    let after = then_some (λ (next : TaskSpec). with_fields connector props next more) (option_and_then (λ (text : List ℕ). with_value connector spec field text) (value_in props (key_of field))) done is in
    let value = then_some (λ (text : List ℕ). with_value connector spec field text) (value_in props (key_of field)) after.0 after.1 in
    record { text = value.0; next = after.0; value = value.2; rest = after.2 }

-- a source of parts and a topic
plain_source : (connector : List ℕ) (props : Props) (class : Class) (field : Field) (batch : ℕ) (spec : TaskSpec) → (row_of class).is_source ≡ true → names_source field ≡ true →
    ((spec next : TaskSpec) (text : List ℕ) → with_value connector spec field text ≡ Some next → (parts : List PartKey) × (parts_of connector field text ≡ Some parts) × (record spec { parts = parts } ≡ next)) →
    with_fields connector props (idle_task class batch) (field ∷ Topic ∷ []) ≡ Some spec → IsSpecOf connector spec
plain_source connector props class field batch spec is_source of adds is =
    let one = reads connector props (idle_task class batch) field (Topic ∷ []) spec is in
    let parts = adds (idle_task class batch) one.next one.text one.value in
    let two = reads connector props one.next Topic [] spec one.rest in
    let topic = cond_some (is_name two.text) (record (one.next) { topic = Some two.text }) two.next two.value in
    subst (IsSpecOf connector) (ap (λ (k : TaskSpec). record k { topic = Some two.text }) parts.2 ∙ topic.1 ∙ same_some two.next spec two.rest)
    (source_spec connector field (pieces field one.text) class batch 0 parts.0 two.text is_source of (parts-from connector field one.text parts.0 parts.1) (omega arith) topic.0)

sequence_source : (connector : List ℕ) (props : Props) (batch : ℕ) (spec : TaskSpec) →
    with_fields connector props (idle_task SequenceSource batch) (Sequences ∷ Count ∷ Topic ∷ []) ≡ Some spec → IsSpecOf connector spec
sequence_source connector props batch spec is =
    let one = reads connector props (idle_task SequenceSource batch) Sequences (Count ∷ Topic ∷ []) spec is in
    let parts = map_some (λ (parts : List PartKey). record (idle_task SequenceSource batch) { parts = parts }) (parts_of connector Sequences one.text) one.next one.value in
    let two = reads connector props one.next Count (Topic ∷ []) spec one.rest in
    let many = map_some (λ (n : ℕ). record (one.next) { count = n }) (count two.text) two.next two.value in
    let three = reads connector props two.next Topic [] spec two.rest in
    let topic = cond_some (is_name three.text) (record (two.next) { topic = Some three.text }) three.next three.value in
    subst (IsSpecOf connector)
    (ap (λ (k : TaskSpec). record k { topic = Some three.text; count = many.0 }) parts.2 ∙ ap (λ (k : TaskSpec). record k { topic = Some three.text }) many.2 ∙ topic.1 ∙ same_some three.next spec three.rest)
    (source_spec connector Sequences (pieces Sequences one.text) SequenceSource batch many.0 parts.0 three.text refl refl (parts-from connector Sequences one.text parts.0 parts.1)
    (omega (arith, within-most 0 (2 ^ 32 - 1) (number_of (2 ^ 32 - 1) two.text) many.0 many.1)) topic.0)

stream_sink : (connector : List ℕ) (props : Props) (batch : ℕ) (spec : TaskSpec) → with_fields connector props (idle_task FileStreamSink batch) (Outlet ∷ Topics ∷ []) ≡ Some spec → IsSpecOf connector spec
stream_sink connector props batch spec is =
    let one = reads connector props (idle_task FileStreamSink batch) Outlet (Topics ∷ []) spec is in
    let file = cond_some (is_name one.text) (record (idle_task FileStreamSink batch) { file = Some one.text }) one.next one.value in
    let two = reads connector props one.next Topics [] spec one.rest in
    let parts = map_some (λ (parts : List PartKey). record (one.next) { parts = parts }) (parts_of connector Topics two.text) two.next two.value in
    subst (IsSpecOf connector) (ap (λ (k : TaskSpec). record k { parts = parts.0 }) file.1 ∙ parts.2 ∙ same_some two.next spec two.rest)
    (sink_spec connector (pieces Topics two.text) batch parts.0 one.text (parts-from connector Topics two.text parts.0 parts.1))

spec-of_class : (connector : List ℕ) (props : Props) (class : Class) (batch : ℕ) (spec : TaskSpec) → with_fields connector props (idle_task class batch) (row_of class).fields ≡ Some spec → IsSpecOf connector spec
spec-of_class connector props FileStreamSource batch spec is = plain_source connector props FileStreamSource Feed batch spec refl refl
    (λ from next text value. map_some (λ (parts : List PartKey). record from { parts = parts }) (parts_of connector Feed text) next value) is
spec-of_class connector props FileSetSource batch spec is = plain_source connector props FileSetSource Feeds batch spec refl refl
    (λ from next text value. map_some (λ (parts : List PartKey). record from { parts = parts }) (parts_of connector Feeds text) next value) is
spec-of_class connector props SequenceSource batch spec is = sequence_source connector props batch spec is
spec-of_class connector props FileStreamSink batch spec is = stream_sink connector props batch spec is

-- the task that properties stand for
pub spec-of : (connector : List ℕ) (props : Props) (spec : TaskSpec) → task_of connector props ≡ Some spec → IsSpecOf connector spec
spec-of connector props spec is =
    let class = then_some (λ (class : Class). task_of_class connector props class) (option_and_then task_class_of (value_in props (codes "task.class"))) spec is in
    let batch = then_some (λ (batch : ℕ). with_fields connector props (idle_task class.0 batch) (row_of class.0).fields) (task_batch props (row_of class.0)) spec class.2 in
    spec-of_class connector props class.0 batch.0 spec batch.2
