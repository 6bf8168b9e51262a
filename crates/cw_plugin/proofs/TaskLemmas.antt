-- A task of built properties: what its keys have, and what it reads or writes.
use Rattle.std.proofs.Common.{◌≡◌, ℕ, zero, suc, ◌^◌, ◌-◌, ◌<◌, ◌≤◌, List, [], ◌∷◌, ◌++◌, Bool, true, false, cond, Option, Some, None, option_map, option_and_then, bytes_eq, codes, decimal, Contains, IsSome, refl, sym, ap, ◌∙◌, subst, inl, inr, ◌⊎◌, arith, append_assoc, append-nil, ◌||◌}
use Rattle.std.specs.Option.{option_map_or, is_some}
use Rattle.std.specs.List.{filter_map, cons_option}
use Rattle.std.proofs.lemmas.Bool.{or_right}
use Rattle.std.proofs.lemmas.Bool.Decides.{nat_tests}
use Rattle.cw_types.specs.declared.ids.PartKey.{PartKey}
use Rattle.cw_types.specs.declared.ids.PartKey.TheVariants.{File, Seq, Sink}
use Rattle.cw_types.specs.Decimal.{number_of}
use Rattle.cw_types.proofs.Decimals.{number_again, number_only}
use Rattle.cw_json.specs.Pairs.{value_in}
use Rattle.cw_plugin.specs.declared.class.Class.{Class}
use Rattle.cw_plugin.specs.declared.class.Field.{Field}
use Rattle.cw_plugin.specs.declared.class.Field.TheVariants.{Feed, Feeds, Sequences, Count, Topic, Outlet, Topics}
use Rattle.cw_plugin.specs.declared.class.TaskField.{TaskField}
use Rattle.cw_plugin.specs.declared.task.TaskSpec.{TaskSpec}
use Rattle.cw_plugin.specs.Classes.{ClassRow, row_of, task_class_of, key_of, task_key}
use Rattle.cw_plugin.specs.Checks.{is_name}
use Rattle.cw_plugin.specs.Numbers.{within, number_in, sequences}
use Rattle.cw_plugin.specs.Parts.{part_of, parts_behind, with_value, with_fields, task_batch, idle_task, task_of_class, task_of}
use Rattle.cw_plugin.specs.Tasks.{task_value, task_pair, task_config, parts_at, ShareNone}
use Rattle.cw_plugin.proofs.ShareLemmas.{Texts, bytes_same}
use Rattle.cw_plugin.proofs.GroupLemmas.{Each, is_in, Apart}
use Rattle.cw_plugin.proofs.FaultlessLemmas.{Props}

-- ---- what a key has in built properties

abbrev pub or_later : Option (List ℕ) → Option (List ℕ) → Option (List ℕ)
or_later None later = later
or_later (Some text) later = Some text

abbrev pub looked_up : Props → ClassRow → List ℕ → List TaskField → List ℕ → Option (List ℕ)
looked_up props row share [] key = None
looked_up props row share (f ∷ fs) key =
    cond (bytes_eq (task_key f) key) (or_later (task_value props row share f) (looked_up props row share fs key)) (looked_up props row share fs key)

one_up : (k key : List ℕ) (value : Option (List ℕ)) (rest : Props) (b : Bool) → bytes_eq k key ≡ b
    → value_in (cons_option (option_map (λ v. (k, v)) value) rest) key ≡ cond b (or_later value (value_in rest key)) (value_in rest key)
one_up k key None rest true is = refl
one_up k key None rest false is = refl
one_up k key (Some v) rest true is = ap (λ b. cond b (Some v) (value_in rest key)) is
one_up k key (Some v) rest false is = ap (λ b. cond b (Some v) (value_in rest key)) is

all_up : (props : Props) (row : ClassRow) (share : List ℕ) (fs : List TaskField) (key : List ℕ) → value_in (filter_map (task_pair props row share) fs) key ≡ looked_up props row share fs key
all_up props row share [] key = refl
all_up props row share (f ∷ fs) key =
    one_up (task_key f) key (task_value props row share f) (filter_map (task_pair props row share) fs) (bytes_eq (task_key f) key) refl
    ∙ ap (λ later. cond (bytes_eq (task_key f) key) (or_later (task_value props row share f) later) later) (all_up props row share fs key)

pub value_in-task_config : (props : Props) (row : ClassRow) (share key : List ℕ) → value_in (task_config props row share) key ≡ looked_up props row share row.task_fields key
unfolding task_config
value_in-task_config props row share key = all_up props row share row.task_fields key

pub no_later : (value : Option (List ℕ)) → or_later value None ≡ value
no_later None = refl
no_later (Some v) = refl

-- ---- the parts of elements

pub record HasParts (connector : List ℕ) (field : Field) (es : Texts) (parts : List PartKey) : Type 0 where
  pub origin : (p : PartKey) → Contains parts p → (e : List ℕ) × (is_in e es ≡ true) × (part_of connector field e ≡ Some p)
  pub all : parts ≡ filter_map (part_of connector field) es

first_or_later : (q p : PartKey) (ps : List PartKey) → Contains (q ∷ ps) p → (q ≡ p) ⊎ Contains ps p
first_or_later q p ps (zero, within, is) = inl is
first_or_later q p ps (suc k, within, is) = inr (k, omega arith, is)

the_part : (o : Option PartKey) → is_some o ≡ true → (p : PartKey) × (o ≡ Some p)
the_part None e = cc
the_part (Some p) e = (p, refl)

-- elements of which each names a part have parts, each of which comes from one
pub parts_there : (connector : List ℕ) (field : Field) (found : List PartKey) (es : Texts) → Each (λ e. IsSome (part_of connector field e)) es
    → (parts : List PartKey) × (parts_behind found connector field es ≡ Some (found ++ parts)) × HasParts connector field es parts
parts_there connector field found [] all = ([], ap Some (sym (append-nil found)), record { origin = λ p inside. absurd (omega (arith, inside.1)); all = refl })
parts_there connector field found (e ∷ es) all =
    let here = the_part (part_of connector field e) all.0 in
    let rest = parts_there connector field (found ++ here.0 ∷ []) es all.1 in (
      here.0 ∷ rest.0,
      ap (λ o. option_and_then (λ part. parts_behind (found ++ part ∷ []) connector field es) o) here.1 ∙ rest.1 ∙ ap Some (append_assoc found (here.0 ∷ []) rest.0),
      record {
        origin = λ p inside. elim (first_or_later here.0 p rest.0 inside) [
          | inl is ↦ (e, ap (λ b. b || is_in e es) (bytes_same e), here.1 ∙ ap Some is)
          | inr later ↦ let it = rest.2.origin p later in (it.0, or_right (bytes_eq e it.0) (is_in it.0 es) it.1, it.2)
        ];
        all = ap (λ ps. here.0 ∷ ps) rest.2.all ∙ ap (λ o. cons_option o (filter_map (part_of connector field) es)) (sym here.1);
      },
    )

named : (connector e : List ℕ) (b : Bool) (make : List ℕ → PartKey) (p : PartKey) → cond b (Some (make e)) None ≡ Some p → make e ≡ p
named connector e true make p is = cc
named connector e false make p is = cc

numbered : (connector : List ℕ) (n : Option ℕ) (p : PartKey) → option_map (λ i. Seq connector i) n ≡ Some p → (i : ℕ) × (n ≡ Some i) × (p ≡ Seq connector i)
numbered connector None p is = cc
numbered connector (Some i) p is = (i, refl, cc)

within_is : (least most : ℕ) (o : Option ℕ) (n : ℕ) → within least most o ≡ Some n → (o ≡ Some n) × (n ≤ most)
within_is least most None n e = cc
within_is least most (Some m) n e = grind (arith, nat_tests)

number_text : (e : List ℕ) (i : ℕ) → number_in 0 999 e ≡ Some i → e ≡ decimal i
number_text e i is = (number_only (2 ^ 32 - 1) i e (omega arith) (within_is 0 999 (number_of (2 ^ 32 - 1) e) i is).0).0

-- a part comes from one element
pub one_origin : (connector : List ℕ) (field : Field) (d e : List ℕ) (p : PartKey) → part_of connector field d ≡ Some p → part_of connector field e ≡ Some p → d ≡ e
one_origin connector Feed d e p x y =
    let a : File connector d ≡ p = named connector d (is_name d) (File connector) p x in
    let b : File connector e ≡ p = named connector e (is_name e) (File connector) p y in cc
one_origin connector Feeds d e p x y =
    let a : File connector d ≡ p = named connector d (is_name d) (File connector) p x in
    let b : File connector e ≡ p = named connector e (is_name e) (File connector) p y in cc
one_origin connector Sequences d e p x y =
    let a = numbered connector (number_in 0 999 d) p x in
    let b = numbered connector (number_in 0 999 e) p y in
    let same : Seq connector a.0 ≡ Seq connector b.0 = sym a.2 ∙ b.2 in
    let number : a.0 ≡ b.0 = cc in
    number_text d a.0 a.1 ∙ ap decimal number ∙ sym (number_text e b.0 b.1)
one_origin connector Count d e p x y = cc
one_origin connector Topic d e p x y = cc
one_origin connector Outlet d e p x y = cc
one_origin connector Topics d e p x y =
    let a : Sink connector d ≡ p = named connector d (is_name d) (Sink connector) p x in
    let b : Sink connector e ≡ p = named connector e (is_name e) (Sink connector) p y in cc

pub sequences_few : (text : List ℕ) (n : ℕ) → sequences text ≡ Some n → n ≤ 1000
sequences_few text n e = (within_is 1 1000 (number_of (2 ^ 32 - 1) text) n e).1

pub number_named : (k : ℕ) → k < 1000 → number_in 0 999 (decimal k) ≡ Some k
number_named k small = ap (within 0 999) (number_again (2 ^ 32 - 1) k (omega arith) (omega arith)) ∙ in_range k small where
  in_range : (k : ℕ) → k < 1000 → within 0 999 (Some k) ≡ Some k
  in_range k small = grind (arith, nat_tests)

-- ---- the task of built properties

-- properties whose task has parts of these elements
pub record IsTaskOf (connector : List ℕ) (field : Field) (es : Texts) (config : Props) : Type 0 where
  pub task : TaskSpec
  pub is : task_of connector config ≡ Some task
  pub parts : HasParts connector field es task.parts

pub task_there : (connector : List ℕ) (field : Field) (es : Texts) (config : Props) → IsTaskOf connector field es config → IsSome (task_of connector config)
task_there connector field es config of = ap is_some of.is

parts_are : (connector : List ℕ) (field : Field) (es : Texts) (config : Props) (of : IsTaskOf connector field es config) → parts_at connector config ≡ of.task.parts
unfolding parts_at
parts_are connector field es config of = ap (λ o. option_map_or (λ (task : TaskSpec). task.parts) o []) of.is

-- the parts of a task are those of its elements
pub parts_all : (connector : List ℕ) (field : Field) (es : Texts) (config : Props) → IsTaskOf connector field es config
    → parts_at connector config ≡ filter_map (part_of connector field) es
parts_all connector field es config of = parts_are connector field es config of ∙ of.parts.all

-- tasks of elements that are apart share no part
pub share_none : (connector : List ℕ) (field : Field) (g h : Texts) (a b : Props) → IsTaskOf connector field g a → IsTaskOf connector field h b → Apart g h → ShareNone (parts_at connector a) (parts_at connector b)
share_none connector field g h a b of_a of_b apart p in_a in_b =
    let from_a = of_a.parts.origin p (subst (λ ps. Contains ps p) (parts_are connector field g a of_a) in_a) in
    let from_b = of_b.parts.origin p (subst (λ ps. Contains ps p) (parts_are connector field h b of_b) in_b) in
    let same : from_a.0 ≡ from_b.0 = one_origin connector field from_a.0 from_b.0 p from_a.2 from_b.2 in
    apart from_b.0 (subst (λ e. is_in e g ≡ true) same from_a.1) from_b.1

-- one more required property
pub field_next : (connector : List ℕ) (config : Props) (spec next : TaskSpec) (field : Field) (more : List Field) (text : List ℕ) (made : Option TaskSpec)
    → value_in config (key_of field) ≡ Some text → with_value connector spec field text ≡ Some next → with_fields connector config next more ≡ made
    → with_fields connector config spec (field ∷ more) ≡ made
field_next connector config spec next field more text made is value rest =
    ap (λ o. option_and_then (λ it. with_fields connector config it more) (option_and_then (λ t. with_value connector spec field t) o)) is
    ∙ ap (λ o. option_and_then (λ it. with_fields connector config it more) o) value
    ∙ rest

-- the task of properties, by their class, batch size and required properties
pub task_is : (connector : List ℕ) (config : Props) (class : Class) (batch : ℕ) (task : TaskSpec)
    → value_in config (codes "task.class") ≡ Some (row_of class).task → task_class_of (row_of class).task ≡ Some class
    → task_batch config (row_of class) ≡ Some batch → with_fields connector config (idle_task class batch) (row_of class).fields ≡ Some task
    → task_of connector config ≡ Some task
task_is connector config class batch task called own size fields =
    ap (λ o. option_and_then (λ c. task_of_class connector config c) (option_and_then task_class_of o)) called
    ∙ ap (λ o. option_and_then (λ c. task_of_class connector config c) o) own
    ∙ ap (λ o. option_and_then (λ n. with_fields connector config (idle_task class n) (row_of class).fields) o) size
    ∙ fields
