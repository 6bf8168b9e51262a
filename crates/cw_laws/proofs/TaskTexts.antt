-- The properties of a connector's tasks are ones that a record can hold: their keys rise, and their texts are UTF-8
-- where the connector's are; and there are at most 1,000 of them.
use Rattle.std.proofs.Common.{◌≡◌, ℕ, zero, suc, ◌+◌, ◌-◌, ◌/◌, ◌%◌, ◌≤◌, ◌^◌, ◌++◌, ◌∷◌, [], Bool, true, false, not, cond, min, List, Option, Some, None, length, map, take, drop, codes, decimal, unwrap_or, option_map, bytes_eq, slice_index, refl, sym, subst, ap, arith, length-append}
use Rattle.std.specs.Option.{option_map_or}
use Rattle.std.specs.List.{AllByRecursion, filter, filter_map, cons_option, join_with_byte, range_with_len}
use Rattle.std.specs.Str.{IsUtf8, IsCharBoundary}
use Rattle.std.specs.Ordering.{nat_cmp}
use Rattle.std.specs.Cmp.Lexicographic.{slice_cmp}
use Rattle.std.specs.declared.cmp.Ordering.TheVariants.{Less}
use Rattle.std.proofs.Math.Seq.{take-append_seam, drop-append-add}
use Rattle.std.proofs.lemmas.List.{length-map}
use Rattle.std.proofs.lemmas.List.Splits.{join_with_byte-slice_split}
use Rattle.std.proofs.lemmas.Bool.Decides.{nat_tests}
use Rattle.std.proofs.lemmas.Str.{IsUtf8-append, IsUtf8-nil, IsUtf8-take, IsUtf8-drop, IsCharBoundary-after_ascii}
use Rattle.cw_json.specs.Pairs.{value_in}
use Rattle.cw_json.specs.Plain.{AreTexts}
use Rattle.cw_json.specs.Rising.{IsRising}
use Rattle.cw_types.specs.Decimal.{number_of}
use Rattle.cw_plugin.specs.declared.class.Class.{Class}
use Rattle.cw_plugin.specs.declared.class.Class.TheVariants.{FileStreamSource, FileSetSource, SequenceSource, FileStreamSink}
use Rattle.cw_plugin.specs.declared.class.Field.{Field}
use Rattle.cw_plugin.specs.declared.class.Field.TheVariants.{Feed, Feeds, Sequences, Count, Topic, Outlet, Topics}
use Rattle.cw_plugin.specs.declared.class.TaskField.{TaskField}
use Rattle.cw_plugin.specs.declared.class.TaskField.TheVariants.{TaskClass, BatchSize, Whole, Group}
use Rattle.cw_plugin.specs.Classes.{ClassRow, row_of, key_of, task_key}
use Rattle.cw_plugin.specs.Lists.{elements}
use Rattle.cw_plugin.specs.Numbers.{within, or_default, sequences}
use Rattle.cw_plugin.specs.Tasks.{once, shared_in, groups, parted_up_to, share_count, shares, task_value, task_pair, task_config, configs_of_class, class_in, task_configs}
use Rattle.cw_laws.proofs.Reports.{literal-utf8, decimal-utf8}
use Rattle.cw_data.proofs.Waiting.{each_dropped}
use Rattle.cw_data.proofs.Lists.{each_taken}

abbrev Props : Type 0
Props = List (List ℕ × List ℕ)

abbrev AreUtf8 : List (List ℕ) → Type 0
AreUtf8 = AllByRecursion IsUtf8

-- ---- elements

-- a text that is cut at a comma is two texts
cut-utf8 : (xs ys : List ℕ) → IsUtf8 (xs ++ 44 ∷ ys) → IsUtf8 xs × IsUtf8 ys
cut-utf8 xs ys whole =
    let size : length (xs ++ 44 ∷ ys) ≡ length xs + (length ys + 1) = omega (arith, length-append xs (44 ∷ ys)) in
    let comma : slice_index (xs ++ 44 ∷ ys) (length xs) ≡ 44 = at-seam xs in
    let front : IsCharBoundary (xs ++ 44 ∷ ys) (length xs) = (omega (arith, size), λ within high. absurd (omega (arith, comma, high))) in
    let behind : IsCharBoundary (xs ++ 44 ∷ ys) (length xs + 1) =
    IsCharBoundary-after_ascii (xs ++ 44 ∷ ys) (length xs) whole (omega (arith, size)) (omega (arith, comma)) in (
      subst IsUtf8 (take-append_seam xs (44 ∷ ys)) (IsUtf8-take (xs ++ 44 ∷ ys) (length xs) whole front),
      subst IsUtf8 (drop-append-add xs (44 ∷ ys) 1) (IsUtf8-drop (xs ++ 44 ∷ ys) (length xs + 1) whole behind),
    ) where
      at-seam : (xs : List ℕ) → slice_index (xs ++ 44 ∷ ys) (length xs) ≡ 44
      at-seam [] = refl
      at-seam (x ∷ xs) = at-seam xs

pieces-utf8 : (es : List (List ℕ)) → IsUtf8 (join_with_byte 44 es) → AreUtf8 es
pieces-utf8 [] whole = tt
pieces-utf8 (e ∷ []) whole = (whole, tt)
pieces-utf8 (e ∷ d ∷ es) whole = let parts = cut-utf8 e (join_with_byte 44 (d ∷ es)) whole in (parts.0, pieces-utf8 (d ∷ es) parts.1)

elements-utf8 : (text : List ℕ) → IsUtf8 text → AreUtf8 (elements text)
elements-utf8 text whole = pieces-utf8 (elements text) (subst IsUtf8 (sym (join_with_byte-slice_split 44 text)) whole)

join-utf8 : (es : List (List ℕ)) → AreUtf8 es → IsUtf8 (join_with_byte 44 es)
join-utf8 [] each = IsUtf8-nil
join-utf8 (e ∷ []) each = each.0
join-utf8 (e ∷ d ∷ es) each =
    IsUtf8-append e (44 ∷ join_with_byte 44 (d ∷ es)) each.0 (IsUtf8-append (44 ∷ []) (join_with_byte 44 (d ∷ es)) (literal-utf8 (44 ∷ []) refl) (join-utf8 (d ∷ es) each.1))

-- ---- what tasks share out

each-filter : {X : Type 0} (P : X → Type 0) (test : X → Bool) (xs : List X) → AllByRecursion P xs → AllByRecursion P (filter test xs)
each-filter P test [] each = tt
each-filter P test (x ∷ xs) each = at (test x) (each-filter P test xs each.1) where
  at : (b : Bool) → AllByRecursion P (filter test xs) → AllByRecursion P (cond b (x ∷ filter test xs) (filter test xs))
  at true rest = (each.0, rest)
  at false rest = rest

once-utf8 : (es : List (List ℕ)) → AreUtf8 es → AreUtf8 (once es)
once-utf8 [] each = tt
once-utf8 (e ∷ es) each = (each.0, each-filter IsUtf8 (λ x. not (bytes_eq x e)) (once es) (once-utf8 es each.1))

numbers-utf8 : (ns : List ℕ) → AreUtf8 (map decimal ns)
numbers-utf8 [] = tt
numbers-utf8 (n ∷ ns) = (decimal-utf8 n, numbers-utf8 ns)

shared-utf8 : (field : Field) (text : List ℕ) → IsUtf8 text → AreUtf8 (shared_in field text)
shared-utf8 Feed text whole = tt
shared-utf8 Feeds text whole = once-utf8 (elements text) (elements-utf8 text whole)
shared-utf8 Sequences text whole = numbers-utf8 (range_with_len 0 (unwrap_or (sequences text) 0))
shared-utf8 Count text whole = tt
shared-utf8 Topic text whole = tt
shared-utf8 Outlet text whole = tt
shared-utf8 Topics text whole = once-utf8 (elements text) (elements-utf8 text whole)

groups-utf8 : (count least more : ℕ) (es : List (List ℕ)) → AreUtf8 es → AreUtf8 (map (join_with_byte 44) (groups count least more es))
unfolding groups
groups-utf8 zero least more es each = tt
groups-utf8 (suc count) least more es each = (
  join-utf8 (take (least + min more 1) es) (each_taken IsUtf8 (least + min more 1) es each),
  groups-utf8 count least (more - 1) (drop (least + min more 1) es) (each_dropped IsUtf8 (least + min more 1) es each),
)

length-groups : (count least more : ℕ) (es : List (List ℕ)) → length (groups count least more es) ≡ count
unfolding groups
length-groups zero least more es = refl
length-groups (suc count) least more es = ap (λ n. suc n) (length-groups count least (more - 1) (drop (least + min more 1) es))

-- the value of a key is one of the texts
value-utf8 : (props : Props) (key value : List ℕ) → AreTexts props → value_in props key ≡ Some value → IsUtf8 value
value-utf8 [] key value texts found = absurd (cc)
value-utf8 (p ∷ ps) key value texts found = at (bytes_eq p.0 key) found (value-utf8 ps key value texts.2) where
  at : (b : Bool) → cond b (Some p.1) (value_in ps key) ≡ Some value → (value_in ps key ≡ Some value → IsUtf8 value) → IsUtf8 value
  at true is later = let same : p.1 ≡ value = cc in subst IsUtf8 same texts.1
  at false is later = later is

shares-utf8 : (props : Props) (field : Option Field) → AreTexts props → AreUtf8 (shares props field)
shares-utf8 props None texts = (IsUtf8-nil, tt)
shares-utf8 props (Some field) texts = at (value_in props (key_of field)) refl where
  at : (o : Option (List ℕ)) → value_in props (key_of field) ≡ o → AreUtf8 (option_map_or (λ text. parted_up_to (share_count props) (shared_in field text)) o [])
  at None is = tt
  at (Some text) is =
      let es : List (List ℕ) = shared_in field text in
      groups-utf8 (min (length es) (share_count props)) _ _ es (shared-utf8 field text (value-utf8 props (key_of field) text texts is))

-- there are at most 1,000 tasks
count-most : (value : Option (List ℕ)) → unwrap_or (or_default 1 1000 1 value) 1 ≤ 1000
count-most None = omega arith
count-most (Some text) = at (number_of (2 ^ 32 - 1) text) where
  at : (o : Option ℕ) → unwrap_or (within 1 1000 o) 1 ≤ 1000
  at None = omega arith
  at (Some n) = grind (arith, nat_tests)

shares-few : (props : Props) (field : Option Field) → length (shares props field) ≤ 1000
shares-few props None = omega arith
shares-few props (Some field) = at (value_in props (key_of field)) where
  at : (o : Option (List ℕ)) → length (option_map_or (λ text. parted_up_to (share_count props) (shared_in field text)) o []) ≤ 1000
  at None = omega arith
  at (Some text) =
      let es : List (List ℕ) = shared_in field text in
      let count : ℕ = min (length es) (share_count props) in
      let most : share_count props ≤ 1000 = count-most (value_in props (codes "tasks.max")) in
      omega (arith, most, length-map (groups count (length es / count) (length es % count) es) (join_with_byte 44), length-groups count (length es / count) (length es % count) es)

-- ---- the properties of a task

key-utf8 : (field : Field) → IsUtf8 (key_of field)
key-utf8 Feed = literal-utf8 (codes "file") refl
key-utf8 Feeds = literal-utf8 (codes "files") refl
key-utf8 Sequences = literal-utf8 (codes "partitions") refl
key-utf8 Count = literal-utf8 (codes "count") refl
key-utf8 Topic = literal-utf8 (codes "topic") refl
key-utf8 Outlet = literal-utf8 (codes "file") refl
key-utf8 Topics = literal-utf8 (codes "topics") refl

task_key-utf8 : (field : TaskField) → IsUtf8 (task_key field)
task_key-utf8 TaskClass = literal-utf8 (codes "task.class") refl
task_key-utf8 BatchSize = literal-utf8 (codes "batch.size") refl
task_key-utf8 (Whole field) = key-utf8 field
task_key-utf8 (Group field) = key-utf8 field

module _ (props : Props) (texts : AreTexts props) (row : ClassRow) (named : IsUtf8 row.task) (share : List ℕ) (shared : IsUtf8 share) where
  task_value-utf8 : (field : TaskField) (value : List ℕ) → task_value props row share field ≡ Some value → IsUtf8 value
  task_value-utf8 TaskClass value is = let same : row.task ≡ value = cc in subst IsUtf8 same named
  task_value-utf8 BatchSize value is = value-utf8 props (codes "batch.size") value texts is
  task_value-utf8 (Whole field) value is = value-utf8 props (key_of field) value texts is
  task_value-utf8 (Group field) value is = let same : share ≡ value = cc in subst IsUtf8 same shared

  pairs-texts : (fields : List TaskField) → AreTexts (filter_map (task_pair props row share) fields)
  pairs-texts [] = tt
  pairs-texts (field ∷ fields) = at (task_value props row share field) refl (pairs-texts fields) where
    at : (o : Option (List ℕ)) → task_value props row share field ≡ o → AreTexts (filter_map (task_pair props row share) fields) →
        AreTexts (cons_option (option_map (λ value. (task_key field, value)) o) (filter_map (task_pair props row share) fields))
    at None is rest = rest
    at (Some value) is rest = (task_key-utf8 field, task_value-utf8 field value is, rest)

-- the keys of a task's properties rise
abbrev IsBelowKey : List ℕ → List ℕ → Type 0
IsBelowKey a b = slice_cmp nat_cmp a b ≡ Less

abbrev KeysRise : List TaskField → Type 0
KeysRise [] = Unit {0}
KeysRise (field ∷ fields) = AllByRecursion (λ other. IsBelowKey (task_key field) (task_key other)) fields × KeysRise fields

class-rises : (class : Class) → KeysRise (row_of class).task_fields
class-rises FileStreamSource = ((refl, (refl, (refl, tt))), ((refl, (refl, tt)), ((refl, tt), (tt, tt))))
class-rises FileSetSource = ((refl, (refl, (refl, tt))), ((refl, (refl, tt)), ((refl, tt), (tt, tt))))
class-rises SequenceSource = ((refl, (refl, (refl, (refl, tt)))), ((refl, (refl, (refl, tt))), ((refl, (refl, tt)), ((refl, tt), (tt, tt)))))
class-rises FileStreamSink = ((refl, (refl, tt)), ((refl, tt), (tt, tt)))

module _ (props : Props) (row : ClassRow) (share : List ℕ) where
  pairs-above : (key : List ℕ) (fields : List TaskField) → AllByRecursion (λ other. IsBelowKey key (task_key other)) fields →
      AllByRecursion (λ (q : List ℕ × List ℕ). IsBelowKey key q.0) (filter_map (task_pair props row share) fields)
  pairs-above key [] above = tt
  pairs-above key (field ∷ fields) above = at (task_value props row share field) (pairs-above key fields above.1) where
    at : (o : Option (List ℕ)) → AllByRecursion (λ (q : List ℕ × List ℕ). IsBelowKey key q.0) (filter_map (task_pair props row share) fields) →
        AllByRecursion (λ (q : List ℕ × List ℕ). IsBelowKey key q.0) (cons_option (option_map (λ value. (task_key field, value)) o) (filter_map (task_pair props row share) fields))
    at None rest = rest
    at (Some value) rest = (above.0, rest)

  pairs-rise : (fields : List TaskField) → KeysRise fields → IsRising (filter_map (task_pair props row share) fields)
  pairs-rise [] rise = tt
  pairs-rise (field ∷ fields) rise = at (task_value props row share field) (pairs-rise fields rise.1) where
    at : (o : Option (List ℕ)) → IsRising (filter_map (task_pair props row share) fields) →
        IsRising (cons_option (option_map (λ value. (task_key field, value)) o) (filter_map (task_pair props row share) fields))
    at None rest = rest
    at (Some value) rest = (pairs-above (task_key field) fields rise.0, rest)

class-named : (class : Class) → IsUtf8 (row_of class).task
class-named FileStreamSource = literal-utf8 (codes "FileStreamSourceTask") refl
class-named FileSetSource = literal-utf8 (codes "FileSetSourceTask") refl
class-named SequenceSource = literal-utf8 (codes "SequenceSourceTask") refl
class-named FileStreamSink = literal-utf8 (codes "FileStreamSinkTask") refl

config-fits : (props : Props) → AreTexts props → (class : Class) (share : List ℕ) → IsUtf8 share →
    IsRising (task_config props (row_of class) share) × AreTexts (task_config props (row_of class) share)
unfolding task_config
config-fits props texts class share shared = (
  pairs-rise props (row_of class) share (row_of class).task_fields (class-rises class),
  pairs-texts props texts (row_of class) (class-named class) share shared (row_of class).task_fields,
)

-- ---- all tasks

-- what a task's properties are that a record can hold
abbrev pub AreWritable : Props → Type 0
AreWritable config = IsRising config × AreTexts config

each-config : (props : Props) → AreTexts props → (class : Class) (shares : List (List ℕ)) → AreUtf8 shares → AllByRecursion AreWritable (map (task_config props (row_of class)) shares)
each-config props texts class [] each = tt
each-config props texts class (share ∷ shares) each = (config-fits props texts class share each.0, each-config props texts class shares each.1)

pub tasks-writable : (props : Props) → AreTexts props → AllByRecursion AreWritable (task_configs props)
tasks-writable props texts = at (class_in props) where
  at : (o : Option Class) → AllByRecursion AreWritable (option_map_or (λ class. configs_of_class props (row_of class)) o [])
  at None = tt
  at (Some class) = each-config props texts class (shares props (row_of class).shared) (shares-utf8 props (row_of class).shared texts)

pub tasks-few : (props : Props) → length (task_configs props) ≤ 1000
tasks-few props = at (class_in props) where
  at : (o : Option Class) → length (option_map_or (λ class. configs_of_class props (row_of class)) o []) ≤ 1000
  at None = omega arith
  at (Some class) = omega (arith, shares-few props (row_of class).shared, length-map (shares props (row_of class).shared) (task_config props (row_of class)))
