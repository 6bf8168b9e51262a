-- What is kept of the statuses, and how long a record is.
use Rattle.std.proofs.Common.{◌≡◌, ◌≤◌, ◌<◌, ◌+◌, ◌-◌, ◌^◌, ◌&&◌, ℕ, Bool, true, false, nat_le, max, min, List, [], ◌∷◌, ◌++◌, length, map, Option, Some, None, if◌then◌else◌, codes, decimal, refl, sym, ◌∙◌, ap, arith, length-append}
use Rattle.std.specs.Prelude.{SomeIff}
use Rattle.std.specs.List.{flat_map}
use Rattle.std.proofs.lemmas.Bool.Decides.{nat_tests}
use Rattle.std.proofs.lemmas.Fmt.{length-decimal-le}
use Rattle.std.proofs.lemmas.List.{map-append}
use Rattle.std.proofs.lemmas.List.Sums.{fold-append}
use Rattle.cw_types.specs.declared.ids.Item.{Item}
use Rattle.cw_types.specs.declared.ids.Item.TheVariants.{Connector, Task}
use Rattle.cw_types.specs.declared.logs.LogName.TheVariants.{Status}
use Rattle.cw_bytes.specs.declared.applied.Applied.{Applied}
use Rattle.cw_bytes.specs.Spelling.{word, long, text, value_bytes, record_bytes, records_bytes}
use Rattle.cw_bytes.specs.Frames.{next_behind}
use Rattle.cw_types.specs.Name.{IsName}
use Rattle.cw_keys.specs.Names.{task_text}
use Rattle.cw_keys.specs.Statuses.{status_key, status_text, IsItem}
use Rattle.cw_status.specs.declared.record.StatusRecord.{StatusRecord}
use Rattle.cw_model.specs.declared.fault.WorldFault.{WorldFault}
use Rattle.cw_model.specs.declared.fault.WorldFault.TheVariants.{Full}
use Rattle.cw_model.specs.State.{StampedStatus}
use Rattle.cw_model.specs.Bodies.{status_applied, status_body, frame_of, has_room}
use Rattle.cw_model.specs.Updates.{is_offset}
use Rattle.cw_topics.specs.Statuses.{IsStatusList, HasNoRoom, next_in, offset_from}
use Rattle.std.proofs.lemmas.Bool.{and_right, and_left}

-- ---- the list of statuses

next-push : (list : List StampedStatus) (r : StampedStatus) → next_in (list ++ r ∷ []) ≡ max (next_in list) (r.status.offset + 1)
next-push list r =
    ap next_behind (map-append (λ (r : StampedStatus). r.status.offset) list (r ∷ []))
    ∙ fold-append (λ (end offset : ℕ). max end (offset + 1)) 0 (map (λ (r : StampedStatus). r.status.offset) list) (r.status.offset ∷ [])

offset-some : (n : ℕ) → n < 2 ^ 64 → offset_from n ≡ Some n
offset-some n below = grind (arith, nat_tests, below)

offset-none : (n : ℕ) → (¬ (n < 2 ^ 64)) → offset_from n ≡ None
offset-none n above = grind (arith, nat_tests, above)

next-is : (next : Option ℕ) (n : ℕ) → SomeIff next (n < 2 ^ 64) n → next ≡ offset_from n
next-is None n not = sym (offset-none n not)
next-is (Some m) n is = ap (λ (k : ℕ). Some k) is.1 ∙ sym (offset-some n is.0)

pub list-more : (list : List StampedStatus) (applied after : List StatusRecord) (next later : Option ℕ) (count more : ℕ) (r : StampedStatus) →
    IsStatusList list applied next count → r.status.offset ≡ next_in list → after ≡ applied ++ r.status ∷ [] →
    SomeIff later (r.status.offset + 1 < 2 ^ 64) (r.status.offset + 1) → more ≡ min (count + 1) (2 ^ 64 - 1) →
    IsStatusList (list ++ r ∷ []) after later more
list-more list applied after next later count more r known is put step counted =
    let last : next_in (list ++ r ∷ []) ≡ r.status.offset + 1 = next-push list r ∙ omega (arith, is) in
    record {
      kept = put ∙ ap (λ (l : List StatusRecord). l ++ r.status ∷ []) known.kept ∙ sym (map-append (λ (r : StampedStatus). r.status) list (r ∷ []));
      behind = next-is later (r.status.offset + 1) step ∙ ap offset_from (sym last);
      many = omega (arith, counted, known.many, length-append list (r ∷ []));
    }

-- the same of a record with any offset
pub list-added : (list : List StampedStatus) (applied after : List StatusRecord) (next later : Option ℕ) (count more : ℕ) (r : StampedStatus) →
    IsStatusList list applied next count → after ≡ applied ++ r.status ∷ [] →
    ((n : ℕ) → next ≡ offset_from n → later ≡ offset_from (max n (r.status.offset + 1))) → more ≡ min (count + 1) (2 ^ 64 - 1) →
    IsStatusList (list ++ r ∷ []) after later more
list-added list applied after next later count more r known put raised counted = record {
  kept = put ∙ ap (λ (l : List StatusRecord). l ++ r.status ∷ []) known.kept ∙ sym (map-append (λ (r : StampedStatus). r.status) list (r ∷ []));
  behind = raised (next_in list) known.behind ∙ ap offset_from (sym (next-push list r));
  many = omega (arith, counted, known.many, length-append list (r ∷ []));
}

-- ---- how long a record is

length-word : (n : ℕ) → length (word n) ≡ 4
unfolding word
length-word n = refl

length-long : (n : ℕ) → length (long n) ≡ 8
unfolding long
length-long n = refl

length-text : (bytes : List ℕ) → length (text bytes) ≡ 4 + length bytes
unfolding text
length-text bytes = omega (arith, length-append (word (length bytes)) bytes, length-word (length bytes))

length-record : (offset stamp : ℕ) (key value : List ℕ) →
    length (records_bytes (record { offset = offset; stamp = stamp; key = key; value = Some value } ∷ [])) ≡ length key + length value + 29
length-record offset stamp key value =
    let a : Applied = record { offset = offset; stamp = stamp; key = key; value = Some value } in
    omega (
      arith,
      length-append (word 1) (flat_map record_bytes (a ∷ [])),
      length-append (record_bytes a) [],
      length-append (long offset) (long stamp ++ (text key ++ value_bytes (Some value))),
      length-append (long stamp) (text key ++ value_bytes (Some value)),
      length-append (text key) (value_bytes (Some value)),
      length-word 1,
      length-long offset,
      length-long stamp,
      length-text key,
      length-text value,
    )

pub length-body : (r : StampedStatus) (key value : List ℕ) → key ≡ status_key r.status.item → value ≡ status_text r.status.value →
    length (status_body (r ∷ [])) ≡ length key + length value + 29
length-body r key value key-is value-is =
    ap (λ (k : List ℕ). length (records_bytes (record { offset = r.status.offset; stamp = r.stamp; key = k; value = Some (status_text r.status.value) } ∷ []))) (sym key-is) ∙
    ap (λ (v : List ℕ). length (records_bytes (record { offset = r.status.offset; stamp = r.stamp; key = key; value = Some v } ∷ []))) (sym value-is) ∙
    length-record r.status.offset r.stamp key value

pub has-some : (r : StampedStatus) → 1 ≤ length (status_body (r ∷ []))
has-some r = omega (arith, length-append (word 1) (flat_map record_bytes (status_applied r ∷ [])), length-word 1)

name-few : (bytes : List ℕ) → IsName bytes → length bytes ≤ 128
name-few bytes is = grind (arith, nat_tests)

pub key-short : (item : Item) → IsItem item → length (status_key item) < 2 ^ 32
key-short (Connector name) named = omega (arith, name-few name named, length-append (codes "status-connector-") name)
key-short (Task id) named = omega (
  arith,
  name-few id.connector named.0,
  length-append (codes "status-task-") (task_text id),
  length-append (id.connector ++ codes "-") (decimal id.index),
  length-append id.connector (codes "-"),
  length-decimal-le 20 id.index (omega arith) (omega (arith, named.1)) (omega (arith, named.1)),
)

-- where no offset is left
pub no-offset : (size frame : ℕ) (r : StampedStatus) (why : WorldFault) (key value : List ℕ) → key ≡ status_key r.status.item →
    value ≡ status_text r.status.value → offset_from r.status.offset ≡ None → frame ≡ length key + length value + 34 → why ≡ Full Status size frame →
    HasNoRoom size r why
no-offset size frame r why key value key-is value-is none long is = record {
  told = is ∙ ap (λ (n : ℕ). Full Status size n) (omega (arith, long, length-body r key value key-is value-is));
  none = and_left (is_offset r.status.offset) (has_room size (frame_of (status_body (r ∷ [])))) (never (is_offset r.status.offset) r.status.offset none);
}
  where
    never : (b : Bool) (n : ℕ) → (if b then Some n else None) ≡ None → b ≡ false
    never true n is = absurd (cc)
    never false n is = refl

-- where the text alone is longer than a log may be
pub too-long : (size frame : ℕ) (r : StampedStatus) (why : WorldFault) (key value : List ℕ) → key ≡ status_key r.status.item →
    value ≡ status_text r.status.value → 2 ^ 28 < length value → frame ≡ length key + length value + 34 → why ≡ Full Status size frame →
    HasNoRoom size r why
too-long size frame r why key value key-is value-is much long is = record {
  told = is ∙ ap (λ (n : ℕ). Full Status size n) (omega (arith, long, length-body r key value key-is value-is));
  none = and_right (is_offset r.status.offset) (has_room size (frame_of (status_body (r ∷ []))))
      (over (size + frame_of (status_body (r ∷ []))) (omega (arith, much, length-body r key value key-is value-is)));
}
  where
    over : (n : ℕ) → 2 ^ 28 < n → nat_le n (2 ^ 28) ≡ false
    over n more = grind (arith, nat_tests, more)

-- an offset that is there can be had
pub is-offset : (n m : ℕ) → offset_from n ≡ Some m → (is_offset n ≡ true) × (m ≡ n)
is-offset n m is = had (is_offset n) n m is
  where
    had : (b : Bool) (n m : ℕ) → (if b then Some n else None) ≡ Some m → (b ≡ true) × (m ≡ n)
    had true n m is = (refl, cc)
    had false n m is = absurd (cc)
