-- The records of a frame of the config log: which offsets they get, and how many bytes they have.
use Rattle.std.proofs.Common.{◌≡◌, ℕ, suc, ◌+◌, ◌<◌, ◌≤◌, ◌^◌, ◌++◌, ◌∷◌, [], ◌&&◌, Bool, true, false, nat_lt, nat_le, if◌then◌else◌, List, Option, Some, None, length, map, refl, sym, ap, subst, ◌∙◌, Result, Ok, Err, IfOk, Bor, option_map, option_copied, arith, append_assoc, length-append}
use Rattle.std.proofs.lemmas.Bool.{leb-false, leb-true, and_from, and_right, and_left}
use Rattle.std.proofs.lemmas.Bool.Decides.{nat_tests}
use Rattle.std.specs.List.{AllByRecursion, flat_map}
use Rattle.cw_bytes.specs.declared.applied.Applied.{Applied}
use Rattle.cw_bytes.specs.Spelling.{word, long, text, value_bytes, record_bytes}
use Rattle.cw_keys.specs.Configs.{config_text}
use Rattle.cw_keys.specs.declared.config_key.ConfigKey.{ConfigKey}
use Rattle.cw_keys.specs.declared.config_value.ConfigValue.{ConfigValue}
use Rattle.cw_config.specs.declared.records.ConfigRecord.{ConfigRecord}
use Rattle.cw_rest.specs.Seen.{KeyedValues}
use Rattle.cw_model.specs.declared.fault.WorldFault.{WorldFault}
use Rattle.cw_model.specs.Bodies.{config_applied, config_body}
use Rattle.cw_model.specs.ConfigsAllowed.{AreAllowedConfigs}
use Rattle.cw_topics.specs.Configs.{recorded, records_from, first_of, have_offsets, IsWritable, IsWritableRecord}

below : (n : ℕ) → n < 2 ^ 64 → nat_lt n (2 ^ 64) ≡ true
below n fits = grind (arith, nat_tests)

not-below : (n : ℕ) → 2 ^ 64 ≤ n → nat_lt n (2 ^ 64) ≡ false
not-below n past = grind (arith, nat_tests)

-- where the last one has an offset, each has
pub offsets-fit : (first stamp : ℕ) (values : KeyedValues) → first + length values ≤ 2 ^ 64 →
    have_offsets (records_from first stamp values) ≡ true
offsets-fit first stamp [] fits = refl
offsets-fit first stamp (value ∷ values) fits = and_from (nat_lt first (2 ^ 64)) _ (below first (omega arith))
    (offsets-fit (first + 1) stamp values (omega arith))

-- where it hasn't, not each has
pub offsets-lack : (first stamp : ℕ) (values : KeyedValues) → 1 ≤ length values → 2 ^ 64 < first + length values →
    have_offsets (records_from first stamp values) ≡ false
offsets-lack first stamp [] some past = absurd (omega arith)
offsets-lack first stamp (value ∷ []) some past = and_left (nat_lt first (2 ^ 64)) true (not-below first (omega arith))
offsets-lack first stamp (value ∷ other ∷ values) some past = and_right (nat_lt first (2 ^ 64)) _
    (offsets-lack (first + 1) stamp (other ∷ values) (omega arith) (omega arith))

-- ---- their bytes

length-word : (n : ℕ) → length (word n) ≡ 4
unfolding word
length-word n = refl

length-long : (n : ℕ) → length (long n) ≡ 8
unfolding long
length-long n = refl

-- a body has bytes
pub config-bytes : (records : List ConfigRecord) → 1 ≤ length (config_body records)
config-bytes records = omega (
  arith,
  length-append (word (length (map config_applied records))) (flat_map record_bytes (map config_applied records)),
  length-word (length (map config_applied records)),
)

record-size : (a b : ℕ) (rest : List ℕ) → length (long a ++ rest) ≡ length (long b ++ rest)
record-size a b rest = omega (arith, length-append (long a) rest, length-append (long b) rest, length-long a, length-long b)

fields-size : (a b stamp : ℕ) (values : KeyedValues) →
    length (flat_map record_bytes (map config_applied (records_from a stamp values))) ≡
    length (flat_map record_bytes (map config_applied (records_from b stamp values)))
fields-size a b stamp [] = refl
fields-size a b stamp (value ∷ values) =
    let one : Applied = config_applied (recorded stamp (a, value)) in
    let other : Applied = config_applied (recorded stamp (b, value)) in
    omega (
      arith,
      record-size a b (long stamp ++ (text one.key ++ value_bytes one.value)),
      length-append (record_bytes one) (flat_map record_bytes (map config_applied (records_from (a + 1) stamp values))),
      length-append (record_bytes other) (flat_map record_bytes (map config_applied (records_from (b + 1) stamp values))),
      fields-size (a + 1) (b + 1) stamp values,
    )

-- wherever the offsets begin, there are as many bytes
pub body-size : (a b stamp : ℕ) (values : KeyedValues) →
    length (config_body (records_from a stamp values)) ≡ length (config_body (records_from b stamp values))
body-size a b stamp values =
    let one = map config_applied (records_from a stamp values) in
    let other = map config_applied (records_from b stamp values) in
    omega (
      arith,
      length-append (word (length one)) (flat_map record_bytes one),
      length-append (word (length other)) (flat_map record_bytes other),
      length-word (length one),
      length-word (length other),
      fields-size a b stamp values,
    )

-- ---- what may be written

-- the values of allowed records may be written under their keys
pub values-writable : (first stamp : ℕ) (before : List ConfigRecord) (values : KeyedValues) →
    AreAllowedConfigs before (records_from first stamp values) → AllByRecursion IsWritable values
values-writable first stamp before [] allowed = tt
values-writable first stamp before (value ∷ values) allowed =
    (allowed.0.kind, values-writable (first + 1) stamp (before ++ recorded stamp (first, value) ∷ []) values allowed.1)

-- so may their records
pub records-writable : (first stamp : ℕ) (values : KeyedValues) → AllByRecursion IsWritable values →
    AllByRecursion IsWritableRecord (records_from first stamp values)
records-writable first stamp [] each = tt
records-writable first stamp (value ∷ values) each = (each.0, records-writable (first + 1) stamp values each.1)

pub records-count : (first stamp : ℕ) (values : KeyedValues) → length (records_from first stamp values) ≡ length values
records-count first stamp [] = refl
records-count first stamp (value ∷ values) = ap (λ (n : ℕ). suc n) (records-count (first + 1) stamp values)

-- ---- the offset of the first record

first-by : (b : Bool) (end first : ℕ) → (if b then Some end else None) ≡ Some first → (b ≡ true) × (first ≡ end)
first-by true end first is = (refl, cc)
first-by false end first is = absurd (cc)

none-by : (b : Bool) (end : ℕ) → (if b then Some end else None) ≡ None → b ≡ false
none-by true end is = absurd (cc)
none-by false end is = refl

-- where there is one, all records get theirs
pub first-fits : (end count first : ℕ) → (if nat_le (end + count) (2 ^ 64) then Some end else None) ≡ Some first →
    (first ≡ end) × (first + count ≤ 2 ^ 64)
first-fits end count first is =
    let p = first-by (nat_le (end + count) (2 ^ 64)) end first is in
    let fits : end + count ≤ 2 ^ 64 = leb-true (end + count) (2 ^ 64) p.0 in
    (p.1, subst (λ (n : ℕ). n + count ≤ 2 ^ 64) (sym p.1) fits)

-- where there is none, not all do
pub first-lacks : (end count : ℕ) → (if nat_le (end + count) (2 ^ 64) then Some end else None) ≡ None → 2 ^ 64 < end + count
first-lacks end count is = leb-false (end + count) (2 ^ 64) (none-by (nat_le (end + count) (2 ^ 64)) end is)

-- ---- a frame as it is made

-- one record more of those that are left
pub records-on : (first at stamp : ℕ) (done whole : List ConfigRecord) (values rest : KeyedValues) (value : ConfigKey × Option ConfigValue) →
    values ≡ value ∷ rest → done ++ records_from (first + at) stamp values ≡ whole →
    (done ++ recorded stamp (first + at, value) ∷ []) ++ records_from (first + (at + 1)) stamp rest ≡ whole
records-on first at stamp done whole values rest value is so =
    append_assoc done (recorded stamp (first + at, value) ∷ []) (records_from (first + (at + 1)) stamp rest) ∙
    ap (λ (n : ℕ). done ++ recorded stamp (first + at, value) ∷ records_from n stamp rest) (omega arith) ∙
    ap (λ (l : KeyedValues). done ++ records_from (first + at) stamp l) (sym is) ∙ so

-- the first record has the first offset
pub first-at : (frame : List ConfigRecord) (first stamp : ℕ) (values : KeyedValues) → 1 ≤ length frame →
    frame ≡ records_from first stamp values → first_of frame ≡ first
first-at frame first stamp [] some is = let none : length frame ≡ 0 = ap (λ (l : List ConfigRecord). length l) is in absurd (omega arith)
first-at frame first stamp (value ∷ values) some is = ap (λ (l : List ConfigRecord). first_of l) is

-- the texts of values that are lent are those of the values
pub copied-texts : (value : Option (Bor ConfigValue)) → option_map (λ v. config_text v.now) value ≡ option_map config_text (option_copied value)
copied-texts None = refl
copied-texts (Some v) = refl

-- a frame that is made where the last record has an offset
pub offsets-made : (first stamp : ℕ) (values : KeyedValues) (result : Result (List ConfigRecord) WorldFault) → first + length values ≤ 2 ^ 64 →
    IfOk result (λ frame. frame ≡ records_from first stamp values) → IfOk result (λ frame. have_offsets frame ≡ true)
offsets-made first stamp values (Ok frame) fits is = subst (λ (l : List ConfigRecord). have_offsets l ≡ true) (sym is) (offsets-fit first stamp values fits)
offsets-made first stamp values (Err fault) fits is = tt
