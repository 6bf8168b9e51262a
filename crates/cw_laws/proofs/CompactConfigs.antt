-- What a compaction of the config log leaves: of the records before its clean point the last of each key, and all
-- behind it.
use Rattle.std.proofs.Common.{◌≡◌, ℕ, zero, suc, ◌+◌, ◌≤◌, leb, Bool, true, false, ◌||◌, ◌&&◌, cond, List, [], ◌∷◌, ◌++◌, map, take, drop, Result, Ok, Err, Option, None, Some, IsSome, refl, ap, sym, subst, ◌∙◌, arith}
use Rattle.std.specs.Option.{IfSome, option_map, option_or}
use Rattle.std.specs.List.{filter, filter_map, cons_option, take-map, AllByRecursion}
use Rattle.std.specs.Str.{bytes_eq}
use Rattle.std.proofs.lemmas.Bool.Decides.{nat_tests}
use Rattle.std.proofs.lemmas.List.{append-nil, take-append-drop}
use Rattle.std.proofs.lemmas.List.Elements.{filter_map-append}
use Rattle.std.proofs.lemmas.Slice.Eq.{bytes_eq-Decides}
use Rattle.cw_bytes.specs.declared.applied.Applied.{Applied}
use Rattle.cw_bytes.specs.Frames.{joined, is_last}
use Rattle.cw_bytes.proofs.Compacted.{OffsetsRise, rise_front, repeats, keep_last, kept_last, split_staying, joined-staying}
use Rattle.cw_keys.specs.ConfigKeys.{config_key, config_key_text, may_be_removed}
use Rattle.cw_keys.specs.Configs.{with_key, with_value, or_bad_value}
use Rattle.cw_keys.specs.declared.config_key.ConfigKey.{ConfigKey}
use Rattle.cw_keys.specs.declared.config_key.ConfigKey.TheVariants as key
use Rattle.cw_keys.specs.declared.config_value.ConfigValue.{ConfigValue}
use Rattle.cw_keys.specs.declared.config_value.ConfigValue.TheVariants as value
use Rattle.cw_keys.specs.declared.fault.KeyFault.{KeyFault}
use Rattle.cw_keys.specs.declared.fault.KeyFault.TheVariants.{BadValue}
use Rattle.cw_keys.proofs.Keys.{config_key_only}
use Rattle.cw_config.specs.declared.records.ConfigRecord.{ConfigRecord}
use Rattle.cw_config.specs.Records.{same_key, has_key, last_where, last_of}
use Rattle.cw_config.specs.View.{is_behind}
use Rattle.cw_config.specs.Acceptance.{end_of, is_backed, record_with}
use Rattle.cw_config.specs.Compaction.{keyed, is_clean, clean_point, config_stays, compact_configs, config_in, configs_in, AreConfigs, AreAccepted, SaysTheSame}
use Rattle.cw_config.specs.Tables.{RisesFrom}
use Rattle.cw_config.proofs.Rising.{last_where-cons}
use Rattle.cw_config.proofs.Pushed.{end_of-push}
use Rattle.cw_config.proofs.Clean.{clean_there, none_waits, NoneWaits}
use Rattle.cw_config.proofs.Kept.{compacted}
use Rattle.cw_model.specs.ConfigsAllowed.{FitsBehind, AreAllowedConfigs}
use Rattle.cw_model.specs.Fences.{StandingFence}
use Rattle.cw_laws.proofs.Framed.{each-first}
use Rattle.cw_laws.proofs.Keys.{same_key-is, same_key-itself}
use Rattle.cw_laws.proofs.Thinned.{comes, lasts, IsThinned, IsCleanList, lasts-allowed, fences-of, of-fences, fences-lasts}
use Rattle.std.proofs.lemmas.Bool.{and_from}

-- ---- what fields are read as

pub record IsReadAs (at mark : ℕ) (k : Option ConfigKey) (r : ConfigRecord) : Type 0 where
  pub key : k ≡ Some r.key
  pub offset : r.offset ≡ at
  pub stamp : r.stamp ≡ mark

module _ (offset stamp : ℕ) (k : ConfigKey) (r : ConfigRecord) where
  abbrev Reads : Result (ConfigKey × Option ConfigValue) KeyFault → Type 0
  Reads read = record_with offset stamp read ≡ Some r → IsReadAs offset stamp (Some k) r

  ok-reads : (v : Option ConfigValue) → Reads (Ok (k, v))
  ok-reads v e = record { key = cc; offset = cc; stamp = cc }

  bad-reads : (fault : KeyFault) → Reads (Err fault)
  bad-reads fault e = absurd (cc)

  removed-reads : (b : Bool) (fault : KeyFault) → Reads (cond b (Ok (k, None)) (Err fault))
  removed-reads true fault = ok-reads None
  removed-reads false fault = bad-reads fault

  valued-reads : (v : Option ConfigValue) → Reads (or_bad_value k v)
  valued-reads None = bad-reads BadValue
  valued-reads (Some v) = ok-reads (Some v)

  text-reads : (text : Option (List ℕ)) → Reads (with_value k text)
  text-reads None = removed-reads (may_be_removed k) _
  text-reads (Some text) = valued-reads _

key-reads : (offset stamp : ℕ) (k : Option ConfigKey) (text : Option (List ℕ)) (r : ConfigRecord) → record_with offset stamp (with_key k text) ≡ Some r → IsReadAs offset stamp k r
key-reads offset stamp None text r e = absurd (cc)
key-reads offset stamp (Some k) text r e = text-reads offset stamp k r text e

pub config-reads : (a : Applied) (r : ConfigRecord) → config_in a ≡ Some r → IsReadAs a.offset a.stamp (config_key a.key) r
config-reads a r e = key-reads a.offset a.stamp (config_key a.key) a.value r e

pub some_value : {A : Type 0} (o : Option A) → IsSome o → (x : A) × (o ≡ Some x)
some_value None some = absurd (cc)
some_value (Some x) some = (x, refl)

abbrev pub AreRead : List Applied → Type 0
AreRead xs = AllByRecursion (λ a. IsSome (config_in a)) xs

pub read-cons : (a : Applied) (r : ConfigRecord) (xs : List Applied) → config_in a ≡ Some r → filter_map config_in (a ∷ xs) ≡ r ∷ filter_map config_in xs
read-cons a r xs e = ap (λ (o : Option ConfigRecord). cons_option o (filter_map config_in xs)) e

rising-read : (low : ℕ) (xs : List Applied) → AreRead xs → RisesFrom low (filter_map config_in xs) → OffsetsRise low xs
rising-read low [] read rises = tt
rising-read low (a ∷ xs) read rises =
    let found : (r : ConfigRecord) × (config_in a ≡ Some r) = some_value (config_in a) read.0 in
    let there : RisesFrom low (found.0 ∷ filter_map config_in xs) = subst (RisesFrom low) (read-cons a found.0 xs found.1) rises in
    let same : found.0.offset ≡ a.offset = (config-reads a found.0 found.1).offset in
    (subst (λ (n : ℕ). low ≤ n) same there.0, rising-read (a.offset + 1) xs read.1 (subst (λ (n : ℕ). RisesFrom (n + 1) (filter_map config_in xs)) same there.1))

-- ---- of each key the last record

one_key : (k l : ConfigKey) → Some k ≡ Some l → k ≡ l
one_key k l e = cc

same_test : (a b : Bool) → (a ≡ true → b ≡ true) → (b ≡ true → a ≡ true) → a ≡ b
same_test true true f g = refl
same_test true false f g = sym (f refl)
same_test false true f g = g refl
same_test false false f g = refl

-- keys are one just where their bytes are
same_bytes : (x y : List ℕ) (k l : ConfigKey) → config_key x ≡ Some k → config_key y ≡ Some l → bytes_eq y x ≡ same_key l k
same_bytes x y k l is_k is_l = same_test (bytes_eq y x) (same_key l k)
    (λ same. subst (λ (m : ConfigKey). same_key m k ≡ true) (one_key k l (sym is_k ∙ ap config_key (sym ((bytes_eq-Decides y x).0 same)) ∙ is_l)) (same_key-itself k))
    (λ same. (bytes_eq-Decides y x).1 ((config_key_only l y is_l).0 ∙ ap config_key_text (same_key-is l k same) ∙ sym (config_key_only k x is_k).0))

repeats-read : (x : List ℕ) (k : ConfigKey) → config_key x ≡ Some k → (xs : List Applied) → AreRead xs → repeats x xs ≡ comes k (filter_map config_in xs)
repeats-read x k is [] read = refl
repeats-read x k is (a ∷ xs) read =
    let found : (r : ConfigRecord) × (config_in a ≡ Some r) = some_value (config_in a) read.0 in
    ap (λ (b : Bool). b || repeats x xs) (same_bytes x a.key k found.0.key is (config-reads a found.0 found.1).key)
    ∙ ap (λ (b : Bool). has_key k found.0 || b) (repeats-read x k is xs read.1)
    ∙ sym (ap (comes k) (read-cons a found.0 xs found.1))

read-chosen : (b : Bool) (a : Applied) (r : ConfigRecord) (xs : List Applied) → config_in a ≡ Some r → filter_map config_in (cond b xs (a ∷ xs)) ≡ cond b (filter_map config_in xs) (r ∷ filter_map config_in xs)
read-chosen true a r xs e = refl
read-chosen false a r xs e = read-cons a r xs e

lasts-read : (xs : List Applied) → AreRead xs → filter_map config_in (keep_last xs) ≡ lasts (filter_map config_in xs)
lasts-read [] read = refl
lasts-read (a ∷ xs) read =
    let found : (r : ConfigRecord) × (config_in a ≡ Some r) = some_value (config_in a) read.0 in
    let r : ConfigRecord = found.0 in
    read-chosen (repeats a.key xs) a r (keep_last xs) found.1
    ∙ ap (λ (b : Bool). cond b (filter_map config_in (keep_last xs)) (r ∷ filter_map config_in (keep_last xs))) (repeats-read a.key r.key (config-reads a r found.1).key xs read.1)
    ∙ ap (λ l. cond (comes r.key (filter_map config_in xs)) l (r ∷ l)) (lasts-read xs read.1)
    ∙ sym (ap lasts (read-cons a r xs found.1))

-- ---- without values

abbrev strip : ConfigRecord → ConfigRecord
strip r = record r { value = None }

keyed-read : (xs : List Applied) → AreRead xs → filter_map keyed xs ≡ map strip (filter_map config_in xs)
keyed-read [] read = refl
keyed-read (a ∷ xs) read =
    let found : (r : ConfigRecord) × (config_in a ≡ Some r) = some_value (config_in a) read.0 in
    let r : ConfigRecord = found.0 in
    let is : IsReadAs a.offset a.stamp (config_key a.key) r = config-reads a r found.1 in
    ap (λ (o : Option ConfigKey). cons_option (option_map (λ (k : ConfigKey). record { offset = a.offset; stamp = a.stamp; key = k; value = None }) o) (filter_map keyed xs)) is.key
    ∙ ap (λ (n : ℕ). record { offset = n; stamp = a.stamp; key = r.key; value = None } ∷ filter_map keyed xs) (sym is.offset)
    ∙ ap (λ (n : ℕ). record { offset = r.offset; stamp = n; key = r.key; value = None } ∷ filter_map keyed xs) (sym is.stamp)
    ∙ ap (λ (l : List ConfigRecord). strip r ∷ l) (keyed-read xs read.1)
    ∙ sym (ap (map strip) (read-cons a r xs found.1))

take-read : (n : ℕ) (xs : List Applied) → AreRead xs → take n (filter_map config_in xs) ≡ filter_map config_in (take n xs)
take-read zero xs read = refl
take-read (suc n) [] read = refl
take-read (suc n) (a ∷ xs) read =
    let found : (r : ConfigRecord) × (config_in a ≡ Some r) = some_value (config_in a) read.0 in
    ap (take (suc n)) (read-cons a found.0 xs found.1) ∙ ap (λ (l : List ConfigRecord). found.0 ∷ l) (take-read n xs read.1) ∙ sym (read-cons a found.0 (take n xs) found.1)

last-stripped : (test : ConfigRecord → Bool) → ((r : ConfigRecord) → test (strip r) ≡ test r) → (xs : List ConfigRecord) → last_where test (map strip xs) ≡ option_map strip (last_where test xs)
last-stripped test same [] = refl
last-stripped test same (x ∷ xs) =
    last_where-cons test (strip x) (map strip xs)
    ∙ ap (λ (o : Option ConfigRecord). option_or o (cond (test (strip x)) (Some (strip x)) None)) (last-stripped test same xs)
    ∙ ap (λ (b : Bool). option_or (option_map strip (last_where test xs)) (cond b (Some (strip x)) None)) (same x)
    ∙ joins (last_where test xs) (test x)
    ∙ ap (option_map strip) (sym (last_where-cons test x xs))
  where
    joins : (o : Option ConfigRecord) (b : Bool) → option_or (option_map strip o) (cond b (Some (strip x)) None) ≡ option_map strip (option_or o (cond b (Some x) None))
    joins None true = refl
    joins None false = refl
    joins (Some y) b = refl

unstripped : (o q : Option ConfigRecord) → IfSome (option_map strip o) (λ y. is_behind (option_map (λ r. r.offset) (option_map strip q)) y ≡ false)
    → IfSome o (λ y. is_behind (option_map (λ r. r.offset) q) y ≡ false)
unstripped None q w = tt
unstripped (Some y) None w = w
unstripped (Some y) (Some q) w = w

clean-stripped : (records : List ConfigRecord) → is_clean (map strip records) ≡ true → IsCleanList records
clean-stripped records clean id =
    let waits : NoneWaits id (map strip records) = none_waits (map strip records) clean id in
    unstripped (last_of (key.Task id) records) (last_of (key.Commit id.connector) records)
    (subst (λ (q : Option ConfigRecord). IfSome (option_map strip (last_of (key.Task id) records)) (λ y. is_behind (option_map (λ r. r.offset) q) y ≡ false))
    (last-stripped (has_key (key.Commit id.connector)) (λ r. refl) records)
    (subst (λ (o : Option ConfigRecord). IfSome o (λ y. is_behind (option_map (λ r. r.offset) (last_of (key.Commit id.connector) (map strip records))) y ≡ false))
    (last-stripped (has_key (key.Task id)) (λ r. refl) records) waits))

-- ---- allowed records

pub rises-allowed : (before xs : List ConfigRecord) → AreAllowedConfigs before xs → RisesFrom (end_of before) xs
rises-allowed before [] allowed = tt
rises-allowed before (x ∷ xs) allowed =
    let above : end_of before ≤ x.offset = allowed.0.rising in
    let next : end_of (before ++ x ∷ []) ≡ x.offset + 1 = omega (arith, end_of-push before x, above) in
    (above, subst (λ (n : ℕ). RisesFrom n xs) next (rises-allowed (before ++ x ∷ []) xs allowed.1))

backed-by : (before : List ConfigRecord) (k : ConfigKey) (v : Option ConfigValue) → FitsBehind before k v → is_backed before k v ≡ true
backed-by before (key.Commit name) (Some (value.Commit count)) fits = fits.tasks
backed-by before k v fits = refl

pub accepted-allowed : (before xs : List ConfigRecord) → AreAllowedConfigs before xs → AreAccepted before xs
accepted-allowed before [] allowed = tt
accepted-allowed before (x ∷ xs) allowed =
    let above : end_of before ≤ x.offset = allowed.0.rising in
    let is : leb (end_of before) x.offset ≡ true = grind (arith, nat_tests) in
    (and_from (leb (end_of before) x.offset) (is_backed before x.key x.value) is (backed-by before x.key x.value allowed.0.fits), accepted-allowed (before ++ x ∷ []) xs allowed.1)

-- ---- what is left

abbrev no_record : Option ConfigRecord
no_record = None

nothing : (b : Bool) → no_record ≡ cond b None no_record
nothing true = refl
nothing false = refl

module _ (frames : List (List Applied)) (read : AreConfigs frames) (allowed : AreAllowedConfigs [] (configs_in frames)) where
  abbrev all : List Applied
  all = joined frames

  abbrev point : ℕ
  point = clean_point (filter_map keyed all)

  abbrev front : List Applied
  front = take point all

  abbrev back : List Applied
  back = drop point all

  parts : front ++ back ≡ all
  parts = take-append-drop point all

  -- the records before the clean point, and those behind it
  abbrev early : List ConfigRecord
  early = filter_map config_in front

  abbrev late : List ConfigRecord
  late = filter_map config_in back

  pub whole-is : configs_in frames ≡ early ++ late
  whole-is = ap (filter_map config_in) (sym parts) ∙ filter_map-append config_in front back

  early-read : AreRead front
  early-read = each-first _ front back (subst AreRead (sym parts) read)

  rises : OffsetsRise 0 (front ++ back)
  rises = subst (OffsetsRise 0) (sym parts) (rising-read 0 all read (rises-allowed [] (configs_in frames) allowed))

  pub left-is : configs_in (compact_configs frames) ≡ lasts early ++ late
  left-is =
      ap (filter_map config_in)
      (joined-staying (config_stays front) frames ∙ ap (filter (config_stays front)) (sym parts)
      ∙ split_staying (is_last front) front back rises
      ∙ ap (λ (l : List Applied). l ++ back) (kept_last front (rise_front 0 front back rises)))
      ∙ filter_map-append config_in (keep_last front) back
      ∙ ap (λ (l : List ConfigRecord). l ++ late) (lasts-read front early-read)

  clean : IsCleanList early
  clean = clean-stripped early
      (subst (λ (l : List ConfigRecord). is_clean l ≡ true)
      (ap (take point) (keyed-read all read) ∙ take-map strip point (configs_in frames) ∙ ap (map strip) (take-read point all read))
      (clean_there (filter_map keyed all)))

  allowed-parts : AreAllowedConfigs [] (early ++ late)
  allowed-parts = subst (AreAllowedConfigs []) whole-is allowed

  rises-early : (low : ℕ) (xs ys : List ConfigRecord) → RisesFrom low (xs ++ ys) → RisesFrom low xs
  rises-early low [] ys rising = tt
  rises-early low (x ∷ xs) ys rising = (rising.0, rises-early (x.offset + 1) xs ys rising.1)

  none : IsThinned [] [] early
  none = record { rises = tt; rises_too = tt; end = omega arith; last = λ k. nothing (comes k early) }

  -- each record that is left may stand where it does
  pub left-allowed : AreAllowedConfigs [] (configs_in (compact_configs frames))
  left-allowed = subst (AreAllowedConfigs []) (sym left-is)
      (lasts-allowed [] [] early late none (rises-early 0 early late (rises-allowed [] (early ++ late) allowed-parts)) clean allowed-parts)

  -- a fence that is left stands for a generation for which it stood
  pub left-fences : (name : List ℕ) (generation mark : ℕ) → StandingFence (configs_in (compact_configs frames)) name generation mark → StandingFence (configs_in frames) name generation mark
  left-fences name generation mark standing =
      subst (λ l. StandingFence l name generation mark) (sym whole-is)
      (of-fences name generation mark [] (early ++ late)
      (fences-lasts name generation mark [] [] early late none (rises-allowed [] (early ++ late) allowed-parts)
      (fences-of name generation mark (lasts early ++ late) (subst (λ l. StandingFence l name generation mark) left-is standing))))

  lasts-each : (P : ConfigRecord → Type 0) (xs ys : List ConfigRecord) → AllByRecursion P (xs ++ ys) → AllByRecursion P (lasts xs ++ ys)
  lasts-each P [] ys each = each
  lasts-each P (x ∷ xs) ys each = by (comes x.key xs) (lasts-each P xs ys each.1)
    where
      by : (b : Bool) → AllByRecursion P (lasts xs ++ ys) → AllByRecursion P (cond b (lasts xs) (x ∷ lasts xs) ++ ys)
      by true rest = rest
      by false rest = (each.0, rest)

  -- what each record has, each that is left has
  pub left-each : (P : ConfigRecord → Type 0) → AllByRecursion P (configs_in frames) → AllByRecursion P (configs_in (compact_configs frames))
  left-each P each = subst (AllByRecursion P) (sym left-is) (lasts-each P early late (subst (AllByRecursion P) whole-is each))

  pub left-same : SaysTheSame (configs_in (compact_configs frames)) (configs_in frames)
  left-same = trimmed (compacted frames read (accepted-allowed [] (configs_in frames) allowed) [] tt)
    where
      trimmed : SaysTheSame (configs_in (compact_configs frames) ++ []) (configs_in frames ++ []) → SaysTheSame (configs_in (compact_configs frames)) (configs_in frames)
      trimmed same = subst (λ l. SaysTheSame l (configs_in frames)) (append-nil (configs_in (compact_configs frames)))
          (subst (λ l. SaysTheSame (configs_in (compact_configs frames) ++ []) l) (append-nil (configs_in frames)) same)
