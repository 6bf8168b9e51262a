-- The records that a compaction of the config log leaves say what all of them say.
use Rattle.std.proofs.Common.{◌≡◌, ℕ, ◌+◌, zero, suc, ◌≤◌, Bool, true, false, ◌||◌, cond, List, [], ◌∷◌, ◌++◌, ◌⊎◌, inl, inr, ⊎_elim, map, take, drop, Result, Ok, Err, IfOk, Option, None, Some, refl, ap, sym, subst, ◌∙◌, append_assoc, arith}
use Rattle.std.specs.Bool.{⊤}
use Rattle.std.specs.Option.{IsSome, IfSome, option_or, option_map, option_map_or, is_some, unwrap_or}
use Rattle.std.specs.List.{filter, filter_map, cons_option, AllByRecursion}
use Rattle.std.specs.Str.{bytes_eq}
use Rattle.std.proofs.lemmas.List.{take-append-drop, append-nil}
use Rattle.std.proofs.lemmas.List.Elements.{filter_map-append}
use Rattle.std.proofs.lemmas.Slice.Eq.{bytes_eq-Decides}
use Rattle.cw_types.specs.declared.ids.TaskId.{TaskId}
use Rattle.cw_bytes.specs.declared.applied.Applied.{Applied}
use Rattle.cw_bytes.specs.Frames.{joined, next_after, is_last}
use Rattle.cw_keys.specs.ConfigKeys.{config_key, may_be_removed}
use Rattle.cw_keys.specs.Configs.{config_of, config_value, with_key, with_value, or_bad_value}
use Rattle.cw_keys.specs.declared.config_key.ConfigKey.{ConfigKey}
use Rattle.cw_keys.specs.declared.config_key.ConfigKey.TheVariants.{Connector, Task, Commit}
use Rattle.cw_keys.specs.declared.config_value.ConfigValue.{ConfigValue}
use Rattle.cw_keys.specs.declared.fault.KeyFault.{KeyFault}
use Rattle.cw_config.specs.declared.records.ConfigRecord.{ConfigRecord}
use Rattle.cw_config.specs.Records.{has_key, last_where, last_of}
use Rattle.cw_config.specs.View.{generation_of, committed_record, is_behind}
use Rattle.cw_config.specs.Acceptance.{end_of, record_with, may_follow}
use Rattle.cw_config.specs.Compaction.{keyed, clean_point, clean_part, is_clean, config_stays, compact_configs, config_in, configs_in, AreConfigs, AreAccepted, SaysTheSame, SaysTheSameBehind}
use Rattle.cw_config.specs.Tables.{RisesFrom}
use Rattle.cw_config.proofs.Rising.{last_where-cons, ends, ends-cons, rises-push}
use Rattle.cw_config.proofs.Pushed.{above_all}
use Rattle.cw_bytes.proofs.Compacted.{OffsetsRise, rise_front, repeats, keep_last, kept_last, split_staying, joined-staying}
use Rattle.cw_config.proofs.Clean.{clean_there, none_waits, NoneWaits, committed_clean}
use Rattle.cw_config.proofs.Alike.{Alike, alike-append, says_the_same}

-- ---- records as they are read

-- what no reading gives
abbrev unread : Applied → ConfigRecord
unread a = record { offset = a.offset; stamp = a.stamp; key = Connector []; value = None }

-- the record that fields are
abbrev read : Applied → ConfigRecord
read a = unwrap_or (config_in a) (unread a)

abbrev AreRead : List Applied → Type 0
AreRead xs = AllByRecursion (λ a. IsSome (config_in a)) xs

some_is : {A : Type 0} (o : Option A) (d : A) → IsSome o → o ≡ Some (unwrap_or o d)
some_is None d is = cc
some_is (Some x) d is = refl

reads : (xs : List Applied) → AreRead xs → filter_map config_in xs ≡ map read xs
reads [] all = refl
reads (a ∷ xs) all =
    ap (λ (o : Option ConfigRecord). cons_option o (filter_map config_in xs)) (some_is (config_in a) (unread a) all.0)
    ∙ ap (λ (l : List ConfigRecord). read a ∷ l) (reads xs all.1)

module _ (a : Applied) where
  read_offset : (read : Result (ConfigKey × Option ConfigValue) KeyFault) → (unwrap_or (record_with a.offset a.stamp read) (unread a)).offset ≡ a.offset
  read_offset (Ok r) = refl
  read_offset (Err fault) = refl

  read_stamp : (read : Result (ConfigKey × Option ConfigValue) KeyFault) → (unwrap_or (record_with a.offset a.stamp read) (unread a)).stamp ≡ a.stamp
  read_stamp (Ok r) = refl
  read_stamp (Err fault) = refl

  key_of_read : (key : ConfigKey) (read : Result (ConfigKey × Option ConfigValue) KeyFault) → IfOk read (λ r. r.0 ≡ key) → IsSome (record_with a.offset a.stamp read)
      → (unwrap_or (record_with a.offset a.stamp read) (unread a)).key ≡ key
  key_of_read key (Ok r) is some = is
  key_of_read key (Err fault) is some = cc

removed : (key : ConfigKey) (b : Bool) (fault : KeyFault) → IfOk (cond b (Ok (key, None)) (Err fault)) (λ (r : ConfigKey × Option ConfigValue). r.0 ≡ key)
removed key true fault = refl
removed key false fault = tt

valued : (key : ConfigKey) (value : Option ConfigValue) → IfOk (or_bad_value key value) (λ r. r.0 ≡ key)
valued key None = tt
valued key (Some value) = refl

with_value-key : (key : ConfigKey) (value : Option (List ℕ)) → IfOk (with_value key value) (λ r. r.0 ≡ key)
with_value-key key None = removed key (may_be_removed key) _
with_value-key key (Some text) = valued key _

offset_of : (a : Applied) → (read a).offset ≡ a.offset
offset_of a = read_offset a (config_of a.key a.value)

-- a record's key is that which its bytes spell
key_by : (a : Applied) (key : Option ConfigKey) → IsSome (record_with a.offset a.stamp (with_key key a.value)) → key ≡ Some (unwrap_or (record_with a.offset a.stamp (with_key key a.value)) (unread a)).key
key_by a None some = cc
key_by a (Some key) some = ap Some (sym (key_of_read a key (with_value key a.value) (with_value-key key a.value) some))

key_of : (a : Applied) → IsSome (config_in a) → config_key a.key ≡ Some (read a).key
key_of a some = key_by a (config_key a.key) some

-- ---- of each key the last record

abbrev Respects : (ConfigRecord → Bool) → Type 0
Respects test = (x y : Applied) → IsSome (config_in x) → IsSome (config_in y) → bytes_eq y.key x.key ≡ true → test (read x) ≡ true → test (read y) ≡ true

some_of : ConfigKey → Option ConfigKey → ConfigKey
some_of d None = d
some_of d (Some k) = k

respects_key : (key : ConfigKey) → Respects (has_key key)
respects_key key x y is_x is_y same passes =
    let spelled : y.key ≡ x.key = (bytes_eq-Decides y.key x.key).0 same in
    let one : Some (read y).key ≡ Some (read x).key = sym (key_of y is_y) ∙ ap config_key spelled ∙ key_of x is_x in
    let keys : (read y).key ≡ (read x).key = cc one in
    subst (λ (k : ConfigKey). has_key key (record (read y) { key = k }) ≡ true) (sym keys) passes

either : (a b : Bool) → (a || b) ≡ true → (a ≡ true) ⊎ (b ≡ true)
either true b e = inl refl
either false b e = inr e

some_first : (o p : Option ConfigRecord) → is_some o ≡ true → is_some (option_or o p) ≡ true
some_first None p e = cc
some_first (Some r) p e = refl

some_second : (o p : Option ConfigRecord) → is_some p ≡ true → is_some (option_or o p) ≡ true
some_second None p e = e
some_second (Some r) p e = refl

-- a record with the key is found
some_last : (test : ConfigRecord → Bool) (x : Applied) → Respects test → IsSome (config_in x) → test (read x) ≡ true → (xs : List Applied) → AreRead xs → repeats x.key xs ≡ true
    → is_some (last_where test (map read xs)) ≡ true
some_last test x respects is passes [] all e = cc
some_last test x respects is passes (y ∷ xs) all e =
    ap is_some (last_where-cons test (read y) (map read xs))
    ∙ ⊎_elim
    (λ (here : bytes_eq y.key x.key ≡ true).
    some_second (last_where test (map read xs)) (cond (test (read y)) (Some (read y)) None)
    (ap (λ (b : Bool). is_some (cond b (Some (read y)) None)) (respects x y is all.0 here passes)))
    (λ (later : repeats x.key xs ≡ true).
    some_first (last_where test (map read xs)) (cond (test (read y)) (Some (read y)) None) (some_last test x respects is passes xs all.1 later))
    (either (bytes_eq y.key x.key) (repeats x.key xs) e)

covered : (t : Bool) (r : ConfigRecord) (o : Option ConfigRecord) → (t ≡ true → is_some o ≡ true) → option_or o (cond t (Some r) None) ≡ o
covered true r None w = let e : is_some {T = ConfigRecord} None ≡ true = w refl in cc
covered true r (Some y) w = refl
covered false r None w = refl
covered false r (Some y) w = refl

dropped_or_not : (b : Bool) (test : ConfigRecord → Bool) (r : ConfigRecord) (kept all : List ConfigRecord) → last_where test kept ≡ last_where test all
    → (b ≡ true → test r ≡ true → is_some (last_where test all) ≡ true) → last_where test (cond b kept (r ∷ kept)) ≡ last_where test (r ∷ all)
dropped_or_not true test r kept all same there = same ∙ sym (last_where-cons test r all ∙ covered (test r) r (last_where test all) (there refl))
dropped_or_not false test r kept all same there =
    last_where-cons test r kept ∙ ap (λ (o : Option ConfigRecord). option_or o (cond (test r) (Some r) None)) same ∙ sym (last_where-cons test r all)

map-cond : (b : Bool) (x : Applied) (xs : List Applied) → map read (cond b xs (x ∷ xs)) ≡ cond b (map read xs) (read x ∷ map read xs)
map-cond true x xs = refl
map-cond false x xs = refl

last_kept : (test : ConfigRecord → Bool) → Respects test → (xs : List Applied) → AreRead xs → last_where test (map read (keep_last xs)) ≡ last_where test (map read xs)
last_kept test respects [] all = refl
last_kept test respects (x ∷ xs) all =
    ap (last_where test) (map-cond (repeats x.key xs) x (keep_last xs))
    ∙ dropped_or_not (repeats x.key xs) test (read x) (map read (keep_last xs)) (map read xs) (last_kept test respects xs all.1)
    (λ (again : repeats x.key xs ≡ true) (passes : test (read x) ≡ true). some_last test x respects all.0 passes xs all.1 again)

-- ---- offsets

rises_lower : (low high : ℕ) (records : List ConfigRecord) → low ≤ high → RisesFrom high records → RisesFrom low records
rises_lower low high [] below rises = tt
rises_lower low high (r ∷ records) below rises = let first : high ≤ r.offset = rises.0 in (omega (arith, below, first), rises.1)

rises_or_not : (b : Bool) (low : ℕ) (r : ConfigRecord) (kept : List ConfigRecord) → low ≤ r.offset → RisesFrom (r.offset + 1) kept → RisesFrom low (cond b kept (r ∷ kept))
rises_or_not true low r kept above rises = let below : low ≤ r.offset + 1 = omega (arith, above) in rises_lower low (r.offset + 1) kept below rises
rises_or_not false low r kept above rises = (above, rises)

rises_kept : (low : ℕ) (xs : List Applied) → RisesFrom low (map read xs) → RisesFrom low (map read (keep_last xs))
rises_kept low [] rises = tt
rises_kept low (x ∷ xs) rises =
    subst (RisesFrom low) (sym (map-cond (repeats x.key xs) x (keep_last xs)))
    (rises_or_not (repeats x.key xs) low (read x) (map read (keep_last xs)) rises.0 (rises_kept ((read x).offset + 1) xs rises.1))

to_offsets : (low : ℕ) (xs : List Applied) → RisesFrom low (map read xs) → OffsetsRise low xs
to_offsets low [] rises = tt
to_offsets low (x ∷ xs) rises =
    (subst (λ (n : ℕ). low ≤ n) (offset_of x) rises.0, to_offsets (x.offset + 1) xs (subst (λ (n : ℕ). RisesFrom (n + 1) (map read xs)) (offset_of x) rises.1))

-- the end is behind the last record
abbrev end_by : ℕ → Option ConfigRecord → ℕ
end_by low o = option_map_or (λ r. r.offset + 1) o low

end_last : (r : ConfigRecord) (low : ℕ) (o : Option ConfigRecord) → end_by (r.offset + 1) o ≡ end_by low (option_or o (Some r))
end_last r low None = refl
end_last r low (Some y) = refl

ends_by_last : (low : ℕ) (records : List ConfigRecord) → RisesFrom low records → ends low records ≡ end_by low (last_where (λ _. true) records)
ends_by_last low [] rises = refl
ends_by_last low (r ∷ records) rises =
    ends-cons low r records rises.0 ∙ ends_by_last (r.offset + 1) records rises.1
    ∙ end_last r low (last_where (λ _. true) records) ∙ ap (end_by low) (sym (last_where-cons (λ _. true) r records))

rises_accepted : (before more : List ConfigRecord) → RisesFrom 0 before → AreAccepted before more → RisesFrom 0 (before ++ more)
rises_accepted before [] rises accepted = subst (RisesFrom 0) (sym (append-nil before)) rises
rises_accepted before (r ∷ more) rises accepted =
    subst (RisesFrom 0) (append_assoc before (r ∷ []) more)
    (rises_accepted (before ++ r ∷ []) more (rises-push 0 before r rises (above_all before r accepted.0)) accepted.1)

accepted_behind : (before front back : List ConfigRecord) → AreAccepted before (front ++ back) → AreAccepted (before ++ front) back
accepted_behind before [] back accepted = subst (λ (l : List ConfigRecord). AreAccepted l back) (sym (append-nil before)) accepted
accepted_behind before (r ∷ front) back accepted =
    subst (λ (l : List ConfigRecord). AreAccepted l back) (append_assoc before (r ∷ []) front) (accepted_behind (before ++ r ∷ []) front back accepted.1)

rises_front : (low : ℕ) (front back : List ConfigRecord) → RisesFrom low (front ++ back) → RisesFrom low front
rises_front low [] back rises = tt
rises_front low (r ∷ front) back rises = (rises.0, rises_front (r.offset + 1) front back rises.1)

-- ---- the clean part

-- a record without its value
abbrev strip : ConfigRecord → ConfigRecord
strip r = record r { value = None }

keyed_is : (a : Applied) → IsSome (config_in a) → keyed a ≡ Some (strip (read a))
keyed_is a some =
    ap (option_map (λ (k : ConfigKey). record { offset = a.offset; stamp = a.stamp; key = k; value = None })) (key_of a some)
    ∙ ap (λ (n : ℕ). Some (record { offset = n; stamp = a.stamp; key = (read a).key; value = None })) (sym (offset_of a))
    ∙ ap (λ (n : ℕ). Some (record { offset = (read a).offset; stamp = n; key = (read a).key; value = None })) (sym (read_stamp a (config_of a.key a.value)))

keyed_reads : (xs : List Applied) → AreRead xs → filter_map keyed xs ≡ map (λ a. strip (read a)) xs
keyed_reads [] all = refl
keyed_reads (a ∷ xs) all =
    ap (λ (o : Option ConfigRecord). cons_option o (filter_map keyed xs)) (keyed_is a all.0) ∙ ap (λ (l : List ConfigRecord). strip (read a) ∷ l) (keyed_reads xs all.1)

take-map : (f : Applied → ConfigRecord) (n : ℕ) (xs : List Applied) → take n (map f xs) ≡ map f (take n xs)
take-map f zero xs = refl
take-map f (suc n) [] = refl
take-map f (suc n) (x ∷ xs) = ap (λ (l : List ConfigRecord). f x ∷ l) (take-map f n xs)

all_front : (front back : List Applied) → AreRead (front ++ back) → AreRead front
all_front [] back all = tt
all_front (x ∷ front) back all = (all.0, all_front front back all.1)

all_back : (front back : List Applied) → AreRead (front ++ back) → AreRead back
all_back [] back all = all
all_back (x ∷ front) back all = all_back front back all.1

all_kept : (xs : List Applied) → AreRead xs → AreRead (keep_last xs)
all_kept [] all = tt
all_kept (x ∷ xs) all = by (repeats x.key xs) (all_kept xs all.1)
  where
    by : (b : Bool) → AreRead (keep_last xs) → AreRead (cond b (keep_last xs) (x ∷ keep_last xs))
    by true rest = rest
    by false rest = (all.0, rest)

last_stripped : (test : ConfigRecord → Bool) → ((r : ConfigRecord) → test (strip r) ≡ test r) → (xs : List Applied)
    → last_where test (map (λ a. strip (read a)) xs) ≡ option_map strip (last_where test (map read xs))
last_stripped test same [] = refl
last_stripped test same (x ∷ xs) =
    last_where-cons test (strip (read x)) (map (λ a. strip (read a)) xs)
    ∙ ap (λ (o : Option ConfigRecord). option_or o (cond (test (strip (read x))) (Some (strip (read x))) None)) (last_stripped test same xs)
    ∙ ap (λ (b : Bool). option_or (option_map strip (last_where test (map read xs))) (cond b (Some (strip (read x))) None)) (same (read x))
    ∙ joins (last_where test (map read xs)) (test (read x))
    ∙ ap (option_map strip) (sym (last_where-cons test (read x) (map read xs)))
  where
    joins : (o : Option ConfigRecord) (b : Bool) → option_or (option_map strip o) (cond b (Some (strip (read x))) None) ≡ option_map strip (option_or o (cond b (Some (read x)) None))
    joins None true = refl
    joins None false = refl
    joins (Some y) b = refl

unstripped : (o q : Option ConfigRecord) → IfSome (option_map strip o) (λ y. is_behind (option_map (λ r. r.offset) (option_map strip q)) y ≡ false)
    → IfSome o (λ y. is_behind (option_map (λ r. r.offset) q) y ≡ false)
unstripped None q w = tt
unstripped (Some y) None w = w
unstripped (Some y) (Some q) w = w

module _ (xs : List Applied) (all : AreRead xs) (rises : RisesFrom 0 (map read xs)) (clean : is_clean (map (λ a. strip (read a)) xs) ≡ true) where
  none_waits_there : (id : TaskId) → NoneWaits id (map read xs)
  none_waits_there id =
      unstripped (last_of (Task id) (map read xs)) (last_of (Commit id.connector) (map read xs))
      (subst (λ (q : Option ConfigRecord). IfSome (option_map strip (last_of (Task id) (map read xs))) (λ y. is_behind (option_map (λ r. r.offset) q) y ≡ false))
      (last_stripped (has_key (Commit id.connector)) (λ r. refl) xs)
      (subst (λ (o : Option ConfigRecord). IfSome o (λ y. is_behind (generation_of id.connector (map (λ a. strip (read a)) xs)) y ≡ false))
      (last_stripped (has_key (Task id)) (λ r. refl) xs)
      (none_waits (map (λ a. strip (read a)) xs) clean id)))

  same_last : (key : ConfigKey) → last_of key (map read (keep_last xs)) ≡ last_of key (map read xs)
  same_last key = last_kept (has_key key) (respects_key key) xs all

  none_waits_kept : (id : TaskId) → NoneWaits id (map read (keep_last xs))
  none_waits_kept id =
      subst (λ (q : Option ConfigRecord). IfSome (last_of (Task id) (map read (keep_last xs))) (λ y. is_behind (option_map (λ r. r.offset) q) y ≡ false)) (sym (same_last (Commit id.connector)))
      (subst (λ (o : Option ConfigRecord). IfSome o (λ y. is_behind (generation_of id.connector (map read xs)) y ≡ false)) (sym (same_last (Task id))) (none_waits_there id))

  -- the last records of a clean part say what all of it says
  clean_alike : Alike (map read (keep_last xs)) (map read xs)
  clean_alike = record {
    rises = rises_kept 0 xs rises;
    rises_too = rises;
    end = ends_by_last 0 (map read (keep_last xs)) (rises_kept 0 xs rises)
        ∙ ap (end_by 0) (last_kept (λ _. true) (λ x y is_x is_y same passes. refl) xs all)
        ∙ sym (ends_by_last 0 (map read xs) rises);
    last = same_last;
    committed = λ id.
        committed_clean id (map read (keep_last xs)) (rises_kept 0 xs rises) (none_waits_kept id) ∙ same_last (Task id)
        ∙ sym (committed_clean id (map read xs) rises (none_waits_there id));
  }

-- ---- all together

module _ (xs : List Applied) (all : AreRead xs) (accepted : AreAccepted [] (filter_map config_in xs)) where
  abbrev point : ℕ
  point = clean_point (filter_map keyed xs)

  abbrev front : List Applied
  front = take point xs

  abbrev back : List Applied
  back = drop point xs

  parts : front ++ back ≡ xs
  parts = take-append-drop point xs

  all_parts : AreRead (front ++ back)
  all_parts = subst AreRead (sym parts) all

  whole : filter_map config_in xs ≡ map read front ++ map read back
  whole = ap (filter_map config_in) (sym parts) ∙ filter_map-append config_in front back
      ∙ ap (λ (l : List ConfigRecord). l ++ filter_map config_in back) (reads front (all_front front back all_parts))
      ∙ ap (λ (l : List ConfigRecord). map read front ++ l) (reads back (all_back front back all_parts))

  rises_whole : RisesFrom 0 (map read front ++ map read back)
  rises_whole = subst (RisesFrom 0) whole (rises_accepted [] (filter_map config_in xs) tt accepted)

  rises_xs : OffsetsRise 0 (front ++ back)
  rises_xs = subst (OffsetsRise 0) (sym parts) (to_offsets 0 xs (subst (RisesFrom 0) (reads xs all) (rises_accepted [] (filter_map config_in xs) tt accepted)))

  stays_is : filter (config_stays front) xs ≡ keep_last front ++ back
  stays_is =
      ap (filter (config_stays front)) (sym parts)
      ∙ split_staying (is_last front) front back rises_xs
      ∙ ap (λ (l : List Applied). l ++ back) (kept_last front (rise_front 0 front back rises_xs))

  left : filter_map config_in (filter (config_stays front) xs) ≡ map read (keep_last front) ++ map read back
  left = ap (filter_map config_in) stays_is ∙ filter_map-append config_in (keep_last front) back
      ∙ ap (λ (l : List ConfigRecord). l ++ filter_map config_in back) (reads (keep_last front) (all_kept front (all_front front back all_parts)))
      ∙ ap (λ (l : List ConfigRecord). map read (keep_last front) ++ l) (reads back (all_back front back all_parts))

  clean : is_clean (map (λ a. strip (read a)) front) ≡ true
  clean = subst (λ (l : List ConfigRecord). is_clean l ≡ true)
      (ap (λ (l : List ConfigRecord). take point l) (keyed_reads xs all) ∙ take-map (λ a. strip (read a)) point xs) (clean_there (filter_map keyed xs))

  alike : Alike (map read (keep_last front) ++ map read back) (map read front ++ map read back)
  alike =
      let rises_there : RisesFrom 0 (map read front) = rises_front 0 (map read front) (map read back) rises_whole in
      alike-append (map read (keep_last front)) (map read front) (map read back)
      (clean_alike front (all_front front back all_parts) rises_there clean)
      (accepted_behind [] (map read front) (map read back) (subst (AreAccepted []) whole accepted))

  same_behind : SaysTheSameBehind (filter_map config_in (filter (config_stays front) xs)) (filter_map config_in xs)
  same_behind = subst (λ (l : List ConfigRecord). SaysTheSameBehind l (filter_map config_in xs)) (sym left)
      (subst (λ (l : List ConfigRecord). SaysTheSameBehind (map read (keep_last front) ++ map read back) l) (sym whole)
      (λ (more : List ConfigRecord) (further : AreAccepted (map read front ++ map read back) more).
      says_the_same ((map read (keep_last front) ++ map read back) ++ more) ((map read front ++ map read back) ++ more)
      (alike-append (map read (keep_last front) ++ map read back) (map read front ++ map read back) more alike further)))

pub compacted : (frames : List (List Applied)) → AreConfigs frames → AreAccepted [] (configs_in frames) → SaysTheSameBehind (configs_in (compact_configs frames)) (configs_in frames)
compacted frames all accepted =
    subst (λ (l : List Applied). SaysTheSameBehind (filter_map config_in l) (configs_in frames)) (sym (joined-staying (config_stays (clean_part (joined frames))) frames))
    (same_behind (joined frames) all accepted)
