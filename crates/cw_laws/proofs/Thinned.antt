-- A list of configs of which records go that come again: what is left is allowed where it stands, and each fence stands
-- there as before.
use Rattle.std.proofs.Common.{◌≡◌, ◌⊎◌, inl, inr, ℕ, zero, suc, ◌+◌, ◌<◌, ◌≤◌, Bool, true, false, ◌&&◌, ◌||◌, cond, List, [], ◌∷◌, ◌++◌, Option, None, Some, IsSome, unwrap_or, refl, ap, sym, subst, ◌∙◌, append_assoc, arith}
use Rattle.std.proofs.lemmas.Bool.{false_from_ne_true}
use Rattle.std.specs.Option.{IfSome, option_and_then, option_map, option_or, is_some}
use Rattle.std.specs.List.{list_all, list_any, range_with_len}
use Rattle.std.proofs.lemmas.Bool.Decides.{nat_tests}
use Rattle.std.proofs.lemmas.List.{append-nil}
use Rattle.cw_types.specs.declared.ids.TaskId.{TaskId}
use Rattle.cw_keys.specs.declared.config_key.ConfigKey.{ConfigKey}
use Rattle.cw_keys.specs.declared.config_key.ConfigKey.TheVariants as key
use Rattle.cw_keys.specs.declared.config_value.ConfigValue.{ConfigValue}
use Rattle.cw_keys.specs.declared.config_value.ConfigValue.TheVariants as value
use Rattle.cw_keys.specs.declared.target.Target.{Target}
use Rattle.cw_keys.specs.declared.target.Target.TheVariants.{Started, Stopped}
use Rattle.cw_plugin.specs.Tasks.{ShareNone, parts_at}
use Rattle.cw_config.specs.declared.records.ConfigRecord.{ConfigRecord}
use Rattle.cw_config.specs.Records.{same_key, has_key, last_of, value_of}
use Rattle.cw_config.specs.View.{properties_in, count_in, target_in, generation_of, task_count_of, target_of, deferred_record, is_behind}
use Rattle.cw_config.specs.Acceptance.{end_of, has_tasks}
use Rattle.cw_config.specs.Tables.{RisesFrom}
use Rattle.cw_config.proofs.Rising.{last_where-push, last_where-cons, ends, Within, found_within, rises-push, if_behind, last_behind}
use Rattle.cw_config.proofs.Pushed.{end_of-push}
use Rattle.cw_config.proofs.Clean.{NoneWaits}
use Rattle.cw_model.specs.ConfigsAllowed.{waiting_parts, FitsCommit, FitsTarget, FitsFence, FitsBehind, IsAllowedConfig, AreAllowedConfigs}
use Rattle.cw_model.specs.Fences.{StandingFence}
use Rattle.cw_laws.proofs.Keys.{same_key-is, same_key-itself, last_where-append, some_last, no_last}

-- whether a key comes again
abbrev pub comes : ConfigKey → List ConfigRecord → Bool
comes key rest = list_any (has_key key) rest

-- of each key the last record
abbrev pub lasts : List ConfigRecord → List ConfigRecord
lasts [] = []
lasts (r ∷ rest) = cond (comes r.key rest) (lasts rest) (r ∷ lasts rest)

-- fewer records stand for those before: none has a key that comes again, and of each other key the last is there
pub record IsThinned (fewer before rest : List ConfigRecord) : Type 0 where
  pub rises : RisesFrom 0 fewer
  pub rises_too : RisesFrom 0 before
  pub end : end_of fewer ≤ end_of before
  pub last : (k : ConfigKey) → last_of k fewer ≡ cond (comes k rest) None (last_of k before)

-- ---- one record more

drop_by : (b c : Bool) (l o : Option ConfigRecord) (x : ConfigRecord) → l ≡ cond (b || c) None o → (b ≡ true → c ≡ true) → l ≡ cond c None (cond b (Some x) o)
drop_by true true l o x e so = e
drop_by true false l o x e so = absurd (let never : false ≡ true = so refl in cc)
drop_by false true l o x e so = e
drop_by false false l o x e so = e

keep_by : (b c : Bool) (l o : Option ConfigRecord) (x : ConfigRecord) → l ≡ cond (b || c) None o → (b ≡ true → c ≡ false) → cond b (Some x) l ≡ cond c None (cond b (Some x) o)
keep_by true true l o x e so = absurd (let never : true ≡ false = so refl in cc)
keep_by true false l o x e so = refl
keep_by false true l o x e so = e
keep_by false false l o x e so = e

module _ (fewer before rest : List ConfigRecord) (x : ConfigRecord) (above : end_of before ≤ x.offset) where
  -- a key that is the record's own comes again as that does
  as_own : (b : Bool) → comes x.key rest ≡ b → (k : ConfigKey) → has_key k x ≡ true → comes k rest ≡ b
  as_own b comes_again k own = subst (λ (o : ConfigKey). comes o rest ≡ b) (same_key-is x.key k own) comes_again

  pub thinned-drop : IsThinned fewer before (x ∷ rest) → comes x.key rest ≡ true → IsThinned fewer (before ++ x ∷ []) rest
  thinned-drop thinned again = record {
    rises = thinned.rises;
    rises_too = rises-push 0 before x thinned.rises_too above;
    end = omega (arith, thinned.end, end_of-push before x);
    last = λ k.
        subst (λ (o : Option ConfigRecord). last_of k fewer ≡ cond (comes k rest) None o) (sym (last_where-push (has_key k) before x))
        (drop_by (has_key k x) (comes k rest) (last_of k fewer) (last_of k before) x (thinned.last k) (as_own true again k));
  }

  higher : end_of fewer ≤ end_of before → end_of fewer ≤ x.offset
  higher end = omega (arith, end, above)

  pub thinned-keep : IsThinned fewer before (x ∷ rest) → comes x.key rest ≡ false → IsThinned (fewer ++ x ∷ []) (before ++ x ∷ []) rest
  thinned-keep thinned never = record {
    rises = rises-push 0 fewer x thinned.rises (higher thinned.end);
    rises_too = rises-push 0 before x thinned.rises_too above;
    end = omega (arith, thinned.end, end_of-push before x, end_of-push fewer x);
    last = λ k.
        subst (λ (o : Option ConfigRecord). o ≡ cond (comes k rest) None (last_of k (before ++ x ∷ []))) (sym (last_where-push (has_key k) fewer x))
        (subst (λ (o : Option ConfigRecord). cond (has_key k x) (Some x) (last_of k fewer) ≡ cond (comes k rest) None o) (sym (last_where-push (has_key k) before x))
        (keep_by (has_key k x) (comes k rest) (last_of k fewer) (last_of k before) x (thinned.last k) (as_own false never k)));
  }

  pub thinned-behind : IsThinned fewer before [] → IsThinned (fewer ++ x ∷ []) (before ++ x ∷ []) []
  thinned-behind thinned = record {
    rises = rises-push 0 fewer x thinned.rises (higher thinned.end);
    rises_too = rises-push 0 before x thinned.rises_too above;
    end = omega (arith, thinned.end, end_of-push before x, end_of-push fewer x);
    last = λ k.
        last_where-push (has_key k) fewer x ∙ ap (λ (o : Option ConfigRecord). cond (has_key k x) (Some x) o) (thinned.last k)
        ∙ sym (last_where-push (has_key k) before x);
  }

-- ---- what a record must be

each_from : (p : ℕ → Bool) (a n : ℕ) → list_all p (range_with_len a n) ≡ true → (i : ℕ) → i < n → p (a + i) ≡ true
each_from p a zero e i below = absurd (omega arith)
each_from p a (suc n) e zero below = subst (λ (m : ℕ). p m ≡ true) (omega arith) (first (p a) (list_all p (range_with_len (a + 1) n)) e)
  where
    first : (x y : Bool) → (x && y) ≡ true → x ≡ true
    first true y e = refl
    first false y e = e
each_from p a (suc n) e (suc i) below =
    subst (λ (m : ℕ). p m ≡ true) (omega arith) (each_from p (a + 1) n (second (p a) (list_all p (range_with_len (a + 1) n)) e) i (omega arith))
  where
    second : (x y : Bool) → (x && y) ≡ true → y ≡ true
    second true y e = e
    second false y e = absurd (cc)

each_below : (p : ℕ → Bool) (n : ℕ) → list_all p (range_with_len 0 n) ≡ true → (i : ℕ) → i < n → p i ≡ true
each_below p n e i below = subst (λ (m : ℕ). p m ≡ true) (omega arith) (each_from p 0 n e i below)

all_weaker : (p q : ℕ → Bool) → ((i : ℕ) → p i ≡ true → q i ≡ true) → (xs : List ℕ) → list_all p xs ≡ true → list_all q xs ≡ true
all_weaker p q so [] e = refl
all_weaker p q so (x ∷ xs) e = by (p x) refl e (all_weaker p q so xs)
  where
    by : (b : Bool) → p x ≡ b → (b && list_all p xs) ≡ true → (list_all p xs ≡ true → list_all q xs ≡ true) → (q x && list_all q xs) ≡ true
    by true is e rest = ap (λ (c : Bool). c && list_all q xs) (so x is) ∙ rest e
    by false is e rest = absurd (cc)

-- where less is known, nothing else is
abbrev NoneOrSame : List ConfigRecord → List ConfigRecord → Type 0
NoneOrSame fewer before = (k : ConfigKey) → (last_of k fewer ≡ None) ⊎ (last_of k fewer ≡ last_of k before)

module _ (fewer before : List ConfigRecord) (known : NoneOrSame fewer before) where
  abbrev count_by : Option ConfigRecord → ℕ
  count_by o = unwrap_or (option_and_then count_in (value_of o)) 0

  abbrev target_by : Option ConfigRecord → Target
  target_by o = unwrap_or (option_and_then target_in (value_of o)) Started

  count_known : (name : List ℕ) → (task_count_of name fewer ≡ 0) ⊎ (task_count_of name fewer ≡ task_count_of name before)
  count_known name = elim (known (key.Commit name)) [ inl none ↦ inl (ap count_by none) | inr same ↦ inr (ap count_by same) ]

  fits_target : (name : List ℕ) (target : Target) → FitsTarget before name target → FitsTarget fewer name target
  fits_target name target fits stopped = elim (count_known name) [ inl none ↦ none | inr same ↦ same ∙ fits stopped ]

  fits_fence : (name : List ℕ) (count : ℕ) → FitsFence before name count → FitsFence fewer name count
  fits_fence name count fits some = elim (known (key.Commit name)) [
    | inl none ↦ absurd (let never : false ≡ true = subst (λ (o : Option ConfigRecord). IsSome (option_map (λ r. r.offset) o)) none some in cc)
    | inr same ↦ fits (subst (λ (o : Option ConfigRecord). IsSome (option_map (λ r. r.offset) o)) same some) ∙ sym (ap count_by same)
  ]

  not_stopped : Started ≡ Stopped → ⊥
  not_stopped e = absurd (cc)

  fits_stopped : (name : List ℕ) (count : ℕ) → (target_of name before ≡ Stopped → count ≡ 0) → target_of name fewer ≡ Stopped → count ≡ 0
  fits_stopped name count fits stopped = elim (known (key.Target name)) [
    | inl none ↦ absurd (not_stopped (sym (ap target_by none) ∙ stopped))
    | inr same ↦ fits (sym (ap target_by same) ∙ stopped)
  ]

  -- a task's record that waits for the commit stays there
  module _ (name : List ℕ) (tasks : (index : ℕ) → is_some (deferred_record (record { connector = name; index = index }) before) ≡ true
      → deferred_record (record { connector = name; index = index }) fewer ≡ deferred_record (record { connector = name; index = index }) before) where
    abbrev id_of : ℕ → TaskId
    id_of index = record { connector = name; index = index }

    has_fewer : (index : ℕ) → is_some (deferred_record (id_of index) before) ≡ true → is_some (deferred_record (id_of index) fewer) ≡ true
    has_fewer index some = ap is_some (tasks index some) ∙ some

    same_parts : (count : ℕ) → has_tasks name count before ≡ true → (i : ℕ) → i < count → waiting_parts fewer name i ≡ waiting_parts before name i
    same_parts count has i below =
        let some : is_some (deferred_record (id_of i) before) ≡ true = each_below (λ index. is_some (deferred_record (id_of index) before)) count has i below in
        ap (λ (o : Option ConfigRecord). parts_at name (unwrap_or (option_and_then properties_in (value_of o)) [])) (tasks i some)

    fits_commit : (count : ℕ) → FitsCommit before name count → FitsCommit fewer name count
    fits_commit count fits = record {
      tasks = all_weaker (λ index. is_some (deferred_record (id_of index) before)) (λ index. is_some (deferred_record (id_of index) fewer)) has_fewer (range_with_len 0 count) fits.tasks;
      apart = λ i j less below.
          subst (λ ps. ShareNone ps (waiting_parts fewer name j)) (sym (same_parts count fits.tasks i (omega arith)))
          (subst (λ ps. ShareNone (waiting_parts before name i) ps) (sym (same_parts count fits.tasks j below)) (fits.apart i j less below));
      stopped = fits_stopped name count fits.stopped;
    }

  -- what waits for a commit of this key is there
  abbrev pub WaitsToo : ConfigKey → Type 0
  WaitsToo k = (id : TaskId) → k ≡ key.Commit id.connector → is_some (deferred_record id before) ≡ true → deferred_record id fewer ≡ deferred_record id before

  pub fits_fewer : (k : ConfigKey) (v : Option ConfigValue) → WaitsToo k → FitsBehind before k v → FitsBehind fewer k v
  fits_fewer (key.Connector name) (Some (value.Connector props)) waits fits = fits
  fits_fewer (key.Task id) (Some (value.Task props)) waits fits = fits
  fits_fewer (key.Commit name) (Some (value.Commit count)) waits fits = fits_commit name (λ index. waits (record { connector = name; index = index }) refl) count fits
  fits_fewer (key.Target name) (Some (value.Target target)) waits fits = fits_target name target fits
  fits_fewer (key.Fencing name) (Some (value.Fencing count)) waits fits = fits_fence name count fits
  fits_fewer k v waits fits = tt

  pub allowed_fewer : (x : ConfigRecord) → end_of fewer ≤ end_of before → WaitsToo x.key → IsAllowedConfig before x → IsAllowedConfig fewer x
  allowed_fewer x end waits allowed = record {
    rising = omega (arith, end, allowed.rising);
    key = allowed.key;
    kind = allowed.kind;
    value = allowed.value;
    fits = fits_fewer x.key x.value waits allowed.fits;
  }

-- ---- a thinned list

none_or_same : (fewer before rest : List ConfigRecord) → IsThinned fewer before rest → NoneOrSame fewer before
none_or_same fewer before rest thinned k = by (comes k rest) (thinned.last k)
  where
    by : (b : Bool) → last_of k fewer ≡ cond b None (last_of k before) → (last_of k fewer ≡ None) ⊎ (last_of k fewer ≡ last_of k before)
    by true e = inl e
    by false e = inr e

abbrev offset_in : Option ConfigRecord → Option ℕ
offset_in o = option_map (λ (r : ConfigRecord). r.offset) o

deferred_is : (id : TaskId) (records : List ConfigRecord) → RisesFrom 0 records → deferred_record id records ≡ if_behind (generation_of id.connector records) (last_of (key.Task id) records)
deferred_is id records rises = last_behind (has_key (key.Task id)) (generation_of id.connector records) 0 records rises

-- behind the point from which all stay
waits_behind : (fewer before : List ConfigRecord) (thinned : IsThinned fewer before []) (k : ConfigKey) → WaitsToo fewer before (none_or_same fewer before [] thinned) k
waits_behind fewer before thinned k id is some =
    deferred_is id fewer thinned.rises
    ∙ ap (λ (o : Option ConfigRecord). if_behind (offset_in o) (last_of (key.Task id) fewer)) (thinned.last (key.Commit id.connector))
    ∙ ap (if_behind (generation_of id.connector before)) (thinned.last (key.Task id))
    ∙ sym (deferred_is id before thinned.rises_too)

pub behind-allowed : (fewer before back : List ConfigRecord) → IsThinned fewer before [] → AreAllowedConfigs before back → AreAllowedConfigs fewer back
behind-allowed fewer before [] thinned allowed = tt
behind-allowed fewer before (x ∷ back) thinned allowed = (
  allowed_fewer fewer before (none_or_same fewer before [] thinned) x thinned.end (waits_behind fewer before thinned x.key) allowed.0,
  behind-allowed (fewer ++ x ∷ []) (before ++ x ∷ []) back (thinned-behind fewer before [] x allowed.0.rising thinned) allowed.1,
)

-- no task's config waits
abbrev pub IsCleanList : List ConfigRecord → Type 0
IsCleanList records = (id : TaskId) → NoneWaits id records

behind_none : (o : Option ConfigRecord) → if_behind None o ≡ o
behind_none None = refl
behind_none (Some r) = refl

some_behind : (g : Option ℕ) (o : Option ConfigRecord) → is_some (if_behind g o) ≡ true → if_behind g o ≡ o
some_behind g None e = refl
some_behind g (Some r) e = by (is_behind g r) e
  where
    by : (b : Bool) → is_some (cond b (Some r) None) ≡ true → cond b (Some r) None ≡ Some r
    by true e = refl
    by false e = absurd (cc)

-- a task's record that stands behind the last commit would wait
late : (x : ConfigRecord) (o p : Option ConfigRecord) → IfSome o (λ y. x.offset + 1 ≤ y.offset) → is_some o ≡ true
    → IfSome (option_or o p) (λ y. is_behind (Some x.offset) y ≡ false) → ⊥
late x None p above some waits = absurd (let never : false ≡ true = some in cc)
late x (Some y) p above some waits = let less : x.offset < y.offset = omega (arith, above) in absurd (grind (arith, nat_tests))

within_above : (low high : ℕ) (o : Option ConfigRecord) → IfSome o (Within low high) → IfSome o (λ y. low ≤ y.offset)
within_above low high None w = tt
within_above low high (Some y) w = w.0

module _ (before rest : List ConfigRecord) (x : ConfigRecord) (id : TaskId) (commits : x.key ≡ key.Commit id.connector) (never : comes x.key rest ≡ false)
    (rises : RisesFrom (x.offset + 1) rest) (clean : IsCleanList (before ++ x ∷ rest)) where
  own_commit : has_key (key.Commit id.connector) x ≡ true
  own_commit = ap (λ (k : ConfigKey). same_key k (key.Commit id.connector)) commits ∙ same_key-itself (key.Commit id.connector)

  last_commit : last_of (key.Commit id.connector) (before ++ x ∷ rest) ≡ Some x
  last_commit =
      last_where-append (has_key (key.Commit id.connector)) before (x ∷ rest)
      ∙ ap (λ (o : Option ConfigRecord). option_or o (last_of (key.Commit id.connector) before)) (last_where-cons (has_key (key.Commit id.connector)) x rest)
      ∙ ap (λ (o : Option ConfigRecord). option_or (option_or o (cond (has_key (key.Commit id.connector) x) (Some x) None)) (last_of (key.Commit id.connector) before))
      (no_last (has_key (key.Commit id.connector)) rest (subst (λ (k : ConfigKey). comes k rest ≡ false) commits never))
      ∙ ap (λ (b : Bool). option_or (cond b (Some x) None) (last_of (key.Commit id.connector) before)) own_commit

  last_task : (p : Option ConfigRecord) → last_of (key.Task id) (before ++ x ∷ rest) ≡ option_or (last_of (key.Task id) rest) (option_or (cond (has_key (key.Task id) x) (Some x) None) p)
      → comes (key.Task id) rest ≡ true → ⊥
  last_task p is some =
      late x (last_of (key.Task id) rest) (option_or (cond (has_key (key.Task id) x) (Some x) None) p)
      (within_above (x.offset + 1) (ends (x.offset + 1) rest) (last_of (key.Task id) rest) (found_within (has_key (key.Task id)) (x.offset + 1) rest rises))
      (some_last (has_key (key.Task id)) rest ∙ some)
      (subst (λ (o : Option ConfigRecord). IfSome o (λ y. is_behind (Some x.offset) y ≡ false)) is
      (subst (λ (o : Option ConfigRecord). IfSome (last_of (key.Task id) (before ++ x ∷ rest)) (λ y. is_behind (offset_in o) y ≡ false)) last_commit (clean id)))

  or_or : (a b c : Option ConfigRecord) → option_or (option_or a b) c ≡ option_or a (option_or b c)
  or_or None b c = refl
  or_or (Some y) b c = refl

  -- no record of its tasks stands behind the last commit
  pub no_task_behind : comes (key.Task id) rest ≡ false
  no_task_behind = false_from_ne_true (comes (key.Task id) rest)
      (last_task (last_of (key.Task id) before)
      (last_where-append (has_key (key.Task id)) before (x ∷ rest)
      ∙ ap (λ (o : Option ConfigRecord). option_or o (last_of (key.Task id) before)) (last_where-cons (has_key (key.Task id)) x rest)
      ∙ or_or (last_of (key.Task id) rest) (cond (has_key (key.Task id) x) (Some x) None) (last_of (key.Task id) before)))

waits_kept : (fewer before rest : List ConfigRecord) (x : ConfigRecord) (thinned : IsThinned fewer before (x ∷ rest)) → comes x.key rest ≡ false → RisesFrom (x.offset + 1) rest
    → IsCleanList (before ++ x ∷ rest) → WaitsToo fewer before (none_or_same fewer before (x ∷ rest) thinned) x.key
waits_kept fewer before rest x thinned never rises clean id commits some =
    let commit_comes : comes (key.Commit id.connector) (x ∷ rest) ≡ true = ap (λ (b : Bool). b || comes (key.Commit id.connector) rest) (own_commit before rest x id commits never rises clean) in
    let no_commit : last_of (key.Commit id.connector) fewer ≡ None = thinned.last (key.Commit id.connector) ∙ ap (λ (b : Bool). cond b None (last_of (key.Commit id.connector) before)) commit_comes in
    let not_own : has_key (key.Task id) x ≡ false = ap (λ (k : ConfigKey). same_key k (key.Task id)) commits in
    let none_comes : comes (key.Task id) (x ∷ rest) ≡ false = ap (λ (b : Bool). b || comes (key.Task id) rest) not_own ∙ no_task_behind before rest x id commits never rises clean in
    let same_task : last_of (key.Task id) fewer ≡ last_of (key.Task id) before = thinned.last (key.Task id) ∙ ap (λ (b : Bool). cond b None (last_of (key.Task id) before)) none_comes in
    let waiting : is_some (if_behind (generation_of id.connector before) (last_of (key.Task id) before)) ≡ true = sym (ap is_some (deferred_is id before thinned.rises_too)) ∙ some in
    deferred_is id fewer thinned.rises
    ∙ ap (λ (o : Option ConfigRecord). if_behind (offset_in o) (last_of (key.Task id) fewer)) no_commit
    ∙ behind_none (last_of (key.Task id) fewer) ∙ same_task
    ∙ sym (some_behind (generation_of id.connector before) (last_of (key.Task id) before) waiting)
    ∙ sym (deferred_is id before thinned.rises_too)

chosen : (P : List ConfigRecord → Type 0) (b : Bool) (x : ConfigRecord) (l back : List ConfigRecord) → (b ≡ true → P (l ++ back)) → (b ≡ false → P (x ∷ l ++ back)) → P (cond b l (x ∷ l) ++ back)
chosen P true x l back dropped kept = dropped refl
chosen P false x l back dropped kept = kept refl

-- the last of each key are allowed where they stand, and what stands behind them, too
pub lasts-allowed : (fewer before rest back : List ConfigRecord) → IsThinned fewer before rest → RisesFrom (end_of before) rest → IsCleanList (before ++ rest) → AreAllowedConfigs before (rest ++ back)
    → AreAllowedConfigs fewer (lasts rest ++ back)
lasts-allowed fewer before [] back thinned rises clean allowed = behind-allowed fewer before back thinned allowed
lasts-allowed fewer before (x ∷ rest) back thinned rises clean allowed =
    let above : end_of before ≤ x.offset = rises.0 in
    let next : end_of (before ++ x ∷ []) ≡ x.offset + 1 = omega (arith, end_of-push before x, above) in
    let rising : RisesFrom (end_of (before ++ x ∷ [])) rest = subst (λ (n : ℕ). RisesFrom n rest) (sym next) rises.1 in
    let clean_on : IsCleanList ((before ++ x ∷ []) ++ rest) = subst IsCleanList (sym (append_assoc before (x ∷ []) rest)) clean in
    chosen (AreAllowedConfigs fewer) (comes x.key rest) x (lasts rest) back
    (λ again. lasts-allowed fewer (before ++ x ∷ []) rest back (thinned-drop fewer before rest x above thinned again) rising clean_on allowed.1)
    (λ never. (
      allowed_fewer fewer before (none_or_same fewer before (x ∷ rest) thinned) x thinned.end (waits_kept fewer before rest x thinned never rises.1 clean) allowed.0,
      lasts-allowed (fewer ++ x ∷ []) (before ++ x ∷ []) rest back (thinned-keep fewer before rest x above thinned never) rising clean_on allowed.1,
    ))

-- ---- fences

-- a fence of a connector stands in a list behind others
pub record IsFenceAt (name : List ℕ) (generation mark : ℕ) (before : List ConfigRecord) (x : ConfigRecord) : Type 0 where
  pub fences : has_key (key.Fencing name) x ≡ true
  pub stamped : x.stamp ≡ mark
  pub of_generation : generation_of name before ≡ Some generation

abbrev pub FencesFrom : (name : List ℕ) (generation mark : ℕ) → (before xs : List ConfigRecord) → Type 0
FencesFrom name generation mark before [] = ⊥
FencesFrom name generation mark before (x ∷ xs) = IsFenceAt name generation mark before x ⊎ FencesFrom name generation mark (before ++ x ∷ []) xs

module _ (name : List ℕ) (generation mark : ℕ) where
  fences-split : (before front : List ConfigRecord) (fence : ConfigRecord) (behind : List ConfigRecord) → IsFenceAt name generation mark (before ++ front) fence
      → FencesFrom name generation mark before (front ++ fence ∷ behind)
  fences-split before [] fence behind at = inl (subst (λ l. IsFenceAt name generation mark l fence) (append-nil before) at)
  fences-split before (x ∷ front) fence behind at =
      inr (fences-split (before ++ x ∷ []) front fence behind (subst (λ l. IsFenceAt name generation mark l fence) (sym (append_assoc before (x ∷ []) front)) at))

  pub fences-of : (xs : List ConfigRecord) → StandingFence xs name generation mark → FencesFrom name generation mark [] xs
  fences-of xs standing =
      subst (FencesFrom name generation mark []) (sym standing.split)
      (fences-split [] standing.before standing.fence standing.behind (record { fences = standing.fences; stamped = standing.stamped; of_generation = standing.of_generation }))

  pub of-fences : (before xs : List ConfigRecord) → FencesFrom name generation mark before xs → StandingFence (before ++ xs) name generation mark
  of-fences before [] none = absurd none
  of-fences before (x ∷ xs) fences = elim fences [
    | inl at ↦ record { before = before; fence = x; behind = xs; split = refl; fences = at.fences; stamped = at.stamped; of_generation = at.of_generation }
    | inr later ↦ subst (λ l. StandingFence l name generation mark) (append_assoc before (x ∷ []) xs) (of-fences (before ++ x ∷ []) xs later)
  ]

  -- where a fence stands with a commit before it, that is the last one
  at_fewer : (fewer before : List ConfigRecord) (x : ConfigRecord) → NoneOrSame fewer before → IsFenceAt name generation mark fewer x → IsFenceAt name generation mark before x
  at_fewer fewer before x known at = record {
    fences = at.fences;
    stamped = at.stamped;
    of_generation = elim (known (key.Commit name)) [
      | inl none ↦ absurd (let never : None ≡ Some generation = sym (ap offset_in none) ∙ at.of_generation in cc)
      | inr same ↦ sym (ap offset_in same) ∙ at.of_generation
    ];
  }

  fences-behind : (fewer before back : List ConfigRecord) → IsThinned fewer before [] → RisesFrom (end_of before) back → FencesFrom name generation mark fewer back
      → FencesFrom name generation mark before back
  fences-behind fewer before [] thinned rises none = none
  fences-behind fewer before (x ∷ back) thinned rises fences =
      let above : end_of before ≤ x.offset = rises.0 in
      let next : end_of (before ++ x ∷ []) ≡ x.offset + 1 = omega (arith, end_of-push before x, above) in
      elim fences [
        | inl at ↦ inl (at_fewer fewer before x (none_or_same fewer before [] thinned) at)
        | inr later ↦ inr (fences-behind (fewer ++ x ∷ []) (before ++ x ∷ []) back (thinned-behind fewer before [] x above thinned) (subst (λ (n : ℕ). RisesFrom n back) (sym next) rises.1) later)
      ]

  -- a fence that stands among the last of each key stands in the whole list
  pub fences-lasts : (fewer before rest back : List ConfigRecord) → IsThinned fewer before rest → RisesFrom (end_of before) (rest ++ back)
      → FencesFrom name generation mark fewer (lasts rest ++ back) → FencesFrom name generation mark before (rest ++ back)
  fences-lasts fewer before [] back thinned rises fences = fences-behind fewer before back thinned rises fences
  fences-lasts fewer before (x ∷ rest) back thinned rises fences =
      let above : end_of before ≤ x.offset = rises.0 in
      let next : end_of (before ++ x ∷ []) ≡ x.offset + 1 = omega (arith, end_of-push before x, above) in
      let rising : RisesFrom (end_of (before ++ x ∷ [])) (rest ++ back) = subst (λ (n : ℕ). RisesFrom n (rest ++ back)) (sym next) rises.1 in
      chosen (λ l. FencesFrom name generation mark fewer l → FencesFrom name generation mark before (x ∷ rest ++ back)) (comes x.key rest) x (lasts rest) back
      (λ again there. inr (fences-lasts fewer (before ++ x ∷ []) rest back (thinned-drop fewer before rest x above thinned again) rising there))
      (λ never there. elim there [
        | inl at ↦ inl (at_fewer fewer before x (none_or_same fewer before (x ∷ rest) thinned) at)
        | inr later ↦ inr (fences-lasts (fewer ++ x ∷ []) (before ++ x ∷ []) rest back (thinned-keep fewer before rest x above thinned never) rising later)
      ])
      fences
