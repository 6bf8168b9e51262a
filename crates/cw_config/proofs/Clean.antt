-- Where no task's config waits for a commit, what is committed of a task is its last record.
use Rattle.std.proofs.Common.{◌≡◌, ℕ, ◌+◌, ◌≤◌, ◌<◌, Bool, true, false, ◌&&◌, ◌||◌, not, cond, List, [], ◌∷◌, ◌==◌, map, take, length, Option, None, Some, refl, ap, sym, subst, ◌∙◌, arith}
use Rattle.std.specs.Bool.{⊤}
use Rattle.std.specs.Option.{IfSome, option_or, option_map, option_map_or}
use Rattle.std.specs.List.{fold, list_any, range_with_len, AllByRecursion}
use Rattle.std.specs.Str.{bytes_eq}
use Rattle.std.proofs.lemmas.Bool.Decides.{nat_tests}
use Rattle.std.proofs.lemmas.Slice.Eq.{bytes_eq-Decides}
use Rattle.cw_types.specs.declared.ids.TaskId.{TaskId}
use Rattle.cw_keys.specs.declared.config_key.ConfigKey.{ConfigKey}
use Rattle.cw_keys.specs.declared.config_key.ConfigKey.TheVariants.{Connector, Task, Commit, Target, Fencing}
use Rattle.cw_config.specs.declared.records.ConfigRecord.{ConfigRecord}
use Rattle.cw_config.specs.Records.{same_key, has_key, last_where, last_of}
use Rattle.cw_config.specs.View.{generation_of, committed_record, is_before, is_behind}
use Rattle.cw_config.specs.Compaction.{is_waiting, is_clean, clean_point, connector_of_task}
use Rattle.cw_config.specs.Tables.{RisesFrom}
use Rattle.cw_config.proofs.Rising.{last_where-cons, ends, Within, found_within, IfSome-or}
use Rattle.cw_config.proofs.Pushed.{apart}

-- ---- the clean point is clean

chosen_at : (P : ℕ → Type 0) (b : Bool) (at clean : ℕ) → (b ≡ true → P at) → P clean → P (cond b at clean)
chosen_at P true at clean here before = here refl
chosen_at P false at clean here before = before

fold_holds : (P : ℕ → Type 0) (f : ℕ → ℕ → ℕ) → ((n m : ℕ) → P n → P (f n m)) → (z : ℕ) (xs : List ℕ) → P z → P (fold f z xs)
fold_holds P f step z [] holds = holds
fold_holds P f step z (x ∷ xs) holds = fold_holds P f step (f z x) xs (step z x holds)

pub clean_there : (records : List ConfigRecord) → is_clean (take (clean_point records) records) ≡ true
clean_there records =
    let P : ℕ → Type 0 = λ (n : ℕ). is_clean (take n records) ≡ true in
    fold_holds P (λ (clean at : ℕ). cond (is_clean (take at records)) at clean)
    (λ (clean at : ℕ) (before : P clean). chosen_at P (is_clean (take at records)) at clean (λ e. e) before) 0 (range_with_len 0 (length records + 1)) refl

-- ---- what is found

-- what is found has what each record has that passes
pub found_all : (P : ConfigRecord → Type 0) (test : ConfigRecord → Bool) (records : List ConfigRecord)
    → AllByRecursion (λ r. test r ≡ true → P r) records → IfSome (last_where test records) P
found_all P test [] each = tt
found_all P test (r ∷ records) each =
    subst (λ (o : Option ConfigRecord). IfSome o P) (sym (last_where-cons test r records))
    (IfSome-or P (last_where test records) (cond (test r) (Some r) None) (found_all P test records each.1) (here (test r) each.0))
  where
    here : (b : Bool) → (b ≡ true → P r) → IfSome (cond b (Some r) None) P
    here true w = w refl
    here false w = tt

found_test : (test : ConfigRecord → Bool) (records : List ConfigRecord) → IfSome (last_where test records) (λ r. test r ≡ true)
found_test test records = found_all (λ r. test r ≡ true) test records (each records)
  where
    each : (l : List ConfigRecord) → AllByRecursion (λ r. test r ≡ true → test r ≡ true) l
    each [] = tt
    each (r ∷ l) = (λ e. e, each l)

joined_test : (L M : Option ConfigRecord) (t b : Bool) (x : ConfigRecord) (passes : ConfigRecord → Bool) → passes x ≡ b → (IfSome L (λ y. passes y ≡ true) → M ≡ L)
    → IfSome (option_or L (cond t (Some x) None)) (λ y. passes y ≡ true) → option_or M (cond (t && b) (Some x) None) ≡ option_or L (cond t (Some x) None)
joined_test (Some y) M t b x passes is same all = ap (λ (o : Option ConfigRecord). option_or o (cond (t && b) (Some x) None)) (same all)
joined_test None M true b x passes is same all =
    ap (λ (o : Option ConfigRecord). option_or o (cond b (Some x) None)) (same tt) ∙ ap (λ (v : Bool). cond v (Some x) None) (sym is ∙ all)
joined_test None M false b x passes is same all = ap (λ (o : Option ConfigRecord). option_or o None) (same tt)

-- where the last one passes a further test, it is the last one that does
last_passes : (test passes : ConfigRecord → Bool) (records : List ConfigRecord) → IfSome (last_where test records) (λ y. passes y ≡ true)
    → last_where (λ r. test r && passes r) records ≡ last_where test records
last_passes test passes [] all = refl
last_passes test passes (x ∷ records) all =
    last_where-cons (λ r. test r && passes r) x records
    ∙ joined_test (last_where test records) (last_where (λ r. test r && passes r) records) (test x) (passes x) x passes refl (last_passes test passes records)
    (subst (λ (o : Option ConfigRecord). IfSome o (λ y. passes y ≡ true)) (last_where-cons test x records) all)
    ∙ sym (last_where-cons test x records)

-- ---- one offset, one record

abbrev Apart : Option ConfigRecord → Option ConfigRecord → Type 0
Apart None q = ⊤
Apart (Some y) None = ⊤
Apart (Some y) (Some q) = y.offset ≡ q.offset → y ≡ q

two_found : (x : ConfigRecord) (high : ℕ) (a b : Option ConfigRecord) → IfSome a (Within (x.offset + 1) high) → IfSome b (Within (x.offset + 1) high) → Apart a b
    → (s t : Bool) → Apart (option_or a (cond s (Some x) None)) (option_or b (cond t (Some x) None))
two_found x high (Some y) (Some q) v w rest s t = rest
two_found x high (Some y) None v w rest s true = let above : x.offset + 1 ≤ y.offset = v.0 in λ (e : y.offset ≡ x.offset). absurd (omega (arith, above, e))
two_found x high (Some y) None v w rest s false = tt
two_found x high None (Some q) v w rest true t = let above : x.offset + 1 ≤ q.offset = w.0 in λ (e : x.offset ≡ q.offset). absurd (omega (arith, above, e))
two_found x high None (Some q) v w rest false t = tt
two_found x high None None v w rest true true = λ e. refl
two_found x high None None v w rest true false = tt
two_found x high None None v w rest false t = tt

found_apart : (s t : ConfigRecord → Bool) (low : ℕ) (records : List ConfigRecord) → RisesFrom low records → Apart (last_where s records) (last_where t records)
found_apart s t low [] rises = tt
found_apart s t low (x ∷ records) rises =
    subst (λ (o : Option ConfigRecord). Apart o (last_where t (x ∷ records))) (sym (last_where-cons s x records))
    (subst (λ (o : Option ConfigRecord). Apart (option_or (last_where s records) (cond (s x) (Some x) None)) o) (sym (last_where-cons t x records))
    (two_found x (ends (x.offset + 1) records) (last_where s records) (last_where t records) (found_within s (x.offset + 1) records rises.1) (found_within t (x.offset + 1) records rises.1)
    (found_apart s t (x.offset + 1) records rises.1) (s x) (t x)))

-- ---- what is committed

-- no record of a task waits
abbrev pub NoneWaits : TaskId → List ConfigRecord → Type 0
NoneWaits id records = IfSome (last_of (Task id) records) (λ y. is_behind (generation_of id.connector records) y ≡ false)

below_or_at : (y r : ConfigRecord) → is_behind (Some r.offset) y ≡ false → (y.offset ≡ r.offset → ⊥) → is_before (Some r.offset) y ≡ true
below_or_at y r e apart = grind (arith, nat_tests)

all_before : (id : TaskId) (o q : Option ConfigRecord) → IfSome o (λ y. is_behind (option_map (λ r. r.offset) q) y ≡ false) → Apart o q
    → IfSome o (λ y. has_key (Task id) y ≡ true) → IfSome q (λ r. has_key (Commit id.connector) r ≡ true) → IfSome o (λ y. is_before (option_map (λ r. r.offset) q) y ≡ true)
all_before id None q waits one task commit = tt
all_before id (Some y) None waits one task commit = cc
all_before id (Some y) (Some r) waits one task commit =
    below_or_at y r waits (λ (e : y.offset ≡ r.offset).
    let same : has_key (Task id) y ≡ has_key (Task id) r = ap (has_key (Task id)) (one e) in
    let not_task : has_key (Task id) r ≡ false = apart r.key id commit in
    cc (same, not_task, task))

pub committed_clean : (id : TaskId) (records : List ConfigRecord) → RisesFrom 0 records → NoneWaits id records → committed_record id records ≡ last_of (Task id) records
committed_clean id records rises none =
    last_passes (has_key (Task id)) (is_before (generation_of id.connector records)) records
    (all_before id (last_of (Task id) records) (last_of (Commit id.connector) records) none
    (found_apart (has_key (Task id)) (has_key (Commit id.connector)) 0 records rises)
    (found_test (has_key (Task id)) records) (found_test (has_key (Commit id.connector)) records))

-- ---- a clean list

not_true : (b : Bool) → not b ≡ true → b ≡ false
not_true true e = cc
not_true false e = refl

-- a task's key names its connector
task_key : (key : ConfigKey) (id : TaskId) → same_key key (Task id) ≡ true → connector_of_task key ≡ Some id.connector
task_key (Connector name) id e = cc
task_key (Task other) id e = ap Some ((bytes_eq-Decides other.connector id.connector).0 (first (bytes_eq other.connector id.connector) (other.index == id.index) e))
  where
    first : (a b : Bool) → (a && b) ≡ true → a ≡ true
    first true b e = refl
    first false b e = e
task_key (Commit name) id e = cc
task_key (Target name) id e = cc
task_key (Fencing name) id e = cc

module _ (records : List ConfigRecord) where
  each_waits : (id : TaskId) (l : List ConfigRecord) → list_any (is_waiting records) l ≡ false
      → AllByRecursion (λ r. has_key (Task id) r ≡ true → is_behind (generation_of id.connector records) r ≡ false) l
  each_waits id [] e = tt
  each_waits id (r ∷ l) e =
      let two : (is_waiting records r ≡ false) × (list_any (is_waiting records) l ≡ false) = neither (is_waiting records r) (list_any (is_waiting records) l) e in (
        λ (is : has_key (Task id) r ≡ true).
            sym (ap (λ (o : Option (List ℕ)). option_map_or (λ name. is_behind (generation_of name records) r) o false) (task_key r.key id is)) ∙ two.0,
        each_waits id l two.1,
      )
    where
      neither : (a b : Bool) → (a || b) ≡ false → (a ≡ false) × (b ≡ false)
      neither true b e = cc
      neither false b e = (refl, e)

  pub none_waits : is_clean records ≡ true → (id : TaskId) → NoneWaits id records
  none_waits clean id =
      found_all (λ r. is_behind (generation_of id.connector records) r ≡ false) (has_key (Task id)) records
      (each_waits id records (not_true (list_any (is_waiting records) records) clean))
