-- What an allowed config log says, whatever stands in it: a fence that stands behind the newest commit is of that
-- commit and has its count, the tasks of a commit have configs
-- that share no part, and a stopped connector has no tasks (KIP-618, KIP-875).
use Rattle.std.proofs.Common.{◌≡◌, ℕ, ◌≤◌, ◌<◌, ◌^◌, ◌==◌, Bool, true, false, cond, List, [], ◌∷◌, ◌++◌, take, drop, Option, Some, None, IsSome, option_and_then, unwrap_or, refl, sym, subst, ◌∙◌, arith, append_assoc}
use Rattle.std.proofs.lemmas.Bool.{and_parts}
use Rattle.std.specs.Option.{IfSome, IsSomeAnd}
use Rattle.std.specs.Str.{bytes_eq}
use Rattle.std.proofs.lemmas.List.{append-nil, take-append-drop}
use Rattle.std.proofs.lemmas.Bool.Decides.{Decides-eqb}
use Rattle.std.proofs.lemmas.Slice.Eq.{bytes_eq-Decides}
use Rattle.cw_types.specs.Name.{IsName}
use Rattle.cw_types.specs.declared.ids.TaskId.{TaskId}
use Rattle.cw_keys.specs.ConfigKeys.{IsConfigKey}
use Rattle.cw_keys.specs.Configs.{is_record, IsConfigValue}
use Rattle.cw_keys.specs.declared.target.Target.TheVariants.{Started, Stopped}
use Rattle.cw_keys.specs.declared.config_key.ConfigKey.{ConfigKey}
use Rattle.cw_keys.specs.declared.config_key.ConfigKey.TheVariants as key
use Rattle.cw_keys.specs.declared.config_value.ConfigValue.{ConfigValue}
use Rattle.cw_keys.specs.declared.config_value.ConfigValue.TheVariants as value
use Rattle.cw_config.specs.declared.records.ConfigRecord.{ConfigRecord}
use Rattle.cw_config.specs.Records.{same_key, has_key}
use Rattle.cw_config.specs.View.{Properties, properties_in, count_in, target_in, generation_of, task_count_of, fenced_count_of, is_pending}
use Rattle.cw_config.specs.Acceptance.{end_of}
use Rattle.cw_config.specs.Tables.{RisesFrom}
use Rattle.cw_config.proofs.Rising.{rises-push}
use Rattle.cw_config.proofs.Pushed.{end_of-push}
use Rattle.cw_plugin.specs.Parts.{task_of as task_with}
use Rattle.cw_bytes.specs.Frames.{EachFrom}
use Rattle.cw_model.specs.ConfigsAllowed.{IsAllowedConfig, AreAllowedConfigs, FitsBehind, FitsCommit}
use Rattle.cw_model.specs.Fences.{fenced_generation_of}
use Rattle.cw_laws.proofs.ConfigViews.{properties_at, count_at, target_at, generation_of-push, task_count_of-push, fenced_count_of-push, fenced_generation_of-push, is_pending-push}
use Rattle.cw_plugin.proofs.ShareLemmas.{bytes_are}

-- ---- lists of which each member fits behind those before it

pub each_from-append : {A : Type 0} (P : List A → A → Type 0) (before xs ys : List A) → EachFrom P before xs →
    EachFrom P (before ++ xs) ys → EachFrom P before (xs ++ ys)
each_from-append {A = A} P before [] ys a b = subst (λ (l : List A). EachFrom P l ys) (append-nil before) b
each_from-append {A = A} P before (x ∷ xs) ys a b = (
  a.0,
  each_from-append P (before ++ x ∷ []) xs ys a.1
      (subst (λ (l : List A). EachFrom P l ys) (sym (append_assoc before (x ∷ []) xs)) b),
)

pub each_from-first : {A : Type 0} (P : List A → A → Type 0) (before xs ys : List A) → EachFrom P before (xs ++ ys) →
    EachFrom P before xs
each_from-first P before [] ys each = tt
each_from-first P before (x ∷ xs) ys each = (each.0, each_from-first P (before ++ x ∷ []) xs ys each.1)

pub each_from-rest : {A : Type 0} (P : List A → A → Type 0) (before xs ys : List A) → EachFrom P before (xs ++ ys) →
    EachFrom P (before ++ xs) ys
each_from-rest {A = A} P before [] ys each = subst (λ (l : List A). EachFrom P l ys) (sym (append-nil before)) each
each_from-rest {A = A} P before (x ∷ xs) ys each =
    subst (λ (l : List A). EachFrom P l ys) (append_assoc before (x ∷ []) xs)
    (each_from-rest P (before ++ x ∷ []) xs ys each.1)

pub rises-allowed : (before xs : List ConfigRecord) → RisesFrom 0 before → AreAllowedConfigs before xs →
    RisesFrom 0 (before ++ xs)
rises-allowed before [] rises each = subst (RisesFrom 0) (sym (append-nil before)) rises
rises-allowed before (r ∷ xs) rises each = subst (RisesFrom 0) (append_assoc before (r ∷ []) xs)
    (rises-allowed (before ++ r ∷ []) xs (rises-push 0 before r rises each.0.rising) each.1)

pub allowed-rises : (records : List ConfigRecord) → AreAllowedConfigs [] records → RisesFrom 0 records
allowed-rises records each = rises-allowed [] records tt each

-- what each allowed record keeps holds behind all of them
pub fact-behind : (Q : List ConfigRecord → Type 0) →
    ((before : List ConfigRecord) (r : ConfigRecord) → RisesFrom 0 before → IsAllowedConfig before r → Q before →
    Q (before ++ r ∷ [])) →
    (before xs : List ConfigRecord) → RisesFrom 0 before → AreAllowedConfigs before xs → Q before → Q (before ++ xs)
fact-behind Q step before [] rises each here = subst Q (sym (append-nil before)) here
fact-behind Q step before (r ∷ xs) rises each here =
    subst Q (append_assoc before (r ∷ []) xs)
    (fact-behind Q step (before ++ r ∷ []) xs (rises-push 0 before r rises each.0.rising) each.1
    (step before r rises each.0 here))

-- what the empty list has, and each allowed record keeps, each allowed list has
pub fact-allowed : (Q : List ConfigRecord → Type 0) →
    ((before : List ConfigRecord) (r : ConfigRecord) → RisesFrom 0 before → IsAllowedConfig before r → Q before →
    Q (before ++ r ∷ [])) →
    Q [] → (records : List ConfigRecord) → AreAllowedConfigs [] records → Q records
fact-allowed Q step none records each = fact-behind Q step [] records tt each none

pub allowed-prefix : (n : ℕ) (records : List ConfigRecord) → AreAllowedConfigs [] records →
    AreAllowedConfigs [] (take n records) × AreAllowedConfigs (take n records) (drop n records)
allowed-prefix n records each =
    let split : AreAllowedConfigs [] (take n records ++ drop n records) =
    subst (AreAllowedConfigs []) (sym (take-append-drop n records)) each in (
      each_from-first IsAllowedConfig [] (take n records) (drop n records) split,
      each_from-rest IsAllowedConfig [] (take n records) (drop n records) split,
    )

-- ---- what an allowed record of a key is

unlike-kind : (b : Bool) → b ≡ false → b ≡ true → ⊥
unlike-kind b is not = cc

pub same-task : (a b : TaskId) → same_key (key.Task a) (key.Task b) ≡ true → a ≡ b
same-task a b same =
    let parts = and_parts (bytes_eq a.connector b.connector) (a.index == b.index) same in
    let connector : a.connector ≡ b.connector = bytes_are a.connector b.connector parts.0 in
    let index : a.index ≡ b.index = (Decides-eqb a.index b.index).0 parts.1 in
    λ i. record { connector = connector i; index = index i }

commit-kind : (before : List ConfigRecord) (name : List ℕ) (k : ConfigKey) (v : Option ConfigValue) →
    is_record k v ≡ true → FitsBehind before k v → IsConfigValue v → same_key k (key.Commit name) ≡ true →
    FitsCommit before name (unwrap_or (option_and_then count_in v) 0) ×
    (unwrap_or (option_and_then count_in v) 0 < 2 ^ 32)
commit-kind before name (key.Commit n) (Some (value.Commit count)) kind fits is same =
    (subst (λ (x : List ℕ). FitsCommit before x count) (bytes_are n name same) fits, is.0)
commit-kind before name (key.Commit n) (Some (value.Connector props)) kind fits is same =
    absurd (unlike-kind false refl kind)
commit-kind before name (key.Commit n) (Some (value.Task props)) kind fits is same =
    absurd (unlike-kind false refl kind)
commit-kind before name (key.Commit n) (Some (value.Target target)) kind fits is same =
    absurd (unlike-kind false refl kind)
commit-kind before name (key.Commit n) (Some (value.Fencing count)) kind fits is same =
    absurd (unlike-kind false refl kind)
commit-kind before name (key.Commit n) None kind fits is same = absurd (unlike-kind false refl kind)
commit-kind before name (key.Connector n) v kind fits is same = absurd (unlike-kind false refl same)
commit-kind before name (key.Task id) v kind fits is same = absurd (unlike-kind false refl same)
commit-kind before name (key.Target n) v kind fits is same = absurd (unlike-kind false refl same)
commit-kind before name (key.Fencing n) v kind fits is same = absurd (unlike-kind false refl same)

pub commit-fits : (before : List ConfigRecord) (r : ConfigRecord) (name : List ℕ) → IsAllowedConfig before r →
    has_key (key.Commit name) r ≡ true → FitsCommit before name (count_at r) × (count_at r < 2 ^ 32)
commit-fits before r name a is = commit-kind before name r.key r.value a.kind a.fits a.value is

fence-kind : (before : List ConfigRecord) (name : List ℕ) (k : ConfigKey) (v : Option ConfigValue) →
    is_record k v ≡ true → FitsBehind before k v → IsConfigValue v → same_key k (key.Fencing name) ≡ true →
    (IsSome (generation_of name before) → unwrap_or (option_and_then count_in v) 0 ≡ task_count_of name before) ×
    (unwrap_or (option_and_then count_in v) 0 < 2 ^ 32)
fence-kind before name (key.Fencing n) (Some (value.Fencing count)) kind fits is same = (
  subst (λ (x : List ℕ). IsSome (generation_of x before) → count ≡ task_count_of x before)
      (bytes_are n name same) fits,
  is.0,
)
fence-kind before name (key.Fencing n) (Some (value.Connector props)) kind fits is same =
    absurd (unlike-kind false refl kind)
fence-kind before name (key.Fencing n) (Some (value.Task props)) kind fits is same =
    absurd (unlike-kind false refl kind)
fence-kind before name (key.Fencing n) (Some (value.Target target)) kind fits is same =
    absurd (unlike-kind false refl kind)
fence-kind before name (key.Fencing n) (Some (value.Commit count)) kind fits is same =
    absurd (unlike-kind false refl kind)
fence-kind before name (key.Fencing n) None kind fits is same = absurd (unlike-kind false refl kind)
fence-kind before name (key.Connector n) v kind fits is same = absurd (unlike-kind false refl same)
fence-kind before name (key.Task id) v kind fits is same = absurd (unlike-kind false refl same)
fence-kind before name (key.Target n) v kind fits is same = absurd (unlike-kind false refl same)
fence-kind before name (key.Commit n) v kind fits is same = absurd (unlike-kind false refl same)

pub fence-fits : (before : List ConfigRecord) (r : ConfigRecord) (name : List ℕ) → IsAllowedConfig before r →
    has_key (key.Fencing name) r ≡ true →
    (IsSome (generation_of name before) → count_at r ≡ task_count_of name before) × (count_at r < 2 ^ 32)
fence-fits before r name a is = fence-kind before name r.key r.value a.kind a.fits a.value is

-- what some properties ask of a task
abbrev pub AsksOf : List ℕ → Option Properties → Type 0
AsksOf name o = IsSomeAnd o (λ props. IsSome (task_with name props))

task-kind : (before : List ConfigRecord) (id : TaskId) (k : ConfigKey) (v : Option ConfigValue) →
    is_record k v ≡ true → FitsBehind before k v → same_key k (key.Task id) ≡ true →
    AsksOf id.connector (option_and_then properties_in v)
task-kind before id (key.Task n) (Some (value.Task props)) kind fits same =
    subst (λ (x : TaskId). IsSome (task_with x.connector props)) (same-task n id same) fits
task-kind before id (key.Task n) (Some (value.Connector props)) kind fits same = absurd (unlike-kind false refl kind)
task-kind before id (key.Task n) (Some (value.Commit count)) kind fits same = absurd (unlike-kind false refl kind)
task-kind before id (key.Task n) (Some (value.Target target)) kind fits same = absurd (unlike-kind false refl kind)
task-kind before id (key.Task n) (Some (value.Fencing count)) kind fits same = absurd (unlike-kind false refl kind)
task-kind before id (key.Task n) None kind fits same = absurd (unlike-kind false refl kind)
task-kind before id (key.Connector n) v kind fits same = absurd (unlike-kind false refl same)
task-kind before id (key.Commit n) v kind fits same = absurd (unlike-kind false refl same)
task-kind before id (key.Target n) v kind fits same = absurd (unlike-kind false refl same)
task-kind before id (key.Fencing n) v kind fits same = absurd (unlike-kind false refl same)

pub task-fits : (before : List ConfigRecord) (r : ConfigRecord) (id : TaskId) → IsAllowedConfig before r →
    has_key (key.Task id) r ≡ true → AsksOf id.connector (properties_at r)
task-fits before r id a is = task-kind before id r.key r.value a.kind a.fits is

target-kind : (before : List ConfigRecord) (name : List ℕ) (k : ConfigKey) (v : Option ConfigValue) →
    is_record k v ≡ true → FitsBehind before k v → same_key k (key.Target name) ≡ true →
    unwrap_or (option_and_then target_in v) Started ≡ Stopped → task_count_of name before ≡ 0
target-kind before name (key.Target n) (Some (value.Target target)) kind fits same stops =
    subst (λ (x : List ℕ). task_count_of x before ≡ 0) (bytes_are n name same) (fits stops)
target-kind before name (key.Target n) (Some (value.Connector props)) kind fits same stops =
    absurd (unlike-kind false refl kind)
target-kind before name (key.Target n) (Some (value.Task props)) kind fits same stops =
    absurd (unlike-kind false refl kind)
target-kind before name (key.Target n) (Some (value.Commit count)) kind fits same stops =
    absurd (unlike-kind false refl kind)
target-kind before name (key.Target n) (Some (value.Fencing count)) kind fits same stops =
    absurd (unlike-kind false refl kind)
target-kind before name (key.Target n) None kind fits same stops = cc
target-kind before name (key.Connector n) v kind fits same stops = absurd (unlike-kind false refl same)
target-kind before name (key.Task id) v kind fits same stops = absurd (unlike-kind false refl same)
target-kind before name (key.Commit n) v kind fits same stops = absurd (unlike-kind false refl same)
target-kind before name (key.Fencing n) v kind fits same stops = absurd (unlike-kind false refl same)

pub target-fits : (before : List ConfigRecord) (r : ConfigRecord) (name : List ℕ) → IsAllowedConfig before r →
    has_key (key.Target name) r ≡ true → target_at r ≡ Stopped → task_count_of name before ≡ 0
target-fits before r name a is stops = target-kind before name r.key r.value a.kind a.fits is stops

-- one key is not of two kinds
pub commit-no_fence : (k : ConfigKey) (name : List ℕ) → same_key k (key.Commit name) ≡ true →
    same_key k (key.Fencing name) ≡ false
commit-no_fence (key.Connector n) name is = cc
commit-no_fence (key.Task id) name is = cc
commit-no_fence (key.Commit n) name is = refl
commit-no_fence (key.Target n) name is = cc
commit-no_fence (key.Fencing n) name is = cc

pub commit-no_target : (k : ConfigKey) (name : List ℕ) → same_key k (key.Commit name) ≡ true →
    same_key k (key.Target name) ≡ false
commit-no_target (key.Connector n) name is = cc
commit-no_target (key.Task id) name is = cc
commit-no_target (key.Commit n) name is = refl
commit-no_target (key.Target n) name is = cc
commit-no_target (key.Fencing n) name is = cc

pub commit-name : (k : ConfigKey) (name : List ℕ) → IsConfigKey k → same_key k (key.Commit name) ≡ true → IsName name
commit-name (key.Connector n) name named is = absurd (unlike-kind false refl is)
commit-name (key.Task id) name named is = absurd (unlike-kind false refl is)
commit-name (key.Commit n) name named is = subst (λ (x : List ℕ). IsName x) (bytes_are n name is) named
commit-name (key.Target n) name named is = absurd (unlike-kind false refl is)
commit-name (key.Fencing n) name named is = absurd (unlike-kind false refl is)

pub connector-name : (k : ConfigKey) (name : List ℕ) → IsConfigKey k → same_key k (key.Connector name) ≡ true →
    IsName name
connector-name (key.Connector n) name named is = subst (λ (x : List ℕ). IsName x) (bytes_are n name is) named
connector-name (key.Task id) name named is = absurd (unlike-kind false refl is)
connector-name (key.Commit n) name named is = absurd (unlike-kind false refl is)
connector-name (key.Target n) name named is = absurd (unlike-kind false refl is)
connector-name (key.Fencing n) name named is = absurd (unlike-kind false refl is)

-- ---- generations

-- a number is below a list's end, where there is one
abbrev pub IsBelowEnd : Option ℕ → List ConfigRecord → Type 0
IsBelowEnd o records = IfSome o (λ n. n < end_of records)

below-later : (o : Option ℕ) (before : List ConfigRecord) (r : ConfigRecord) → IsBelowEnd o before →
    IsBelowEnd o (before ++ r ∷ [])
below-later None before r below = tt
below-later (Some n) before r below = omega (arith, end_of-push before r, below)

below-cond : (b : Bool) (o : Option ℕ) (before : List ConfigRecord) (r : ConfigRecord) → IsBelowEnd o before →
    IsBelowEnd (cond b (Some r.offset) o) (before ++ r ∷ [])
below-cond true o before r below = omega (arith, end_of-push before r)
below-cond false o before r below = below-later o before r below

below-choice : (b : Bool) (o p : Option ℕ) (before : List ConfigRecord) (r : ConfigRecord) → IsBelowEnd o before →
    IsBelowEnd p before → IsBelowEnd (cond b o p) (before ++ r ∷ [])
below-choice true o p before r a b = below-later o before r a
below-choice false o p before r a b = below-later p before r b

-- a connector's generation, and that for which its last fence stands, are offsets of records
pub record BelowEnd (name : List ℕ) (records : List ConfigRecord) : Type 0 where
  pub generation : IsBelowEnd (generation_of name records) records
  pub fenced : IsBelowEnd (fenced_generation_of name records) records

pub below-step : (name : List ℕ) (before : List ConfigRecord) (r : ConfigRecord) → BelowEnd name before →
    BelowEnd name (before ++ r ∷ [])
below-step name before r f = record {
  generation = subst (λ (o : Option ℕ). IsBelowEnd o (before ++ r ∷ [])) (sym (generation_of-push name before r))
      (below-cond (has_key (key.Commit name) r) (generation_of name before) before r f.generation);
  fenced = subst (λ (o : Option ℕ). IsBelowEnd o (before ++ r ∷ [])) (sym (fenced_generation_of-push name before r))
      (below-choice (has_key (key.Fencing name) r) (generation_of name before)
      (fenced_generation_of name before) before r f.generation f.fenced);
}

pub below-end : (name : List ℕ) (records : List ConfigRecord) → AreAllowedConfigs [] records → BelowEnd name records
below-end name = fact-allowed (BelowEnd name)
    (λ before r rises a f. below-step name before r f) record { generation = tt; fenced = tt }

pub is-below : (o : Option ℕ) (records : List ConfigRecord) (n : ℕ) → IsBelowEnd o records → o ≡ Some n →
    n < end_of records
is-below None records n below is = cc
is-below (Some m) records n below is = let same : m ≡ n = cc in omega (arith, below, same)

-- ---- a fence that stands behind the newest commit

pub record FenceFacts (name : List ℕ) (records : List ConfigRecord) : Type 0 where
  pub below : BelowEnd name records
  -- it has the number of the tasks that are committed
  pub count : (g : ℕ) → fenced_generation_of name records ≡ Some g → generation_of name records ≡ Some g →
      fenced_count_of name records ≡ task_count_of name records
  -- what isn't pending is fenced for the newest generation
  pub newest : is_pending name records ≡ false → fenced_generation_of name records ≡ generation_of name records

count-cond : (name : List ℕ) (before : List ConfigRecord) (r : ConfigRecord) (commit fence : Bool) →
    (commit ≡ true → fence ≡ false) → end_of before ≤ r.offset → FenceFacts name before →
    (fence ≡ true → IsSome (generation_of name before) → count_at r ≡ task_count_of name before) → (g : ℕ) →
    cond fence (generation_of name before) (fenced_generation_of name before) ≡ Some g →
    cond commit (Some r.offset) (generation_of name before) ≡ Some g →
    cond fence (count_at r) (fenced_count_of name before) ≡ cond commit (count_at r) (task_count_of name before)
count-cond name before r true true one above f fits g fenced is = let never : true ≡ false = one refl in cc
count-cond name before r true false one above f fits g fenced is =
    let below : g < end_of before = is-below (fenced_generation_of name before) before g f.below.fenced fenced in
    let same : r.offset ≡ g = cc in absurd (omega (arith, below, same, above))
count-cond name before r false true one above f fits g fenced is =
    fits refl (subst (λ (o : Option ℕ). IsSome o) (sym is) refl)
count-cond name before r false false one above f fits g fenced is = f.count g fenced is

newest-cond : (name : List ℕ) (before : List ConfigRecord) (n : ℕ) (commit fence : Bool) → FenceFacts name before →
    cond commit true (cond fence false (is_pending name before)) ≡ false →
    cond fence (generation_of name before) (fenced_generation_of name before)
    ≡ cond commit (Some n) (generation_of name before)
newest-cond name before n true fence f is = let never : true ≡ false = is in cc
newest-cond name before n false true f is = refl
newest-cond name before n false false f is = f.newest is

pub fence-step : (name : List ℕ) (before : List ConfigRecord) (r : ConfigRecord) → RisesFrom 0 before →
    IsAllowedConfig before r → FenceFacts name before → FenceFacts name (before ++ r ∷ [])
fence-step name before r rises a f = record {
  below = below-step name before r f.below;
  count = λ g fenced is. fenced_count_of-push name before r
      ∙ count-cond name before r (has_key (key.Commit name) r) (has_key (key.Fencing name) r)
      (commit-no_fence r.key name) a.rising f (λ fences some. (fence-fits before r name a fences).0 some) g
      (sym (fenced_generation_of-push name before r) ∙ fenced) (sym (generation_of-push name before r) ∙ is)
      ∙ sym (task_count_of-push name before r);
  newest = λ settled. fenced_generation_of-push name before r
      ∙ newest-cond name before r.offset (has_key (key.Commit name) r) (has_key (key.Fencing name) r) f
      (sym (is_pending-push name before r rises a.rising) ∙ settled)
      ∙ sym (generation_of-push name before r);
}

pub fence-facts : (name : List ℕ) (records : List ConfigRecord) → AreAllowedConfigs [] records → FenceFacts name records
fence-facts name = fact-allowed (FenceFacts name)
    (fence-step name) record {
      below = record { generation = tt; fenced = tt };
      count = λ g fenced is. refl;
      newest = λ settled. refl;
    }
