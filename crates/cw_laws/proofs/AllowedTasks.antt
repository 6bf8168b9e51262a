-- The tasks that an allowed config log has: each has a config that its class takes, no two share a part, and a stopped
-- connector has none (Connect's config topic, KIP-875).
use Rattle.std.proofs.Common.{◌≡◌, ◌≢◌, ◌⊎◌, inl, inr, ℕ, ◌+◌, ◌<◌, ◌^◌, ◌&&◌, zero, suc, Bool, true, false, nat_lt, cond, List, [], ◌∷◌, ◌++◌, Option, Some, None, IsSome, is_some, option_and_then, unwrap_or, refl, sym, subst, ap, ◌∙◌, arith}
use Rattle.std.proofs.lemmas.Bool.{cases_Bool}
use Rattle.std.specs.Option.{option_map_or}
use Rattle.std.specs.List.{list_all, range_with_len}
use Rattle.std.proofs.lemmas.Bool.Decides.{nat_tests}
use Rattle.cw_types.specs.Name.{IsName}
use Rattle.cw_types.specs.declared.ids.TaskId.{TaskId}
use Rattle.cw_types.specs.declared.ids.PartKey.{PartKey}
use Rattle.cw_keys.specs.declared.target.Target.TheVariants.{Stopped}
use Rattle.cw_keys.specs.declared.config_key.ConfigKey.TheVariants as key
use Rattle.cw_config.specs.declared.records.ConfigRecord.{ConfigRecord}
use Rattle.cw_config.specs.Records.{has_key}
use Rattle.cw_config.specs.View.{Properties, config_of, target_of, generation_of, task_count_of, fenced_count_of, deferred_record, task_of, deferred_of}
use Rattle.cw_config.specs.Acceptance.{has_tasks}
use Rattle.cw_config.specs.Tables.{RisesFrom}
use Rattle.cw_plugin.specs.declared.task.TaskSpec.{TaskSpec}
use Rattle.cw_plugin.specs.Parts.{task_of as task_with}
use Rattle.cw_plugin.specs.Tasks.{parts_at, ShareNone}
use Rattle.cw_model.specs.ConfigsAllowed.{IsAllowedConfig, AreAllowedConfigs, FitsCommit, waiting_parts}
use Rattle.cw_model.specs.EventsItems.{spec_in}
use Rattle.cw_laws.proofs.ConfigViews.{properties_at, count_at, target_at, config_of-push, target_of-push, generation_of-push, task_count_of-push, fenced_count_of-push, deferred_record-push, deferred_of-push, task_of-push, task_of-commit}
use Rattle.cw_laws.proofs.Allowed.{AsksOf, fact-allowed, commit-fits, fence-fits, task-fits, target-fits, commit-name, connector-name, commit-no_target}

-- ---- tests of each number

pub each_below : (p : ℕ → Bool) (from count index : ℕ) → list_all p (range_with_len from count) ≡ true →
    index < count → p (from + index) ≡ true
each_below p from zero index all below = absurd (omega arith)
each_below p from (suc count) zero all below =
    let same : from + 0 ≡ from = omega arith in
    subst (λ (n : ℕ). p n ≡ true) (sym same) (first (p from) (list_all p (range_with_len (from + 1) count)) all)
  where
    first : (a b : Bool) → (a && b) ≡ true → a ≡ true
    first true b is = refl
    first false b is = is
each_below p from (suc count) (suc index) all below =
    let same : (from + 1) + index ≡ from + suc index = omega arith in
    subst (λ (n : ℕ). p n ≡ true) same (each_below p (from + 1) count index
    (second (p from) (list_all p (range_with_len (from + 1) count)) all) (omega arith))
  where
    second : (a b : Bool) → (a && b) ≡ true → b ≡ true
    second true b is = is
    second false b is = cc

pub all_alike : (p q : ℕ → Bool) → ((n : ℕ) → p n ≡ q n) → (xs : List ℕ) → list_all p xs ≡ list_all q xs
all_alike p q same [] = refl
all_alike p q same (x ∷ xs) = ap (λ (b : Bool). b && list_all p xs) (same x) ∙ ap (λ (b : Bool). q x && b)
    (all_alike p q same xs)

-- each task below a commit's count has a config that waits for it
pub waits-below : (records : List ConfigRecord) (id : TaskId) (count : ℕ) →
    has_tasks id.connector count records ≡ true → id.index < count → is_some (deferred_record id records) ≡ true
waits-below records id count all below =
    let same : 0 + id.index ≡ id.index = omega arith in
    subst (λ (n : ℕ). is_some (deferred_record (record { connector = id.connector; index = n }) records) ≡ true) same
    (each_below (λ index. is_some (deferred_record
    (record { connector = id.connector; index = index }) records)) 0 count id.index all below)

-- ---- configs that wait

pub record WaitingFacts (id : TaskId) (records : List ConfigRecord) : Type 0 where
  -- a task's config that waits for a commit is one
  pub some : is_some (deferred_record id records) ≡ is_some (deferred_of id records)
  -- and its class takes it
  pub asks : IsSome (deferred_of id records) → AsksOf id.connector (deferred_of id records)

is-some : {A : Type 0} (o : Option A) → IsSome o → is_some o ≡ true
is-some None some = cc
is-some (Some x) some = refl

asks-some : (name : List ℕ) (o : Option Properties) → AsksOf name o → is_some o ≡ true
asks-some name None asks = absurd asks
asks-some name (Some props) asks = refl

waiting-some : (commit of : Bool) (r : ConfigRecord) (o : Option ConfigRecord) (p q : Option Properties) →
    (of ≡ true → is_some q ≡ true) → is_some o ≡ is_some p →
    is_some (cond commit None (cond of (Some r) o)) ≡ is_some (cond commit None (cond of q p))
waiting-some true of r o p q fits same = refl
waiting-some false true r o p q fits same = sym (fits refl)
waiting-some false false r o p q fits same = same

waiting-asks : (name : List ℕ) (commit of : Bool) (p q : Option Properties) → (of ≡ true → AsksOf name q) →
    (IsSome p → AsksOf name p) →
    IsSome (cond commit None (cond of q p)) → AsksOf name (cond commit None (cond of q p))
waiting-asks name true of p q fits before some = cc
waiting-asks name false true p q fits before some = fits refl
waiting-asks name false false p q fits before some = before some

pub waiting-step : (id : TaskId) (before : List ConfigRecord) (r : ConfigRecord) → RisesFrom 0 before →
    IsAllowedConfig before r → WaitingFacts id before → WaitingFacts id (before ++ r ∷ [])
waiting-step id before r rises a f = record {
  some = ap is_some (deferred_record-push id before r rises a.rising)
      ∙ waiting-some (has_key (key.Commit id.connector) r) (has_key (key.Task id) r) r (deferred_record id before)
      (deferred_of id before) (properties_at r)
      (λ is. asks-some id.connector (properties_at r) (task-fits before r id a is)) f.some
      ∙ sym (ap is_some (deferred_of-push id before r rises a.rising));
  asks = subst (λ (o : Option Properties). IsSome o → AsksOf id.connector o)
      (sym (deferred_of-push id before r rises a.rising))
      (waiting-asks id.connector (has_key (key.Commit id.connector) r) (has_key (key.Task id) r)
      (deferred_of id before) (properties_at r) (task-fits before r id a) f.asks);
}

pub waiting-facts : (id : TaskId) (records : List ConfigRecord) → AreAllowedConfigs [] records → WaitingFacts id records
waiting-facts id = fact-allowed (WaitingFacts id) (waiting-step id) record { some = refl; asks = λ some. cc }

-- lists that have the same waiting configs have the same tasks for a commit
pub has_tasks-alike : (name : List ℕ) (count : ℕ) (xs ys : List ConfigRecord) → AreAllowedConfigs [] xs →
    AreAllowedConfigs [] ys → ((id : TaskId) → deferred_of id xs ≡ deferred_of id ys) →
    has_tasks name count xs ≡ has_tasks name count ys
has_tasks-alike name count xs ys a b same =
    all_alike (λ index. is_some (deferred_record (record { connector = name; index = index }) xs))
    (λ index. is_some (deferred_record (record { connector = name; index = index }) ys))
    (λ index. (waiting-facts (record { connector = name; index = index }) xs a).some
    ∙ ap is_some (same (record { connector = name; index = index }))
    ∙ sym (waiting-facts (record { connector = name; index = index }) ys b).some) (range_with_len 0 count)

-- ---- configs that are committed

below-true : (a b : ℕ) → a < b → nat_lt a b ≡ true
below-true a b below = grind (arith, nat_tests)

-- the config of a task behind its connector's commit
pub committed-config : (id : TaskId) (before : List ConfigRecord) (r : ConfigRecord) → RisesFrom 0 before →
    IsAllowedConfig before r → has_key (key.Commit id.connector) r ≡ true → id.index < count_at r →
    (is_some (deferred_record id before) ≡ true) × (task_of id (before ++ r ∷ []) ≡ deferred_of id before)
committed-config id before r rises a commits below =
    let fits : FitsCommit before id.connector (count_at r) = (commit-fits before r id.connector a commits).0 in
    let waits : is_some (deferred_record id before) ≡ true = waits-below before id (count_at r) fits.tasks below in (
      waits,
      task_of-commit id before r rises a.rising commits waits
          ∙ ap (λ (b : Bool). cond b (deferred_of id before) None) (below-true id.index (count_at r) below),
    )

count-behind : (name : List ℕ) (before : List ConfigRecord) (r : ConfigRecord) (b : Bool) →
    has_key (key.Commit name) r ≡ b → task_count_of name (before ++ r ∷ []) ≡ cond b (count_at r)
    (task_count_of name before)
count-behind name before r b is = task_count_of-push name before r ∙ ap
    (λ (c : Bool). cond c (count_at r) (task_count_of name before)) is

-- each task has a config that its class takes
pub record TaskFacts (id : TaskId) (records : List ConfigRecord) : Type 0 where
  pub waiting : WaitingFacts id records
  pub asks : id.index < task_count_of id.connector records → AsksOf id.connector (task_of id records)

pub task-step : (id : TaskId) (before : List ConfigRecord) (r : ConfigRecord) → RisesFrom 0 before →
    IsAllowedConfig before r → TaskFacts id before → TaskFacts id (before ++ r ∷ [])
task-step id before r rises a f = record {
  waiting = waiting-step id before r rises a f.waiting;
  asks = λ below. elim (cases_Bool (has_key (key.Commit id.connector) r)) [
    | inl commits ↦
        let now : id.index < count_at r = omega (arith, below, count-behind id.connector before r true commits) in
        let config = committed-config id before r rises a commits now in
        let some : IsSome (deferred_of id before) = sym f.waiting.some ∙ config.0 in
        subst (λ (o : Option Properties). AsksOf id.connector o) (sym config.1) (f.waiting.asks some)
    | inr other ↦
        let was : id.index < task_count_of id.connector before =
        omega (arith, below, count-behind id.connector before r false other) in
        subst (λ (o : Option Properties). AsksOf id.connector o) (sym (task_of-push id before r rises a.rising other))
        (f.asks was)
  ];
}

pub task-facts : (id : TaskId) (records : List ConfigRecord) → AreAllowedConfigs [] records → TaskFacts id records
task-facts id = fact-allowed (TaskFacts id)
    (task-step id) record {
      waiting = record { some = refl; asks = λ some. cc };
      asks = λ below. absurd (omega (arith, below));
    }

asked : (name : List ℕ) (o : Option Properties) → AsksOf name o → IsSome (option_and_then (task_with name) o)
asked name None asks = absurd asks
asked name (Some props) asks = asks

-- a committed task has something to do
pub spec-some : (id : TaskId) (records : List ConfigRecord) → AreAllowedConfigs [] records →
    id.index < task_count_of id.connector records → IsSome (spec_in records id)
spec-some id records allowed below = asked id.connector (task_of id records)
    ((task-facts id records allowed).asks below)

-- ---- committed tasks share no part

abbrev pub task_at : List ℕ → ℕ → TaskId
task_at name index = record { connector = name; index = index }

-- what a committed task reads or writes
abbrev pub committed_parts : List ConfigRecord → List ℕ → ℕ → List PartKey
committed_parts records name index = parts_at name (unwrap_or (task_of (task_at name index) records) [])

pub record PartFacts (name : List ℕ) (records : List ConfigRecord) : Type 0 where
  pub apart : (i j : ℕ) → i < j → j < task_count_of name records →
      ShareNone (committed_parts records name i) (committed_parts records name j)

pub part-step : (name : List ℕ) (before : List ConfigRecord) (r : ConfigRecord) → RisesFrom 0 before →
    IsAllowedConfig before r → PartFacts name before → PartFacts name (before ++ r ∷ [])
part-step name before r rises a f = record {
  apart = λ i j first below. elim (cases_Bool (has_key (key.Commit name) r)) [
    | inl commits ↦
        let now : j < count_at r = omega (arith, below, count-behind name before r true commits) in
        let fits : FitsCommit before name (count_at r) = (commit-fits before r name a commits).0 in
        let one : task_of (task_at name i) (before ++ r ∷ []) ≡ deferred_of (task_at name i) before =
        (committed-config (task_at name i) before r rises a commits (omega (arith, first, now))).1 in
        let two : task_of (task_at name j) (before ++ r ∷ []) ≡ deferred_of (task_at name j) before =
        (committed-config (task_at name j) before r rises a commits now).1 in
        subst (λ (o : Option Properties). ShareNone (parts_at name (unwrap_or o []))
        (committed_parts (before ++ r ∷ []) name j)) (sym one)
        (subst (λ (o : Option Properties). ShareNone (waiting_parts before name i) (parts_at name (unwrap_or o [])))
        (sym two) (fits.apart i j first now))
    | inr other ↦
        let was : j < task_count_of name before = omega (arith, below, count-behind name before r false other) in
        subst (λ (o : Option Properties). ShareNone (parts_at name (unwrap_or o []))
        (committed_parts (before ++ r ∷ []) name j))
        (sym (task_of-push (task_at name i) before r rises a.rising other))
        (subst (λ (o : Option Properties). ShareNone (committed_parts before name i) (parts_at name (unwrap_or o [])))
        (sym (task_of-push (task_at name j) before r rises a.rising other)) (f.apart i j first was))
  ];
}

pub part-facts : (name : List ℕ) (records : List ConfigRecord) → AreAllowedConfigs [] records → PartFacts name records
part-facts name = fact-allowed (PartFacts name)
    (part-step name) record { apart = λ i j first below. absurd (omega (arith, below)) }

-- ---- a stopped connector

pub record StopFacts (name : List ℕ) (records : List ConfigRecord) : Type 0 where
  pub none : target_of name records ≡ Stopped → task_count_of name records ≡ 0

stop-cond : (name : List ℕ) (before : List ConfigRecord) (r : ConfigRecord) (commit target : Bool) →
    (commit ≡ true → target ≡ false) →
    (commit ≡ true → target_of name before ≡ Stopped → count_at r ≡ 0) →
    (target ≡ true → target_at r ≡ Stopped → task_count_of name before ≡ 0) → StopFacts name before →
    cond target (target_at r) (target_of name before) ≡ Stopped →
    cond commit (count_at r) (task_count_of name before) ≡ 0
stop-cond name before r true true one a b f stops = let never : true ≡ false = one refl in cc
stop-cond name before r true false one a b f stops = a refl stops
stop-cond name before r false true one a b f stops = b refl stops
stop-cond name before r false false one a b f stops = f.none stops

pub stop-step : (name : List ℕ) (before : List ConfigRecord) (r : ConfigRecord) → RisesFrom 0 before →
    IsAllowedConfig before r → StopFacts name before → StopFacts name (before ++ r ∷ [])
stop-step name before r rises a f = record {
  none = λ stops. task_count_of-push name before r
      ∙ stop-cond name before r (has_key (key.Commit name) r) (has_key (key.Target name) r)
      (commit-no_target r.key name)
      (λ is. (commit-fits before r name a is).0.stopped) (target-fits before r name a) f
      (sym (target_of-push name before r) ∙ stops);
}

-- a stopped connector has no tasks
pub stopped-no_tasks : (name : List ℕ) (records : List ConfigRecord) → AreAllowedConfigs [] records →
    target_of name records ≡ Stopped → task_count_of name records ≡ 0
stopped-no_tasks name records allowed =
    (fact-allowed (StopFacts name) (stop-step name) record { none = λ stops. refl } records allowed).none

-- ---- names and counts

pub record NameFacts (name : List ℕ) (records : List ConfigRecord) : Type 0 where
  pub commit : IsSome (generation_of name records) → IsName name
  pub config : IsSome (config_of name records) → IsName name
  pub tasks : task_count_of name records < 2 ^ 32
  pub fenced : fenced_count_of name records < 2 ^ 32
  -- a connector without a commit has no tasks
  pub none : generation_of name records ≡ None → task_count_of name records ≡ 0

some-cond : {A : Type 0} (P : Type 0) (b : Bool) (p q : Option A) → (b ≡ true → P) → (IsSome q → P) →
    IsSome (cond b p q) → P
some-cond P true p q here before some = here refl
some-cond P false p q here before some = before some

less-cond : (b : Bool) (m n k : ℕ) → (b ≡ true → m < k) → n < k → cond b m n < k
less-cond true m n k here before = here refl
less-cond false m n k here before = before

none-cond : (b : Bool) (n m : ℕ) (o : Option ℕ) (k : ℕ) → (o ≡ None → k ≡ 0) → cond b (Some n) o ≡ None → cond b m k ≡ 0
none-cond true n m o k before none = cc
none-cond false n m o k before none = before none

pub name-step : (name : List ℕ) (before : List ConfigRecord) (r : ConfigRecord) → RisesFrom 0 before →
    IsAllowedConfig before r → NameFacts name before → NameFacts name (before ++ r ∷ [])
name-step name before r rises a f = record {
  commit = λ some. some-cond (IsName name) (has_key (key.Commit name) r) (Some r.offset) (generation_of name before)
      (commit-name r.key name a.key) f.commit (subst (λ (o : Option ℕ). IsSome o)
      (generation_of-push name before r) some);
  config = λ some. some-cond (IsName name) (has_key (key.Connector name) r) (properties_at r) (config_of name before)
      (connector-name r.key name a.key) f.config (subst (λ (o : Option Properties). IsSome o)
      (config_of-push name before r) some);
  tasks = subst (λ (n : ℕ). n < 2 ^ 32) (sym (task_count_of-push name before r))
      (less-cond (has_key (key.Commit name) r) (count_at r) (task_count_of name before) (2 ^ 32)
      (λ is. (commit-fits before r name a is).1) f.tasks);
  fenced = subst (λ (n : ℕ). n < 2 ^ 32) (sym (fenced_count_of-push name before r))
      (less-cond (has_key (key.Fencing name) r) (count_at r) (fenced_count_of name before) (2 ^ 32)
      (λ is. (fence-fits before r name a is).1) f.fenced);
  none = λ none. task_count_of-push name before r
      ∙ none-cond (has_key (key.Commit name) r) r.offset (count_at r) (generation_of name before)
      (task_count_of name before) f.none (sym (generation_of-push name before r) ∙ none);
}

pub name-facts : (name : List ℕ) (records : List ConfigRecord) → AreAllowedConfigs [] records → NameFacts name records
name-facts name = fact-allowed (NameFacts name)
    (name-step name) record {
      commit = λ some. cc;
      config = λ some. cc;
      tasks = omega arith;
      fenced = omega arith;
      none = λ none. refl;
    }

-- a connector that has tasks has a commit
pub tasks-generation : (name : List ℕ) (index : ℕ) (records : List ConfigRecord) → AreAllowedConfigs [] records →
    index < task_count_of name records → (g : ℕ) × (generation_of name records ≡ Some g)
tasks-generation name index records allowed below = by (generation_of name records) refl where
  by : (o : Option ℕ) → generation_of name records ≡ o → (g : ℕ) × (generation_of name records ≡ Some g)
  by None is = absurd (omega (arith, (name-facts name records allowed).none is, below))
  by (Some g) is = (g, is)

-- ---- what a committed task reads or writes is what it is asked for

-- the parts of what a task is to do
abbrev pub spec_parts : Option TaskSpec → List PartKey
spec_parts spec = option_map_or (λ task. task.parts) spec []

asked-parts : (name : List ℕ) (o : Option Properties) → AsksOf name o →
    parts_at name (unwrap_or o []) ≡ spec_parts (option_and_then (task_with name) o)
unfolding parts_at
asked-parts name None asks = absurd asks
asked-parts name (Some props) asks = refl

ordered-apart : (records : List ConfigRecord) (name : List ℕ) (i j : ℕ) → AreAllowedConfigs [] records → i < j →
    j < task_count_of name records →
    ShareNone (spec_parts (spec_in records (task_at name i))) (spec_parts (spec_in records (task_at name j)))
ordered-apart records name i j allowed first below =
    let one : committed_parts records name i ≡ spec_parts (spec_in records (task_at name i)) =
    asked-parts name (task_of (task_at name i) records)
    ((task-facts (task_at name i) records allowed).asks (omega (arith, first, below))) in
    let two : committed_parts records name j ≡ spec_parts (spec_in records (task_at name j)) =
    asked-parts name (task_of (task_at name j) records)
    ((task-facts (task_at name j) records allowed).asks below) in
    subst (λ (l : List PartKey). ShareNone l (spec_parts (spec_in records (task_at name j)))) one
    (subst (λ (l : List PartKey). ShareNone (committed_parts records name i) l) two
    ((part-facts name records allowed).apart i j first below))

order-cases : (i j : ℕ) → i ≢ j → (i < j) ⊎ (j < i)
order-cases zero zero other = absurd (other refl)
order-cases zero (suc j) other = inl (omega arith)
order-cases (suc i) zero other = inr (omega arith)
order-cases (suc i) (suc j) other = elim
    (order-cases i j (λ same. other (ap (λ n. suc n) same))) [
      | inl less ↦ inl (omega arith)
      | inr more ↦ inr
          (omega arith)
    ]

-- two committed tasks of a connector share no part
pub specs-apart : (records : List ConfigRecord) (name : List ℕ) (i j : ℕ) → AreAllowedConfigs [] records → i ≢ j →
    i < task_count_of name records → j < task_count_of name records →
    ShareNone (spec_parts (spec_in records (task_at name i))) (spec_parts (spec_in records (task_at name j)))
specs-apart records name i j allowed other one two = elim (order-cases i j other) [
  | inl first ↦ ordered-apart records name i j allowed first two
  | inr second ↦ λ part a b. ordered-apart records name j i allowed second one part b a
]
