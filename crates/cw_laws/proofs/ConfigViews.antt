-- What the config log says behind one record more, view by view (Connect's config topic, KIP-618).
use Rattle.std.proofs.Common.{◌≡◌, ℕ, ◌+◌, ◌-◌, ◌≤◌, ◌<◌, ◌&&◌, Bool, true, false, not, nat_lt, cond, List, [], ◌∷◌, ◌++◌, length, take, Option, Some, None, is_some, option_map, option_and_then, unwrap_or, refl, sym, ap, ◌∙◌, arith, length-append}
use Rattle.std.specs.Option.{IfSome}
use Rattle.std.specs.List.{before_last, suffix_len, prefix_len}
use Rattle.std.proofs.lemmas.List.{reverse-append, take-append-le, take_all}
use Rattle.std.proofs.lemmas.Bool.Decides.{nat_tests}
use Rattle.cw_types.specs.declared.ids.TaskId.{TaskId}
use Rattle.cw_keys.specs.declared.target.Target.{Target}
use Rattle.cw_keys.specs.declared.target.Target.TheVariants.{Started}
use Rattle.cw_keys.specs.declared.config_key.ConfigKey.{ConfigKey}
use Rattle.cw_keys.specs.declared.config_key.ConfigKey.TheVariants.{Connector, Task, Commit, Target as TargetState, Fencing}
use Rattle.cw_config.specs.declared.records.ConfigRecord.{ConfigRecord}
use Rattle.cw_config.specs.Records.{same_key, has_key, last_where, last_of, value_of}
use Rattle.cw_config.specs.View.{Properties, properties_in, count_in, target_in, config_of, target_of, generation_of, task_count_of, fenced_count_of, committed_record, deferred_record, task_of, deferred_of, is_behind, is_fenced, is_pending}
use Rattle.cw_config.specs.Acceptance.{end_of}
use Rattle.cw_config.specs.Tables.{RisesFrom}
use Rattle.cw_config.proofs.Rising.{last_where-push, rises-push, found_within, Within, if_behind, last_behind}
use Rattle.cw_config.proofs.Pushed.{apart, committed-push}
use Rattle.cw_model.specs.Fences.{fenced_generation_of}

-- ---- choices

pub of-cond : {A B : Type 0} (f : A → B) (b : Bool) (x y : A) → f (cond b x y) ≡ cond b (f x) (f y)
of-cond f true x y = refl
of-cond f false x y = refl

-- the properties, the number and the target that a record's value is
abbrev pub properties_at : ConfigRecord → Option Properties
properties_at r = option_and_then properties_in r.value

abbrev pub count_at : ConfigRecord → ℕ
count_at r = unwrap_or (option_and_then count_in r.value) 0

abbrev pub target_at : ConfigRecord → Target
target_at r = unwrap_or (option_and_then target_in r.value) Started

-- ---- by the last record of a key

pub last_of-push : (key : ConfigKey) (xs : List ConfigRecord) (r : ConfigRecord) →
    last_of key (xs ++ r ∷ []) ≡ cond (has_key key r) (Some r) (last_of key xs)
last_of-push key xs r = last_where-push (has_key key) xs r

pub config_of-push : (name : List ℕ) (xs : List ConfigRecord) (r : ConfigRecord) →
    config_of name (xs ++ r ∷ []) ≡ cond (has_key (Connector name) r) (properties_at r) (config_of name xs)
config_of-push name xs r =
    ap (λ (o : Option ConfigRecord). option_and_then properties_in (value_of o)) (last_of-push (Connector name) xs r)
    ∙ of-cond (λ (o : Option ConfigRecord). option_and_then properties_in (value_of o)) (has_key (Connector name) r)
    (Some r) (last_of (Connector name) xs)

pub target_of-push : (name : List ℕ) (xs : List ConfigRecord) (r : ConfigRecord) →
    target_of name (xs ++ r ∷ []) ≡ cond (has_key (TargetState name) r) (target_at r) (target_of name xs)
target_of-push name xs r =
    ap (λ (o : Option ConfigRecord). unwrap_or (option_and_then target_in (value_of o)) Started)
    (last_of-push (TargetState name) xs r)
    ∙ of-cond (λ (o : Option ConfigRecord). unwrap_or (option_and_then target_in (value_of o)) Started)
    (has_key (TargetState name) r) (Some r) (last_of (TargetState name) xs)

pub generation_of-push : (name : List ℕ) (xs : List ConfigRecord) (r : ConfigRecord) →
    generation_of name (xs ++ r ∷ []) ≡ cond (has_key (Commit name) r) (Some r.offset) (generation_of name xs)
generation_of-push name xs r =
    ap (λ (o : Option ConfigRecord). option_map (λ q. q.offset) o) (last_of-push (Commit name) xs r)
    ∙ of-cond (λ (o : Option ConfigRecord). option_map (λ q. q.offset) o) (has_key (Commit name) r) (Some r)
    (last_of (Commit name) xs)

pub task_count_of-push : (name : List ℕ) (xs : List ConfigRecord) (r : ConfigRecord) →
    task_count_of name (xs ++ r ∷ []) ≡ cond (has_key (Commit name) r) (count_at r) (task_count_of name xs)
task_count_of-push name xs r =
    ap (λ (o : Option ConfigRecord). unwrap_or (option_and_then count_in (value_of o)) 0)
    (last_of-push (Commit name) xs r)
    ∙ of-cond (λ (o : Option ConfigRecord). unwrap_or (option_and_then count_in (value_of o)) 0)
    (has_key (Commit name) r) (Some r) (last_of (Commit name) xs)

pub fenced_count_of-push : (name : List ℕ) (xs : List ConfigRecord) (r : ConfigRecord) →
    fenced_count_of name (xs ++ r ∷ []) ≡ cond (has_key (Fencing name) r) (count_at r) (fenced_count_of name xs)
fenced_count_of-push name xs r =
    ap (λ (o : Option ConfigRecord). unwrap_or (option_and_then count_in (value_of o)) 0)
    (last_of-push (Fencing name) xs r)
    ∙ of-cond (λ (o : Option ConfigRecord). unwrap_or (option_and_then count_in (value_of o)) 0)
    (has_key (Fencing name) r) (Some r) (last_of (Fencing name) xs)

-- ---- before the last fence

suffix-push : {X : Type 0} (p : X → Bool) (xs : List X) (x : X) →
    suffix_len p (xs ++ x ∷ []) ≡ cond (p x) (1 + suffix_len p xs) 0
suffix-push p xs x = ap (prefix_len p) (reverse-append xs (x ∷ []))

before_last-cond : {X : Type 0} (p : X → Bool) (xs : List X) (x : X) (b : Bool) → p x ≡ b →
    take (length (xs ++ x ∷ []) - suffix_len (λ y. not (p y)) (xs ++ x ∷ []) - 1) (xs ++ x ∷ [])
    ≡ cond b xs (before_last p xs)
before_last-cond p xs x true is =
    let none : suffix_len (λ y. not (p y)) (xs ++ x ∷ []) ≡ 0 =
    suffix-push (λ y. not (p y)) xs x ∙ ap (λ (b : Bool). cond (not b) (1 + suffix_len (λ y. not (p y)) xs) 0) is in
    let size : length (xs ++ x ∷ []) - suffix_len (λ y. not (p y)) (xs ++ x ∷ []) - 1 ≡ length xs =
    omega (arith, none, length-append xs (x ∷ [])) in
    ap (λ (n : ℕ). take n (xs ++ x ∷ [])) size ∙ take-append-le (length xs) xs (x ∷ []) (omega arith)
    ∙ take_all (length xs) xs (omega arith)
before_last-cond p xs x false is =
    let more : suffix_len (λ y. not (p y)) (xs ++ x ∷ []) ≡ 1 + suffix_len (λ y. not (p y)) xs =
    suffix-push (λ y. not (p y)) xs x ∙ ap (λ (b : Bool). cond (not b) (1 + suffix_len (λ y. not (p y)) xs) 0) is in
    let size : length (xs ++ x ∷ []) - suffix_len (λ y. not (p y)) (xs ++ x ∷ []) - 1
    ≡ length xs - suffix_len (λ y. not (p y)) xs - 1 = omega (arith, more, length-append xs (x ∷ [])) in
    ap (λ (n : ℕ). take n (xs ++ x ∷ [])) size ∙ take-append-le (length xs - suffix_len (λ y. not (p y)) xs - 1) xs
    (x ∷ []) (omega arith)

pub before_last-push : {X : Type 0} (p : X → Bool) (xs : List X) (x : X) →
    before_last p (xs ++ x ∷ []) ≡ cond (p x) xs (before_last p xs)
before_last-push p xs x = before_last-cond p xs x (p x) refl

pub fenced_generation_of-push : (name : List ℕ) (xs : List ConfigRecord) (r : ConfigRecord) →
    fenced_generation_of name (xs ++ r ∷ []) ≡ cond (has_key (Fencing name) r) (generation_of name xs)
    (fenced_generation_of name xs)
fenced_generation_of-push name xs r =
    ap (generation_of name) (before_last-push (has_key (Fencing name)) xs r)
    ∙ of-cond (generation_of name) (has_key (Fencing name) r) xs (before_last (has_key (Fencing name)) xs)

-- ---- tasks, and what is pending, in a list whose offsets rise

offset_below : (o : Option ConfigRecord) (high : ℕ) (r : ConfigRecord) → IfSome o (Within 0 high) → high ≤ r.offset →
    is_behind (option_map (λ q. q.offset) o) r ≡ true
offset_below None high r w above = refl
offset_below (Some q) high r w above = let below : q.offset < high = w.1 in let lower : q.offset < r.offset =
    omega (arith, below, above) in grind (arith, nat_tests)

none_behind : (o : Option ConfigRecord) (high : ℕ) (r : ConfigRecord) → IfSome o (Within 0 high) → high ≤ r.offset →
    if_behind (Some r.offset) o ≡ None
none_behind None high r w above = refl
none_behind (Some q) high r w above =
    let below : q.offset < high = w.1 in let lower : q.offset < r.offset = omega (arith, below, above) in
    let is : is_behind (Some r.offset) q ≡ false = grind (arith, nat_tests) in
    ap (λ (b : Bool). cond b (Some q) None) is

-- one key is not of two kinds
commit_fence : (key : ConfigKey) (name : List ℕ) → same_key key (Commit name) ≡ true →
    same_key key (Fencing name) ≡ false
commit_fence (Connector n) name is = cc
commit_fence (Task id) name is = cc
commit_fence (Commit n) name is = refl
commit_fence (TargetState n) name is = cc
commit_fence (Fencing n) name is = cc

module _ (name : List ℕ) (xs : List ConfigRecord) (r : ConfigRecord) (rises : RisesFrom 0 xs)
    (above : end_of xs ≤ r.offset) where
  below-end : (key : ConfigKey) → IfSome (last_of key xs) (Within 0 (end_of xs))
  below-end key = found_within (has_key key) 0 xs rises

  -- the last record of a key behind a connector's generation, behind one record more
  behind-cond : (key : ConfigKey) (of commit : Bool) → (commit ≡ true → of ≡ false) →
      if_behind (cond commit (Some r.offset) (generation_of name xs)) (cond of (Some r) (last_of key xs))
      ≡ cond commit None (cond of (Some r) (if_behind (generation_of name xs) (last_of key xs)))
  behind-cond key true true one = let never : true ≡ false = one refl in cc
  behind-cond key false true one = none_behind (last_of key xs) (end_of xs) r (below-end key) above
  behind-cond key true false one = ap (λ (b : Bool). cond b (Some r) None)
      (offset_below (last_of (Commit name) xs) (end_of xs) r (below-end (Commit name)) above)
  behind-cond key false false one = refl

  behind-push : (key : ConfigKey) → (has_key (Commit name) r ≡ true → has_key key r ≡ false) →
      last_where (λ q. has_key key q && is_behind (generation_of name (xs ++ r ∷ [])) q) (xs ++ r ∷ [])
      ≡ cond (has_key (Commit name) r) None (cond (has_key key r) (Some r)
      (last_where (λ q. has_key key q && is_behind (generation_of name xs) q) xs))
  behind-push key one =
      last_behind (has_key key) (generation_of name (xs ++ r ∷ [])) 0 (xs ++ r ∷ []) (rises-push 0 xs r rises above)
      ∙ ap (λ (g : Option ℕ). if_behind g (last_of key (xs ++ r ∷ []))) (generation_of-push name xs r)
      ∙ ap (λ (o : Option ConfigRecord). if_behind
      (cond (has_key (Commit name) r) (Some r.offset) (generation_of name xs)) o) (last_of-push key xs r)
      ∙ behind-cond key (has_key key r) (has_key (Commit name) r) one
      ∙ ap (λ (o : Option ConfigRecord). cond (has_key (Commit name) r) None (cond (has_key key r) (Some r) o))
      (sym (last_behind (has_key key) (generation_of name xs) 0 xs rises))

pub deferred_record-push : (id : TaskId) (xs : List ConfigRecord) (r : ConfigRecord) → RisesFrom 0 xs →
    end_of xs ≤ r.offset →
    deferred_record id (xs ++ r ∷ []) ≡ cond (has_key (Commit id.connector) r) None
    (cond (has_key (Task id) r) (Some r) (deferred_record id xs))
deferred_record-push id xs r rises above = behind-push id.connector xs r rises above (Task id) (apart r.key id)

properties-cond : (commit of : Bool) (r : ConfigRecord) (o : Option ConfigRecord) →
    option_and_then properties_in (value_of (cond commit None (cond of (Some r) o)))
    ≡ cond commit None (cond of (properties_at r) (option_and_then properties_in (value_of o)))
properties-cond true of r o = refl
properties-cond false true r o = refl
properties-cond false false r o = refl

-- no config waits behind a commit
pub deferred_of-push : (id : TaskId) (xs : List ConfigRecord) (r : ConfigRecord) → RisesFrom 0 xs →
    end_of xs ≤ r.offset →
    deferred_of id (xs ++ r ∷ []) ≡ cond (has_key (Commit id.connector) r) None
    (cond (has_key (Task id) r) (properties_at r) (deferred_of id xs))
deferred_of-push id xs r rises above =
    ap (λ (o : Option ConfigRecord). option_and_then properties_in (value_of o))
    (deferred_record-push id xs r rises above)
    ∙ properties-cond (has_key (Commit id.connector) r) (has_key (Task id) r) r (deferred_record id xs)

pending-cond : (commit fence : Bool) (n : ℕ) (g : Option ℕ) (r : ConfigRecord) (o : Option ConfigRecord) →
    (commit ≡ true → fence ≡ false) →
    (is_some (cond commit (Some n) g) && not (is_some (cond commit None (cond fence (Some r) o))))
    ≡ cond commit true (cond fence false (is_some g && not (is_some o)))
pending-cond true fence n g r o one = refl
pending-cond false true n None r o one = refl
pending-cond false true n (Some m) r o one = refl
pending-cond false false n g r o one = refl

-- a commit is pending until a fence stands behind it
pub is_pending-push : (name : List ℕ) (xs : List ConfigRecord) (r : ConfigRecord) → RisesFrom 0 xs →
    end_of xs ≤ r.offset →
    is_pending name (xs ++ r ∷ []) ≡ cond (has_key (Commit name) r) true
    (cond (has_key (Fencing name) r) false (is_pending name xs))
is_pending-push name xs r rises above =
    ap (λ (g : Option ℕ). is_some g && not (is_fenced name (xs ++ r ∷ []))) (generation_of-push name xs r)
    ∙ ap (λ (o : Option ConfigRecord). is_some (cond (has_key (Commit name) r) (Some r.offset)
    (generation_of name xs)) && not (is_some o))
    (behind-push name xs r rises above (Fencing name) (commit_fence r.key name))
    ∙ pending-cond (has_key (Commit name) r) (has_key (Fencing name) r) r.offset (generation_of name xs) r
    (last_where (λ q. has_key (Fencing name) q && is_behind (generation_of name xs) q) xs) (commit_fence r.key name)

-- a task's config stays where its connector has no new commit
pub task_of-push : (id : TaskId) (xs : List ConfigRecord) (r : ConfigRecord) → RisesFrom 0 xs → end_of xs ≤ r.offset →
    has_key (Commit id.connector) r ≡ false →
    task_of id (xs ++ r ∷ []) ≡ task_of id xs
task_of-push id xs r rises above other =
    ap (λ (n : ℕ). cond (nat_lt id.index n) (option_and_then properties_in
    (value_of (committed_record id (xs ++ r ∷ [])))) None)
    (task_count_of-push id.connector xs r ∙ ap
    (λ (b : Bool). cond b (count_at r) (task_count_of id.connector xs)) other)
    ∙ ap (λ (o : Option ConfigRecord). cond (nat_lt id.index (task_count_of id.connector xs))
    (option_and_then properties_in (value_of o)) None)
    (committed-push id xs r rises above ∙ ap
    (λ (b : Bool). cond b (last_of (Task id) xs) (committed_record id xs)) other)

some_behind : (g : Option ℕ) (o : Option ConfigRecord) → is_some (if_behind g o) ≡ true → if_behind g o ≡ o
some_behind g None is = refl
some_behind g (Some r) is = by (is_behind g r) is where
  by : (b : Bool) → is_some (cond b (Some r) None) ≡ true → cond b (Some r) None ≡ Some r
  by true is = refl
  by false is = cc

-- behind a commit a task's config is the one that waited for it
pub task_of-commit : (id : TaskId) (xs : List ConfigRecord) (r : ConfigRecord) → RisesFrom 0 xs →
    end_of xs ≤ r.offset → has_key (Commit id.connector) r ≡ true →
    is_some (deferred_record id xs) ≡ true → task_of id (xs ++ r ∷ []) ≡ cond (nat_lt id.index (count_at r))
    (deferred_of id xs) None
task_of-commit id xs r rises above commits waits =
    let same : deferred_record id xs ≡ if_behind (generation_of id.connector xs) (last_of (Task id) xs) =
    last_behind (has_key (Task id)) (generation_of id.connector xs) 0 xs rises in
    let last : deferred_record id xs ≡ last_of (Task id) xs =
    same ∙ some_behind (generation_of id.connector xs) (last_of (Task id) xs) (ap is_some (sym same) ∙ waits) in
    ap (λ (n : ℕ). cond (nat_lt id.index n) (option_and_then properties_in
    (value_of (committed_record id (xs ++ r ∷ [])))) None)
    (task_count_of-push id.connector xs r ∙ ap
    (λ (b : Bool). cond b (count_at r) (task_count_of id.connector xs)) commits)
    ∙ ap (λ (o : Option ConfigRecord). cond (nat_lt id.index (count_at r))
    (option_and_then properties_in (value_of o)) None)
    (committed-push id xs r rises above ∙ ap
    (λ (b : Bool). cond b (last_of (Task id) xs) (committed_record id xs)) commits ∙ sym last)

-- where its count is not above a task's number, nothing is
pub task_of-none : (id : TaskId) (xs : List ConfigRecord) → nat_lt id.index (task_count_of id.connector xs) ≡ false →
    task_of id xs ≡ None
task_of-none id xs is = ap (λ (b : Bool). cond b
    (option_and_then properties_in (value_of (committed_record id xs))) None) is
