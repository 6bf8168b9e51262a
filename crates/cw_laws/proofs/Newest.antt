-- Where a connector's newest generation is one that stood in a front of the config log, that front has its tasks: no
-- commit stands behind it (KIP-618).
use Rattle.std.proofs.Common.{◌≡◌, ◌⊎◌, inl, inr, ℕ, ◌≤◌, ◌<◌, Bool, true, false, cond, List, [], ◌∷◌, ◌++◌, take, drop, Some, None, option_and_then, refl, sym, subst, ap, ◌∙◌, arith, append_assoc}
use Rattle.std.proofs.lemmas.List.{append-nil, take-append-drop}
use Rattle.cw_types.specs.declared.ids.TaskId.{TaskId}
use Rattle.cw_keys.specs.declared.config_key.ConfigKey.{ConfigKey}
use Rattle.cw_keys.specs.declared.config_key.ConfigKey.TheVariants as key
use Rattle.cw_config.specs.declared.records.ConfigRecord.{ConfigRecord}
use Rattle.cw_config.specs.Records.{has_key}
use Rattle.cw_config.specs.View.{generation_of, task_count_of, fenced_count_of, task_of}
use Rattle.cw_config.specs.Acceptance.{end_of}
use Rattle.cw_config.specs.Tables.{RisesFrom}
use Rattle.cw_config.proofs.Rising.{rises-push}
use Rattle.cw_config.proofs.Pushed.{end_of-push}
use Rattle.cw_plugin.specs.Parts.{task_of as task_with}
use Rattle.cw_model.specs.ConfigsAllowed.{IsAllowedConfig, AreAllowedConfigs, is_fence_key}
use Rattle.cw_model.specs.EventsItems.{spec_in}
use Rattle.cw_model.specs.Fences.{StandingFence, fenced_generation_of}
use Rattle.cw_laws.proofs.ConfigViews.{count_at, generation_of-push, task_count_of-push, fenced_count_of-push, fenced_generation_of-push, task_of-push}
use Rattle.cw_laws.proofs.Allowed.{allowed-prefix, allowed-rises, below-end, is-below}

-- a connector has the same set of tasks in both lists
pub record SameSet (name : List ℕ) (old new : List ConfigRecord) : Type 0 where
  pub generation : generation_of name new ≡ generation_of name old
  pub count : task_count_of name new ≡ task_count_of name old
  pub task : (id : TaskId) → id.connector ≡ name → task_of id new ≡ task_of id old

same-set : (name : List ℕ) (xs : List ConfigRecord) → SameSet name xs xs
same-set name xs = record { generation = refl; count = refl; task = λ id is. refl }

joined-set : (name : List ℕ) (a b c : List ConfigRecord) → SameSet name a b → SameSet name b c → SameSet name a c
joined-set name a b c f g =
    record {
      generation = g.generation ∙ f.generation;
      count = g.count ∙ f.count;
      task = λ id is. g.task id is ∙ f.task id is;
    }

-- a record that is no commit of it changes nothing of a connector's set
pub other-set : (name : List ℕ) (xs : List ConfigRecord) (r : ConfigRecord) → RisesFrom 0 xs → end_of xs ≤ r.offset →
    has_key (key.Commit name) r ≡ false → SameSet name xs (xs ++ r ∷ [])
other-set name xs r rises above other = record {
  generation = generation_of-push name xs r ∙ ap (λ (b : Bool). cond b (Some r.offset) (generation_of name xs)) other;
  count = task_count_of-push name xs r ∙ ap (λ (b : Bool). cond b (count_at r) (task_count_of name xs)) other;
  task = λ id is. task_of-push id xs r rises above
      (subst (λ (x : List ℕ). has_key (key.Commit x) r ≡ false) (sym is) other);
}

-- a generation that is below an earlier end is no later commit's
older-set : (name : List ℕ) (xs more : List ConfigRecord) (r : ConfigRecord) (g : ℕ) (commits : Bool) →
    RisesFrom 0 xs → IsAllowedConfig xs r → g < end_of xs → has_key (key.Commit name) r ≡ commits →
    cond commits (Some r.offset) (generation_of name xs) ≡ Some g → SameSet name xs (xs ++ r ∷ [])
older-set name xs more r g true rises a below commits newest = let same : r.offset ≡ g =
    cc in let above : end_of xs ≤ r.offset = a.rising in absurd (omega (arith, same, below, above))
older-set name xs more r g false rises a below other newest = other-set name xs r rises a.rising other

pub newest-set : (name : List ℕ) (before xs : List ConfigRecord) (g : ℕ) → RisesFrom 0 before →
    AreAllowedConfigs before xs → g < end_of before →
    generation_of name (before ++ xs) ≡ Some g → SameSet name before (before ++ xs)
newest-set name before [] g rises allowed below newest =
    subst (SameSet name before) (sym (append-nil before)) (same-set name before)
newest-set name before (r ∷ xs) g rises allowed below newest =
    let rises_on : RisesFrom 0 (before ++ r ∷ []) = rises-push 0 before r rises allowed.0.rising in
    let below_on : g < end_of (before ++ r ∷ []) = omega (arith, below, end_of-push before r) in
    let whole : (before ++ r ∷ []) ++ xs ≡ before ++ r ∷ xs = append_assoc before (r ∷ []) xs in
    let rest : SameSet name (before ++ r ∷ []) ((before ++ r ∷ []) ++ xs) =
    newest-set name (before ++ r ∷ []) xs g rises_on allowed.1 below_on
    (subst (λ (l : List ConfigRecord). generation_of name l ≡ Some g) (sym whole) newest) in
    let there : generation_of name (before ++ r ∷ []) ≡ Some g =
    sym rest.generation ∙ subst (λ (l : List ConfigRecord). generation_of name l ≡ Some g) (sym whole) newest in
    let here : SameSet name before (before ++ r ∷ []) =
    older-set name before xs r g (has_key (key.Commit name) r) rises allowed.0 below refl
    (sym (generation_of-push name before r) ∙ there) in
    subst (SameSet name before) whole (joined-set name before (before ++ r ∷ []) ((before ++ r ∷ []) ++ xs) here rest)

-- what was read has the newest set where its generation is the newest
pub seen-set : (name : List ℕ) (n : ℕ) (records : List ConfigRecord) (g : ℕ) → AreAllowedConfigs [] records →
    generation_of name (take n records) ≡ Some g → generation_of name records ≡ Some g →
    SameSet name (take n records) records
seen-set name n records g allowed old new =
    let parts = allowed-prefix n records allowed in
    let below : g < end_of (take n records) = is-below (generation_of name (take n records)) (take n records) g
    (below-end name (take n records) parts.0).generation old in
    let whole : take n records ++ drop n records ≡ records = take-append-drop n records in
    subst (SameSet name (take n records)) whole
    (newest-set name (take n records) (drop n records) g (allowed-rises (take n records) parts.0) parts.1 below
    (subst (λ (l : List ConfigRecord). generation_of name l ≡ Some g) (sym whole) new))

-- what each of its tasks is to do is then the same
pub same-spec : (id : TaskId) (old new : List ConfigRecord) → SameSet id.connector old new →
    spec_in new id ≡ spec_in old id
same-spec id old new f = ap (option_and_then (task_with id.connector)) (f.task id refl)

-- ---- records without a fence

-- none of these is a fence
abbrev pub NoFence : List ConfigRecord → Type 0
NoFence [] = Unit {0}
NoFence (r ∷ xs) = (is_fence_key r.key ≡ false) × NoFence xs

pub no_fence-key : (k : ConfigKey) (name : List ℕ) → is_fence_key k ≡ false →
    has_key (key.Fencing name) (record { offset = 0; stamp = 0; key = k; value = None }) ≡ false
no_fence-key (key.Connector n) name is = refl
no_fence-key (key.Task id) name is = refl
no_fence-key (key.Commit n) name is = refl
no_fence-key (key.Target n) name is = refl
no_fence-key (key.Fencing n) name is = cc

-- they fence nothing
pub record SameFence (name : List ℕ) (old new : List ConfigRecord) : Type 0 where
  pub generation : fenced_generation_of name new ≡ fenced_generation_of name old
  pub count : fenced_count_of name new ≡ fenced_count_of name old

no_fence-step : (name : List ℕ) (xs : List ConfigRecord) (r : ConfigRecord) → has_key (key.Fencing name) r ≡ false →
    SameFence name xs (xs ++ r ∷ [])
no_fence-step name xs r other = record {
  generation = fenced_generation_of-push name xs r
      ∙ ap (λ (b : Bool). cond b (generation_of name xs) (fenced_generation_of name xs)) other;
  count = fenced_count_of-push name xs r ∙ ap (λ (b : Bool). cond b (count_at r) (fenced_count_of name xs)) other;
}

pub no_fence-same : (name : List ℕ) (before xs : List ConfigRecord) → NoFence xs → SameFence name before (before ++ xs)
no_fence-same name before [] none = subst (SameFence name before)
    (sym (append-nil before)) record { generation = refl; count = refl }
no_fence-same name before (r ∷ xs) none =
    let here : SameFence name before (before ++ r ∷ []) =
    no_fence-step name before r (no_fence-key r.key name none.0) in
    let rest : SameFence name (before ++ r ∷ []) ((before ++ r ∷ []) ++ xs) =
    no_fence-same name (before ++ r ∷ []) xs none.1 in
    subst (SameFence name before) (append_assoc before (r ∷ []) xs) record {
      generation = rest.generation
          ∙ here.generation;
      count = rest.count ∙ here.count;
    }

-- ---- standing fences

-- the last of a list that has one more
split-last : {X : Type 0} (xs : List X) (x : X) (before : List X) (y : X) (behind : List X) →
    xs ++ x ∷ [] ≡ before ++ y ∷ behind →
    ((xs ≡ before) × (x ≡ y)) ⊎ ((rest : List X) × (xs ≡ before ++ y ∷ rest))
split-last [] x [] y [] is = inl (refl, let same : x ≡ y = cc in same)
split-last [] x [] y (z ∷ behind) is = cc
split-last [] x (z ∷ []) y behind is = cc
split-last [] x (z ∷ w ∷ before) y behind is = cc
split-last {X = X} (w ∷ xs) x [] y behind is = inr (xs, let same : w ≡ y = cc in ap (λ (v : X). v ∷ xs) same)
split-last {X = X} (w ∷ xs) x (z ∷ before) y behind is =
    let first : w ≡ z = cc in
    let rest : xs ++ x ∷ [] ≡ before ++ y ∷ behind = cc in
    elim (split-last xs x before y behind rest) [
      | inl here ↦ inl (ap (λ (l : List X). w ∷ l) here.0 ∙ ap (λ (v : X). v ∷ before) first, here.1)
      | inr there ↦ inr (there.0, ap (λ (l : List X). w ∷ l) there.1 ∙ ap (λ (v : X). v ∷ before ++ y ∷ there.0) first)
    ]

-- a fence that a list's last record is
pub record LastFence (records : List ConfigRecord) (r : ConfigRecord) (name : List ℕ)
    (generation mark : ℕ) : Type 0 where
  pub fences : has_key (key.Fencing name) r ≡ true
  pub stamped : r.stamp ≡ mark
  pub of_generation : generation_of name records ≡ Some generation

pub standing-push : (records : List ConfigRecord) (r : ConfigRecord) (name : List ℕ) (generation mark : ℕ) →
    StandingFence (records ++ r ∷ []) name generation mark →
    StandingFence records name generation mark ⊎ LastFence records r name generation mark
standing-push records r name generation mark f = elim (split-last records r f.before f.fence f.behind f.split) [
  | inl here ↦ inr record {
    fences = ap (has_key (key.Fencing name)) here.1 ∙ f.fences;
    stamped = ap (λ (x : ConfigRecord). x.stamp) here.1 ∙ f.stamped;
    of_generation = ap (generation_of name) here.0 ∙ f.of_generation;
  }
  | inr there ↦ inl record {
    before = f.before;
    fence = f.fence;
    behind = there.0;
    split = there.1;
    fences = f.fences;
    stamped = f.stamped;
    of_generation = f.of_generation;
  }
]

-- a fence stays where records are appended
pub standing-append : (records more : List ConfigRecord) (name : List ℕ) (generation mark : ℕ) →
    StandingFence records name generation mark → StandingFence (records ++ more) name generation mark
standing-append records more name generation mark f = record {
  before = f.before;
  fence = f.fence;
  behind = f.behind ++ more;
  split = ap (λ (l : List ConfigRecord). l ++ more) f.split ∙ append_assoc f.before (f.fence ∷ f.behind) more;
  fences = f.fences;
  stamped = f.stamped;
  of_generation = f.of_generation;
}

pub standing-last : (records : List ConfigRecord) (r : ConfigRecord) (name : List ℕ) (generation mark : ℕ) →
    LastFence records r name generation mark → StandingFence (records ++ r ∷ []) name generation mark
standing-last records r name generation mark f =
    record {
      before = records;
      fence = r;
      behind = [];
      split = refl;
      fences = f.fences;
      stamped = f.stamped;
      of_generation = f.of_generation;
    }

-- records without a fence have none that stands
pub no_fence-standing : (before xs : List ConfigRecord) → NoFence xs → (name : List ℕ) (generation mark : ℕ) →
    StandingFence (before ++ xs) name generation mark → StandingFence before name generation mark
no_fence-standing before [] none name generation mark f =
    subst (λ (l : List ConfigRecord). StandingFence l name generation mark) (append-nil before) f
no_fence-standing before (r ∷ xs) none name generation mark f =
    let shorter : StandingFence (before ++ r ∷ []) name generation mark =
    no_fence-standing (before ++ r ∷ []) xs none.1 name generation mark
    (subst (λ (l : List ConfigRecord). StandingFence l name generation mark)
    (sym (append_assoc before (r ∷ []) xs)) f) in
    elim (standing-push before r name generation mark shorter) [
      | inl stands ↦ stands
      | inr last ↦ absurd (let never : has_key (key.Fencing name) r
          ≡ false = no_fence-key r.key name none.0 in let is : has_key (key.Fencing name) r ≡ true = last.fences in cc)
    ]
