-- A worker that starts an item of its assignment keeps all facts: the new instance does what the newest config asks
-- where it is of the newest generation (KIP-415, KIP-618).
use Rattle.std.proofs.Common.{◌≡◌, ◌≢◌, ◌⊎◌, inl, inr, ℕ, ◌+◌, ◌<◌, ◌≤◌, ◌==◌, ◌||◌, zero, suc, Bool, true, false, not, nat_lt, cond, List, [], ◌∷◌, ◌++◌, length, take, drop, Option, Some, None, IsSome, is_some, slice_index_or, unwrap_or, option_and_then, refl, sym, subst, ap, ◌∙◌, arith, length-append}
use Rattle.std.proofs.lemmas.Bool.{or_cases}
use Rattle.std.specs.Option.{IsSomeAnd}
use Rattle.std.specs.List.{AllByRecursion, Any, zip, list_any}
use Rattle.std.proofs.lemmas.List.{take-append-drop}
use Rattle.std.proofs.lemmas.List.Folds.{list_any-append}
use Rattle.std.proofs.lemmas.List.Quantifiers.{Any-push}
use Rattle.std.proofs.lemmas.Bool.Decides.{nat_tests, Decides-eqb}
use Rattle.cw_types.specs.declared.ids.Item.{Item}
use Rattle.cw_types.specs.declared.ids.Item.TheVariants.{Connector, Task}
use Rattle.cw_types.specs.declared.ids.TaskId.{TaskId}
use Rattle.cw_types.specs.declared.ids.Tid.TheVariants as producer
use Rattle.cw_keys.specs.Statuses.{IsItem}
use Rattle.cw_keys.specs.declared.config_key.ConfigKey.TheVariants as key
use Rattle.cw_assign.specs.Items.{has, same_item}
use Rattle.cw_assign.proofs.ItemLemmas.{same_item-Decides}
use Rattle.cw_config.specs.declared.records.ConfigRecord.{ConfigRecord}
use Rattle.cw_config.specs.Records.{has_key}
use Rattle.cw_config.specs.View.{Properties, config_of, generation_of, task_count_of, task_of}
use Rattle.cw_config.specs.Acceptance.{end_of}
use Rattle.cw_config.specs.Tables.{RisesFrom}
use Rattle.cw_config.proofs.Pushed.{end_of-push}
use Rattle.cw_plugin.specs.declared.task.TaskSpec.{TaskSpec}
use Rattle.cw_plugin.specs.Parts.{task_of as task_with}
use Rattle.cw_model.specs.declared.instance.Instance.{Instance}
use Rattle.cw_model.specs.State.{Setting, Cluster}
use Rattle.cw_model.specs.Lookups.{row_of, seen, instance_of, no_instance, held, is_at, is_configured, last_epoch}
use Rattle.cw_model.specs.Phases.{is_verified, is_ended}
use Rattle.cw_model.specs.Tasks.{parts_of}
use Rattle.cw_model.specs.ConfigsAllowed.{IsAllowedConfig, AreAllowedConfigs}
use Rattle.cw_model.specs.EventsItems.{start_item, MayStart, new_instance, spec_in}
use Rattle.cw_model.specs.Facts.{AreFacts}
use Rattle.cw_model.specs.FactsGroup.{GroupFacts, Claims, IsAsTold, AreAmong}
use Rattle.cw_model.specs.FactsRows.{IsSoundRow, IsSoundInstance, IsOfItem, IsTaskSpecOf, IsCommitOf}
use Rattle.cw_model.specs.FactsProducers.{Writes, IsOfTask, IsUnfenced, IsNewest, batches_up_to, commits_up_to}
use Rattle.cw_laws.proofs.Wrappers.{worker-keeps}
use Rattle.cw_laws.proofs.Lists.{each-push, each-weaker}
use Rattle.cw_laws.proofs.Frames.{logs-frame, exact-frame, backed-frame}
use Rattle.cw_laws.proofs.Grows.{grows-frame, journal-stays}
use Rattle.cw_laws.proofs.Disjoint.{group-disjoint}
use Rattle.cw_laws.proofs.Disks.{and-first, and-second}
use Rattle.cw_laws.proofs.Sound.{HasMore, sound_row-grows, sound_instance-grows}
use Rattle.cw_laws.proofs.Held.{holds_at, held-any}
use Rattle.cw_laws.proofs.Sync.{live-within}
use Rattle.cw_laws.proofs.AtInstance.{InstanceFacts, PairFacts, facts_of_all, used-frame}
use Rattle.cw_laws.proofs.ConfigViews.{generation_of-push}
use Rattle.cw_laws.proofs.Allowed.{AsksOf, fact-allowed, allowed-prefix, below-end, is-below}
use Rattle.cw_laws.proofs.AllowedTasks.{task-facts, name-facts, tasks-generation}
use Rattle.cw_laws.proofs.Newest.{seen-set, same-spec}
use Rattle.cw_laws.proofs.ConfigsAppended.{end-grows, any-append}

-- ---- a list with one more

push-cases : {X : Type 0} (xs : List X) (x d : X) (n : ℕ) →
    (n ≡ length xs) ⊎ (slice_index_or (xs ++ x ∷ []) n d ≡ slice_index_or xs n d)
push-cases [] x d zero = inl refl
push-cases [] x d (suc n) = inr refl
push-cases (y ∷ ys) x d zero = inr refl
push-cases (y ∷ ys) x d (suc n) = elim
    (push-cases ys x d n) [ inl last ↦ inl (ap (λ m. suc m) last) | inr other ↦ inr other ]

push-last : {X : Type 0} (xs : List X) (x d : X) → slice_index_or (xs ++ x ∷ []) (length xs) d ≡ x
push-last [] x d = refl
push-last (y ∷ ys) x d = push-last ys x d

none-zipped : {X Y : Type 0} (P : X × Y → Type 0) (xs : List X) → AllByRecursion P (zip xs [])
none-zipped P [] = tt
none-zipped P (x ∷ xs) = tt

-- ---- records of a config log

-- a generation is the offset of a commit that is there
pub generation-there : (name : List ℕ) (records : List ConfigRecord) → AreAllowedConfigs [] records → (g : ℕ) →
    generation_of name records ≡ Some g → Any (IsCommitOf name g) records
generation-there name = fact-allowed (λ records. (g : ℕ) → generation_of name records ≡ Some g → Any
    (IsCommitOf name g) records) step (λ g is. cc) where
      by : (before : List ConfigRecord) (r : ConfigRecord) (g : ℕ) (b : Bool) → has_key (key.Commit name) r ≡ b →
          ((g : ℕ) → generation_of name before ≡ Some g → Any (IsCommitOf name g) before) →
          cond b (Some r.offset) (generation_of name before) ≡ Some g → Any (IsCommitOf name g) (before ++ r ∷ [])
      by before r g true commits there is = Any-push (IsCommitOf name g) before r record { commits = commits; at = cc }
      by before r g false other there is = any-append (IsCommitOf name g) before (r ∷ []) (there g is)

      step : (before : List ConfigRecord) (r : ConfigRecord) → RisesFrom 0 before → IsAllowedConfig before r →
          ((g : ℕ) → generation_of name before ≡ Some g → Any (IsCommitOf name g) before) →
          (g : ℕ) → generation_of name (before ++ r ∷ []) ≡ Some g → Any (IsCommitOf name g) (before ++ r ∷ [])
      step before r rises a there g is = by before r g (has_key (key.Commit name) r) refl there
          (sym (generation_of-push name before r) ∙ is)

-- where a connector is configured, there is a record
pub config-there : (name : List ℕ) (records : List ConfigRecord) → AreAllowedConfigs [] records →
    IsSome (config_of name records) → 0 < end_of records
config-there name = fact-allowed (λ records. IsSome (config_of name records) → 0 < end_of records)
    (λ before r rises a there some. omega (arith, end_of-push before r)) (λ some. cc)

asks-spec : (name : List ℕ) (o : Option Properties) → AsksOf name o →
    IsSomeAnd (option_and_then (task_with name) o) (IsTaskSpecOf name)
asks-spec name None asks = absurd asks
asks-spec name (Some props) asks = by (task_with name props) refl asks where
  by : (o : Option TaskSpec) → task_with name props ≡ o → IsSome o → IsSomeAnd o (IsTaskSpecOf name)
  by None is some = cc
  by (Some spec) is some = record { properties = props; asked = is }

less-true : (a b : ℕ) → nat_lt a b ≡ true → a < b
less-true a b is = grind (arith, nat_tests)

-- what a worker has read of an item that is configured there
module _ (records : List ConfigRecord) (n : ℕ) (allowed : AreAllowedConfigs [] records) where
  abbrev front : List ConfigRecord
  front = take n records

  whole : front ++ drop n records ≡ records
  whole = take-append-drop n records

  front_allowed : AreAllowedConfigs [] front
  front_allowed = (allowed-prefix n records allowed).0

  front_end : end_of front ≤ end_of records
  front_end = subst (λ (l : List ConfigRecord). end_of front ≤ end_of l) whole (end-grows front (drop n records))

  counted : (id : TaskId) → is_configured front (Task id) ≡ true → id.index < task_count_of id.connector front
  counted id is = less-true id.index (task_count_of id.connector front)
      (and-second (is_some (config_of id.connector front)) (nat_lt id.index (task_count_of id.connector front)) is)

  pub named : (item : Item) → is_configured front item ≡ true → IsItem item
  named (Connector name) is = (name-facts name front front_allowed).config is
  named (Task id) is =
      let facts = name-facts id.connector front front_allowed in (
        facts.config (and-first (is_some (config_of id.connector front))
            (nat_lt id.index (task_count_of id.connector front)) is),
        omega (arith, counted id is, facts.tasks),
      )

  pub generation-below : (w : ℕ) (item : Item) → is_configured front item ≡ true →
      (new_instance w front item).generation < end_of records
  generation-below w (Connector name) is = omega (arith, config-there name front front_allowed is, front_end)
  generation-below w (Task id) is =
      let newest = tasks-generation id.connector id.index front front_allowed (counted id is) in
      omega (
        arith,
        is-below (generation_of id.connector front) front newest.0
            (below-end id.connector front front_allowed).generation newest.1,
        front_end,
        ap (λ (o : Option ℕ). unwrap_or o 0) newest.1,
      )

  pub of_item : (w : ℕ) (item : Item) → is_configured front item ≡ true →
      IsOfItem records item (new_instance w front item)
  of_item w (Connector name) is = record { idle = refl; task = refl; generation = refl }
  of_item w (Task id) is =
      let newest = tasks-generation id.connector id.index front front_allowed (counted id is) in
      let own : newest.0 ≡ unwrap_or (generation_of id.connector front) 0 =
      sym (ap (λ (o : Option ℕ). unwrap_or o 0) newest.1) in
      let there : Any (IsCommitOf id.connector newest.0) records =
      subst (λ (l : List ConfigRecord). Any (IsCommitOf id.connector newest.0) l) whole
      (any-append (IsCommitOf id.connector newest.0) front (drop n records)
      (generation-there id.connector front front_allowed newest.0 newest.1)) in
      record {
        phase = λ e. cc;
        task = asks-spec id.connector (task_of id front) ((task-facts id front front_allowed).asks (counted id is));
        generation = subst (λ (g : ℕ). Any (IsCommitOf id.connector g) records) own there;
      }

  -- where its generation is the newest, its task is that of the whole list
  pub newest-task : (w : ℕ) (item : Item) → is_configured front item ≡ true → (id : TaskId) →
      (new_instance w front item).item ≡ Task id →
      generation_of id.connector records ≡ Some (new_instance w front item).generation →
      spec_in records id ≡ (new_instance w front item).task
  newest-task w (Connector name) is id same newest = cc
  newest-task w (Task own) is id same newest =
      let one : own ≡ id = cc in
      let old = tasks-generation own.connector own.index front front_allowed (counted own is) in
      let now : generation_of own.connector records ≡ Some old.0 =
      subst (λ (x : TaskId). generation_of x.connector records
      ≡ Some (unwrap_or (generation_of own.connector front) 0)) (sym one) newest
      ∙ ap (λ (o : Option ℕ). Some (unwrap_or o 0)) old.1 in
      subst (λ (x : TaskId). spec_in records x ≡ spec_in front own) one
      (same-spec own front records (seen-set own.connector n records old.0 allowed old.1 now))

-- ---- a new instance

new-worker : (w : ℕ) (records : List ConfigRecord) (item : Item) → (new_instance w records item).worker ≡ w
new-worker w records (Connector name) = refl
new-worker w records (Task id) = refl

new-item : (w : ℕ) (records : List ConfigRecord) (item : Item) → (new_instance w records item).item ≡ item
new-item w records (Connector name) = refl
new-item w records (Task id) = refl

new-epoch : (w : ℕ) (records : List ConfigRecord) (item : Item) → (new_instance w records item).epoch ≡ None
new-epoch w records (Connector name) = refl
new-epoch w records (Task id) = refl

new-unverified : (w : ℕ) (records : List ConfigRecord) (item : Item) →
    is_verified (new_instance w records item).phase ≡ false
new-unverified w records (Connector name) = refl
new-unverified w records (Task id) = refl

new-positions : (w : ℕ) (records : List ConfigRecord) (item : Item) → (new_instance w records item).positions ≡ []
new-positions w records (Connector name) = refl
new-positions w records (Task id) = refl

new-sound : (s : Cluster) (w n : ℕ) (item : Item) → w < length s.rows → AreAllowedConfigs [] s.configs →
    is_configured (take n s.configs) item ≡ true → IsSoundInstance s (new_instance w (take n s.configs) item)
new-sound s w n (Connector name) within allowed is = record {
  at_worker = within;
  named = named s.configs n allowed (Connector name) is;
  of_item = of_item s.configs n allowed w (Connector name) is;
  generation = generation-below s.configs n allowed w (Connector name) is;
  source = λ e. absurd (cc);
  sink = λ e. absurd (cc);
  epoch = λ e. absurd (cc);
  positions = λ e. absurd (cc);
  cut = λ e. absurd (cc);
  delivered = λ e. absurd (cc);
  number = omega arith;
}
new-sound s w n (Task id) within allowed is = record {
  at_worker = within;
  named = named s.configs n allowed (Task id) is;
  of_item = of_item s.configs n allowed w (Task id) is;
  generation = generation-below s.configs n allowed w (Task id) is;
  source = λ e. absurd (cc);
  sink = λ e. absurd (cc);
  epoch = λ e. absurd (cc);
  positions = λ e. absurd (cc);
  cut = λ e. absurd (cc);
  delivered = λ e. absurd (cc);
  number = omega arith;
}

module _ (setting : Setting) (w : ℕ) (item : Item) (s : Cluster) (may : MayStart w item s) (f : AreFacts setting s)
    (within : w < length s.rows) where
  abbrev new : Instance
  new = new_instance w (seen w s) item

  abbrev t : Cluster
  t = record s { instances = s.instances ++ new ∷ [] }

  abbrev last : ℕ
  last = length s.instances

  size : length t.instances ≡ last + 1
  size = length-append s.instances (new ∷ [])

  cases : (n : ℕ) → (n ≡ last) ⊎ (instance_of n t ≡ instance_of n s)
  cases n = push-cases s.instances new no_instance n

  reads : instance_of last t ≡ new
  reads = push-last s.instances new no_instance

  -- ---- what was there

  task_before : (n : ℕ) → n ≢ last → instance_of n t ≡ instance_of n s → (id : TaskId) → IsOfTask t n id →
      IsOfTask s n id
  task_before n ne other id o =
      record {
        within = omega (arith, ne, o.within, size);
        item = subst (λ (k : Instance). k.item ≡ Task id) other o.item;
      }

  writes_before : (n : ℕ) → n ≢ last → instance_of n t ≡ instance_of n s → (id : TaskId) (epoch : ℕ) →
      Writes t n id epoch → Writes s n id epoch
  writes_before n ne other id epoch o =
      record {
        is_task = task_before n ne other id o.is_task;
        under = subst (λ (k : Instance). k.epoch ≡ Some (record { 0 = epoch })) other o.under;
      }

  unfenced_before : (n : ℕ) → n ≢ last → instance_of n t ≡ instance_of n s → (id : TaskId) → IsUnfenced t n id →
      IsUnfenced s n id
  unfenced_before n ne other id o = record {
    verified = subst (λ (k : Instance). is_verified k.phase ≡ true) other o.verified;
    last = writes_before n ne other id (last_epoch (producer.Task id) s) o.last;
  }

  newest_before : (n : ℕ) → n ≢ last → instance_of n t ≡ instance_of n s → (id : TaskId) → IsNewest t n id →
      IsNewest s n id
  newest_before n ne other id o =
      record {
        is_task = task_before n ne other id o.is_task;
        newest = subst (λ (k : Instance). generation_of id.connector s.configs ≡ Some k.generation) other o.newest;
      }

  old : (n : ℕ) → n ≢ last → instance_of n t ≡ instance_of n s → InstanceFacts setting t n
  old n ne other = record {
    generation = λ id u. rw other (f.producers.generation n id (unfenced_before n ne other id u));
    counted = λ id u. f.producers.counted n id (unfenced_before n ne other id u);
    positions = λ id u fetched. rw other (f.producers.positions n id (unfenced_before n ne other id u)
        (rw (← other) fetched));
    task = λ id u. rw other (f.producers.task n id (newest_before n ne other id u));
    one_batch = λ id epoch u opened. rw other (f.producers.one_batch n id epoch (writes_before n ne other id epoch u)
        (rw (← other) opened));
    fencing = λ v fencing id leads u same older. f.producers.fencing v n fencing id record {
      leads = leads.leads;
      keeps = leads.keeps;
    } (unfenced_before n ne other id u) same
        (subst (λ (k : Instance). k.generation < fencing.generation) other older);
    not_ahead = λ id u. rw other (f.producers.not_ahead n id (newest_before n ne other id u));
    known_epochs = λ id epoch u. f.producers.known_epochs n id epoch (writes_before n ne other id epoch u);
    numbers = λ id epoch u has. used-frame s t id epoch (batches_up_to (instance_of n s))
        (commits_up_to (instance_of n s)) (batches_up_to (instance_of n t)) (commits_up_to (instance_of n t))
        (rw other refl) (rw other refl) (f.producers.numbers n id epoch (writes_before n ne other id epoch u)
        (rw (← other) has));
  }

  -- ---- the new one

  writes_nothing : (id : TaskId) (epoch : ℕ) → Writes t last id epoch → ⊥
  writes_nothing id epoch o =
      let none : new.epoch ≡ None = new-epoch w (seen w s) item in
      let under : new.epoch ≡ Some (record { 0 = epoch }) =
      subst (λ (k : Instance). k.epoch ≡ Some (record { 0 = epoch })) reads o.under in cc

  own : InstanceFacts setting t last
  own = record {
    generation = λ id u. absurd (writes_nothing id (last_epoch (producer.Task id) s) u.last);
    counted = λ id u. absurd (writes_nothing id (last_epoch (producer.Task id) s) u.last);
    positions = λ id u fetched. absurd (writes_nothing id (last_epoch (producer.Task id) s) u.last);
    task = λ id u. rw reads (newest-task s.configs (row_of w s).prefix f.logs.configs.allowed w item may.configured id
        (subst (λ (k : Instance). k.item ≡ Task id) reads u.is_task.item)
        (subst (λ (k : Instance). generation_of id.connector s.configs ≡ Some k.generation) reads u.newest));
    one_batch = λ id epoch u opened. absurd (writes_nothing id epoch u);
    fencing = λ v fencing id leads u same older. absurd (writes_nothing id (last_epoch (producer.Task id) s) u.last);
    not_ahead = λ id u. rw (reads, new-positions w (seen w s) item) (none-zipped _ (parts_of new));
    known_epochs = λ id epoch u. absurd (writes_nothing id epoch u);
    numbers = λ id epoch u has. absurd (writes_nothing id epoch u);
  }

  one : (n : ℕ) → (n ≡ last) ⊎ (n ≢ last) → InstanceFacts setting t n
  one n (inl same) = subst (λ (m : ℕ). InstanceFacts setting t m) (sym same) own
  one n (inr ne) = elim (cases n) [ inl same ↦ absurd (ne same) | inr other ↦ old n ne other ]

  is_last : (n : ℕ) → (n ≡ last) ⊎ (n ≢ last)
  is_last n = by (n == last) refl where
    by : (b : Bool) → (n == last) ≡ b → (n ≡ last) ⊎ (n ≢ last)
    by true is = inl ((Decides-eqb n last).0 is)
    by false is = inr (λ same. let not : (n == last) ≡ true = (Decides-eqb n last).1 same in cc)

  nothing : (n : ℕ) → n ≡ last → (id : TaskId) (epoch : ℕ) → Writes t n id epoch → ⊥
  nothing n same id epoch u = writes_nothing id epoch (subst (λ (m : ℕ). Writes t m id epoch) same u)

  two : (m n : ℕ) → m ≢ n → (m ≡ last) ⊎ (m ≢ last) → (n ≡ last) ⊎ (n ≢ last) → PairFacts t m n
  two m n ne (inl same) b = record {
    apart = λ x y u v equal. absurd (nothing m same x (last_epoch (producer.Task x) s) u.last);
    epochs = λ id epoch u v. nothing m same id epoch u;
  }
  two m n ne (inr a) (inl same) = record {
    apart = λ x y u v equal. absurd (nothing n same y (last_epoch (producer.Task y) s) v.last);
    epochs = λ id epoch u v. nothing n same id epoch v;
  }
  two m n ne (inr a) (inr b) = elim (cases m) [
    | inl same ↦ absurd (a same)
    | inr first ↦ elim (cases n) [
      | inl same ↦ absurd (b same)
      | inr second ↦ record {
        apart = λ x y u v equal. rw (first, second) (f.producers.apart m n x y ne (unfenced_before m a first x u)
            (unfenced_before n b second y v) equal);
        epochs = λ id epoch u v. f.producers.apart_epochs m n id epoch ne (writes_before m a first id epoch u)
            (writes_before n b second id epoch v);
      }
    ]
  ]

  -- ---- who holds what

  -- the worker holds the item, and nobody else holds more
  holds : (v : ℕ) (x : Item) → has (held v t) x ≡ true → (has (held v s) x ≡ true) ⊎ ((v ≡ w) × (x ≡ item))
  holds v x held_by =
      let any : (list_any (holds_at v x) s.instances || list_any (holds_at v x) (new ∷ [])) ≡ true =
      sym (list_any-append (holds_at v x) s.instances (new ∷ [])) ∙ sym (held-any t v x) ∙ held_by in
      elim (or_cases (list_any (holds_at v x) s.instances) (list_any (holds_at v x) (new ∷ [])) any) [
        | inl before ↦ inl (held-any s v x ∙ before)
        | inr now ↦ elim (or_cases (holds_at v x new) false now) [
          | inl here ↦
              let at : (new.worker == v) ≡ true = and-first (new.worker == v) (not (is_ended new.phase))
              (and-first (is_at v new) (same_item x new.item) here) in
              let worker : v ≡ w = sym ((Decides-eqb new.worker v).0 at) ∙ new-worker w (seen w s) item in
              let of : x ≡ item = (same_item-Decides x new.item).0
              (and-second (is_at v new) (same_item x new.item) here) ∙ new-item w (seen w s) item in
              inr (worker, of)
          | inr never ↦ absurd (cc)
        ]
      ]

  claims_before : (v : ℕ) (claim : List Item) → Claims t v claim → Claims s v claim
  claims_before v claim c = record { member = c.member; there = c.there; current = c.current; is_claim = c.is_claim }

  claimed : (v : ℕ) (claim : List Item) → Claims t v claim → AreAmong (held v t) claim
  claimed v claim c x held_by = elim (holds v x held_by) [
    | inl before ↦ f.group.held v claim (claims_before v claim c) x before
    | inr now ↦ subst (λ (y : Item). has claim y ≡ true) (sym now.1)
        (f.group.assigned w claim (subst (λ (u : ℕ). Claims s u claim) now.0
        (claims_before v claim c)) item may.assigned)
  ]

  group : GroupFacts t
  group = record {
    rising = f.group.rising;
    apart = f.group.apart;
    held = claimed;
    assigned = λ v claim c. f.group.assigned v claim (claims_before v claim c);
    known = f.group.known;
    no_repeat = f.group.no_repeat;
    in_order = f.group.in_order;
    all_joined = f.group.all_joined;
    waiting = f.group.waiting;
    within = f.group.within;
    once = f.group.once;
    told = λ planned v leader current stable.
        let told : IsAsTold s v leader = f.group.told planned v leader current stable in
        record {
          member = told.member;
          there = told.there;
          lowest = told.lowest;
          assigned = told.assigned;
          revoked = told.revoked;
        };
    all_given = f.group.all_given;
    round = f.group.round;
  }

  pub start-done : AreFacts setting t
  start-done =
      let grows : HasMore s t = record { rows = omega arith; epochs = omega arith; entries = omega arith } in
      record {
        safe = record {
          disjoint = group-disjoint t group;
          fenced = f.safe.fenced;
          exact = exact-frame setting s t f.safe.exact;
          backed = backed-frame s t f.safe.backed;
        };
        group = group;
        logs = logs-frame setting s t f.logs;
        rows = record {
          few = f.rows.few;
          rows = each-weaker (IsSoundRow s) (IsSoundRow t) s.rows (sound_row-grows s t grows) f.rows.rows;
          instances = each-weaker (IsSoundInstance s) (IsSoundInstance t) t.instances (sound_instance-grows s t grows)
              (each-push (IsSoundInstance s) s.instances new
              (new-sound s w (row_of w s).prefix item within f.logs.configs.allowed may.configured) f.rows.instances);
        };
        producers = facts_of_all setting t (λ n. one n (is_last n)) (λ m n ne. two m n ne (is_last m) (is_last n));
        journal = journal-stays setting s t (grows-frame s t (λ v. omega arith)) f.journal;
      }

pub start_item-keeps : (setting : Setting) (w : ℕ) (item : Item) (s : Cluster) → MayStart w item s →
    AreFacts setting s → AreFacts setting (start_item w item s).1
start_item-keeps setting w item s may f = worker-keeps (AreFacts setting) w s _ f
    (λ live. start-done setting w item s may f (live-within w s live))
