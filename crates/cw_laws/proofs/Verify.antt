-- A task that finds its set to be the newest, and fenced, keeps all facts when it goes on (KIP-618).
use Rattle.std.proofs.Common.{◌≡◌, ◌≢◌, inl, inr, ℕ, ◌<◌, ◌≤◌, ◌==◌, Bool, true, false, not, nat_lt, List, length, Option, Some, unwrap_or, if◌then◌else◌, refl, sym, subst, ap, ◌∙◌, arith}
use Rattle.std.specs.Option.{IsSomeAnd}
use Rattle.std.proofs.Math.ListN.{length-set}
use Rattle.std.proofs.lemmas.Bool.Decides.{nat_tests, Decides-eqb}
use Rattle.cw_types.specs.declared.ids.Item.{Item}
use Rattle.cw_types.specs.declared.ids.Item.TheVariants.{Connector, Task}
use Rattle.cw_types.specs.declared.ids.TaskId.{TaskId}
use Rattle.cw_types.specs.declared.ids.Tid.TheVariants as producer
use Rattle.cw_config.specs.declared.records.ConfigRecord.{ConfigRecord}
use Rattle.cw_config.specs.View.{generation_of, task_count_of, fenced_count_of, is_pending}
use Rattle.cw_plugin.specs.declared.task.TaskSpec.{TaskSpec}
use Rattle.cw_plugin.specs.Tasks.{ShareNone}
use Rattle.cw_model.specs.declared.row.Fencing.{Fencing}
use Rattle.cw_model.specs.declared.instance.Instance.{Instance}
use Rattle.cw_model.specs.declared.instance.InstancePhase.{InstancePhase}
use Rattle.cw_model.specs.declared.instance.InstancePhase.TheVariants as phase
use Rattle.cw_model.specs.State.{Setting, Cluster}
use Rattle.cw_model.specs.Lookups.{row_of, instance_of, no_instance, last_epoch}
use Rattle.cw_model.specs.Updates.{changes_instance, in_phase, task_id_of}
use Rattle.cw_model.specs.Tasks.{parts_of}
use Rattle.cw_model.specs.Phases.{is_fetched, has_open_transaction, is_ended, is_working, is_verified}
use Rattle.cw_model.specs.Fences.{fenced_generation_of}
use Rattle.cw_model.specs.EventsItems.{spec_in}
use Rattle.cw_model.specs.EventsSources.{verify, MayVerify, is_stale}
use Rattle.cw_model.specs.Facts.{AreFacts}
use Rattle.cw_model.specs.FactsRows.{IsSoundRow, IsSoundInstance, IsOfItem, IsBegun, IsBegunFencing}
use Rattle.cw_model.specs.FactsProducers.{Writes, IsOfTask, IsUnfenced, IsNewest, IsFencing, IsToBeFenced, batches_up_to, commits_up_to}
use Rattle.cw_laws.proofs.Wrappers.{instance-keeps, if-keeps}
use Rattle.cw_laws.proofs.Lists.{each-at, set-cases}
use Rattle.cw_laws.proofs.AtInstance.{InstanceFacts, PairFacts, facts_of_one, used-frame}
use Rattle.cw_laws.proofs.Changed.{change-keeps, reads-change}
use Rattle.cw_laws.proofs.Workers.{sound_at}
use Rattle.cw_laws.proofs.Init.{lives-within}
use Rattle.cw_laws.proofs.Allowed.{fence-facts}
use Rattle.cw_laws.proofs.AllowedTasks.{spec_parts, specs-apart, tasks-generation, task_at}

-- what isn't stale is of the newest generation, and one of its tasks
pub record IsFresh (records : List ConfigRecord) (id : TaskId) (generation : ℕ) : Type 0 where
  pub newest : generation ≡ unwrap_or (generation_of id.connector records) 0
  pub counted : id.index < task_count_of id.connector records

not-less : (a b : ℕ) → not (nat_lt a b) ≡ false → a < b
not-less a b is = grind (arith, nat_tests)

fresh : (records : List ConfigRecord) (id : TaskId) (generation : ℕ) (same : Bool) →
    (generation == unwrap_or (generation_of id.connector records) 0) ≡ same →
    (if same then not (nat_lt id.index (task_count_of id.connector records)) else true) ≡ false →
    IsFresh records id generation
fresh records id generation true is below = record {
  newest = (Decides-eqb generation (unwrap_or (generation_of id.connector records) 0)).0 is;
  counted = not-less id.index (task_count_of id.connector records) below;
}
fresh records id generation false is below = cc

of_item-verify : (records : List ConfigRecord) (item : Item) (j : Instance) → j.phase ≡ phase.Inited →
    IsOfItem records item j → IsOfItem records item (in_phase phase.Verified j)
of_item-verify records (Connector name) j may o =
    absurd (let works : is_working j.phase ≡ true = rw may refl in let idle : is_working j.phase ≡ false = o.idle in cc)
of_item-verify records (Task id) j may o = record { phase = λ e. cc; task = o.task; generation = o.generation }

begun-below : (records : List ConfigRecord) (fencing : Fencing) (name : List ℕ) (g : ℕ) →
    IsBegunFencing records fencing → name ≡ fencing.connector → generation_of name records ≡ Some g →
    fencing.generation ≤ g
begun-below records fencing name g begun same is =
    subst (λ (o : Option ℕ). IsSomeAnd o (λ newest. fencing.generation ≤ newest)) is
    (subst (λ (x : List ℕ). IsSomeAnd (generation_of x records) (λ newest. fencing.generation ≤ newest))
    (sym same) begun.generation)

module _ (setting : Setting) (i : ℕ) (s : Cluster) (may : MayVerify i s) (within : i < length s.instances)
    (f : AreFacts setting s)
    (is_fresh : IsFresh s.configs (task_id_of (instance_of i s).item) (instance_of i s).generation)
    (settled : is_pending (task_id_of (instance_of i s).item).connector s.configs ≡ false) where
  abbrev t : Cluster
  t = changes_instance i (in_phase phase.Verified) s

  reads : instance_of i t ≡ in_phase phase.Verified (instance_of i s)
  reads = reads-change i (in_phase phase.Verified) s within

  size : length t.instances ≡ length s.instances
  size = length-set s.instances i (in_phase phase.Verified (instance_of i s))

  fails : (test : InstancePhase → Bool) → test phase.Verified ≡ false → test (instance_of i t).phase ≡ true → ⊥
  fails test never passes = let is : test phase.Verified ≡ true =
      subst (λ (k : Instance). test k.phase ≡ true) reads passes in cc

  own_task : (id : TaskId) → IsOfTask t i id → IsOfTask s i id
  own_task id o = record { within = within; item = subst (λ (k : Instance). k.item ≡ Task id) reads o.item }

  own_writes : (id : TaskId) (epoch : ℕ) → Writes t i id epoch → Writes s i id epoch
  own_writes id epoch o = record {
    is_task = own_task id o.is_task;
    under = subst (λ (k : Instance). k.epoch ≡ Some (record { 0 = epoch })) reads o.under;
  }

  own_newest : (id : TaskId) → IsNewest t i id → IsNewest s i id
  own_newest id o = record {
    is_task = own_task id o.is_task;
    newest = subst (λ (k : Instance). generation_of id.connector s.configs ≡ Some k.generation) reads o.newest;
  }

  others : (n : ℕ) → n ≢ i → instance_of n t ≡ instance_of n s
  others n ne = elim (set-cases s.instances i (in_phase phase.Verified
      (instance_of i s)) no_instance n) [ inl equal ↦ absurd (ne equal) | inr other ↦ other ]

  other_writes : (n : ℕ) → n ≢ i → (id : TaskId) (epoch : ℕ) → Writes t n id epoch → Writes s n id epoch
  other_writes n ne id epoch v = record {
    is_task = record {
      within = rw (← size) v.is_task.within;
      item = subst (λ (k : Instance). k.item ≡ Task id) (others n ne) v.is_task.item;
    };
    under = subst (λ (k : Instance). k.epoch ≡ Some (record { 0 = epoch })) (others n ne) v.under;
  }

  other_unfenced : (n : ℕ) → n ≢ i → (id : TaskId) → IsUnfenced t n id → IsUnfenced s n id
  other_unfenced n ne id o = record {
    verified = subst (λ (k : Instance). is_verified k.phase ≡ true) (others n ne) o.verified;
    last = other_writes n ne id (last_epoch (producer.Task id) s) o.last;
  }

  -- its set is the newest one, and the last fence stands for that
  pub record IsSettled (id : TaskId) : Type 0 where
    pub newest : generation_of id.connector s.configs ≡ Some (instance_of i s).generation
    pub counted : id.index < task_count_of id.connector s.configs
    pub fenced : fenced_generation_of id.connector s.configs ≡ generation_of id.connector s.configs
    pub count : fenced_count_of id.connector s.configs ≡ task_count_of id.connector s.configs

  settles : (id : TaskId) → task_id_of (instance_of i s).item ≡ id → IsSettled id
  settles id is =
      let own : IsFresh s.configs id (instance_of i s).generation =
      subst (λ (x : TaskId). IsFresh s.configs x (instance_of i s).generation) is is_fresh in
      let not_pending : is_pending id.connector s.configs ≡ false =
      subst (λ (x : TaskId). is_pending x.connector s.configs ≡ false) is settled in
      let newest = tasks-generation id.connector id.index s.configs f.logs.configs.allowed own.counted in
      let facts = fence-facts id.connector s.configs f.logs.configs.allowed in
      let generation : generation_of id.connector s.configs ≡ Some (instance_of i s).generation =
      newest.1 ∙ sym (ap Some (own.newest ∙ ap (λ (o : Option ℕ). unwrap_or o 0) newest.1)) in
      let fenced : fenced_generation_of id.connector s.configs ≡ generation_of id.connector s.configs =
      facts.newest not_pending in
      record {
        newest = generation;
        counted = own.counted;
        fenced = fenced;
        count = facts.count (instance_of i s).generation (fenced ∙ generation) generation;
      }

  of_task : (id : TaskId) → IsOfTask t i id → IsSettled id
  of_task id o = settles id (ap task_id_of (own_task id o).item)

  newest : (id : TaskId) → IsOfTask t i id → IsNewest s i id
  newest id o = record { is_task = own_task id o; newest = (of_task id o).newest }

  not_fencing : (w : ℕ) (fencing : Fencing) (id : TaskId) → IsFencing t w fencing → IsOfTask t i id →
      id.connector ≡ fencing.connector → (instance_of i t).generation < fencing.generation →
      IsToBeFenced fencing id.index
  not_fencing w fencing id leads o same older =
      let sound : IsSoundRow s (row_of w s) = sound_at s f.rows w in
      let begun : IsBegun s.configs (Some fencing) =
      subst (λ (x : Option Fencing). IsBegun s.configs x) leads.keeps sound.fencing in
      let below : fencing.generation ≤ (instance_of i s).generation =
      begun-below s.configs fencing id.connector (instance_of i s).generation begun same (of_task id o).newest in
      let less : (instance_of i s).generation < fencing.generation =
      subst (λ (k : Instance). k.generation < fencing.generation) reads older in
      absurd (omega (arith, below, less))

  sound : IsSoundInstance s (instance_of i s) → IsSoundInstance s (in_phase phase.Verified (instance_of i s))
  sound h = record {
    at_worker = h.at_worker;
    named = h.named;
    of_item = of_item-verify s.configs (instance_of i s).item (instance_of i s) may h.of_item;
    generation = h.generation;
    source = λ e. absurd (cc);
    sink = λ e. absurd (cc);
    epoch = λ e. h.epoch (rw may refl);
    positions = λ e. absurd (cc);
    cut = λ e. absurd (cc);
    delivered = λ e. absurd (cc);
    number = h.number;
  }

  own : InstanceFacts setting t i
  own =
      let old : InstanceFacts setting s i = facts_of_one setting s f.producers i in
      record {
        generation = λ id u. rw reads ((of_task id u.last.is_task).fenced ∙ (of_task id u.last.is_task).newest);
        counted = λ id u. subst (λ (n : ℕ). id.index < n) (sym (of_task id u.last.is_task).count)
            (of_task id u.last.is_task).counted;
        positions = λ id u fetched. absurd (fails is_fetched refl fetched);
        task = λ id u. rw reads (old.task id (own_newest id u));
        one_batch = λ id epoch u opened. absurd (fails has_open_transaction refl opened);
        fencing = λ w fencing id leads u. not_fencing w fencing id leads u.last.is_task;
        not_ahead = λ id u. rw reads (old.not_ahead id (own_newest id u));
        known_epochs = λ id epoch u. old.known_epochs id epoch (own_writes id epoch u);
        numbers = λ id epoch u has. used-frame s t id epoch (batches_up_to (instance_of i s))
            (commits_up_to (instance_of i s)) (batches_up_to (instance_of i t)) (commits_up_to (instance_of i t))
            (rw (reads, may) refl) (rw (reads, may) refl) (old.numbers id epoch (own_writes id epoch u) (rw may refl));
      }

  -- another producer of the connector that isn't fenced is of the newest set, too
  other_settled : (n : ℕ) → n ≢ i → (a b : TaskId) → IsSettled a → IsUnfenced s n b → a.connector ≡ b.connector →
      IsNewest s n b × (b.index < task_count_of a.connector s.configs)
  other_settled n ne a b settled u same =
      let fenced : fenced_generation_of a.connector s.configs ≡ Some (instance_of n s).generation =
      subst (λ (x : List ℕ). fenced_generation_of x s.configs ≡ Some (instance_of n s).generation) (sym same)
      (f.producers.generation n b u) in
      let counted : b.index < fenced_count_of a.connector s.configs =
      subst (λ (x : List ℕ). b.index < fenced_count_of x s.configs) (sym same) (f.producers.counted n b u) in
      let generation : generation_of a.connector s.configs ≡ Some (instance_of n s).generation =
      sym settled.fenced ∙ fenced in (
        record {
          is_task = u.last.is_task;
          newest = subst
              (λ (x : List ℕ). generation_of x s.configs ≡ Some (instance_of n s).generation) same generation;
        },
        subst (λ (k : ℕ). b.index < k) settled.count counted,
      )

  same_id : (a b : TaskId) → a.connector ≡ b.connector → a.index ≡ b.index → a ≡ b
  same_id a b connector index = λ k. record { connector = connector k; index = index k }

  -- they share no part
  shares_none : (n : ℕ) → n ≢ i → (a b : TaskId) → IsUnfenced t i a → IsUnfenced t n b → a.connector ≡ b.connector →
      ShareNone (parts_of (instance_of i t)) (parts_of (instance_of n t))
  shares_none n ne a b u v same =
      let w : IsUnfenced s n b = other_unfenced n ne b v in
      let settled : IsSettled a = of_task a u.last.is_task in
      let other = other_settled n ne a b settled w same in
      let mine : spec_in s.configs a ≡ (instance_of i s).task = f.producers.task i a (newest a u.last.is_task) in
      let its : spec_in s.configs (task_at a.connector b.index) ≡ (instance_of n s).task =
      ap (λ (x : List ℕ). spec_in s.configs (task_at x b.index)) same ∙ f.producers.task n b other.0 in
      let differ : a.index ≢ b.index = λ equal. f.producers.apart_epochs i n a (last_epoch (producer.Task a) s)
      (λ e. ne (sym e)) (own_writes a (last_epoch (producer.Task a) s) u.last)
      (subst (λ (x : TaskId). Writes s n x (last_epoch (producer.Task x) s)) (sym (same_id a b same equal)) w.last) in
      let apart : ShareNone (spec_parts (spec_in s.configs a))
      (spec_parts (spec_in s.configs (task_at a.connector b.index))) =
      specs-apart s.configs a.connector a.index b.index f.logs.configs.allowed differ settled.counted other.1 in
      rw (reads, others n ne) (subst (λ (o : Option TaskSpec). ShareNone (spec_parts o)
      (parts_of (instance_of n s))) mine
      (subst (λ (o : Option TaskSpec). ShareNone (spec_parts (spec_in s.configs a)) (spec_parts o)) its apart))

  pairs : (n : ℕ) → n ≢ i → PairFacts t i n × PairFacts t n i
  pairs n ne = (
    record {
      apart = λ a b u v same. shares_none n ne a b u v same;
      epochs = λ id epoch u v. f.producers.apart_epochs n i id epoch ne (other_writes n ne id epoch v)
          (own_writes id epoch u);
    },
    record {
      apart = λ a b u v same part x y. shares_none n ne b a v u (sym same) part y x;
      epochs = λ id epoch u v. f.producers.apart_epochs n i id epoch ne (other_writes n ne id epoch u)
          (own_writes id epoch v);
    },
  )

  pub verify-done : AreFacts setting t
  verify-done = change-keeps setting i (in_phase phase.Verified) s
      record {
        worker = refl;
        item = refl;
        ended = λ over. let lasts : is_ended (instance_of i s).phase
            ≡ false = rw may refl in absurd (cc);
      }
      (sound (each-at (IsSoundInstance s) s.instances i no_instance within f.rows.instances)) own pairs f

pub verify-keeps : (setting : Setting) (i : ℕ) (s : Cluster) → MayVerify i s → AreFacts setting s →
    AreFacts setting (verify i s).1
verify-keeps setting i s may f = instance-keeps (AreFacts setting) i s _ f (λ lives.
    if-keeps (AreFacts setting) (is_stale (instance_of i s) s) _ _ (λ stale. f) (λ not_stale.
    if-keeps (AreFacts setting) (is_pending (task_id_of (instance_of i s).item).connector s.configs) _ _ (λ pending. f)
    (λ settled.
    verify-done setting i s may (lives-within i s lives) f
    (fresh s.configs (task_id_of (instance_of i s).item) (instance_of i s).generation
    ((instance_of i s).generation == unwrap_or (generation_of
    (task_id_of (instance_of i s).item).connector s.configs) 0) refl not_stale) settled)))
