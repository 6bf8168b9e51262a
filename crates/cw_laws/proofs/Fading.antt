-- What stays of the facts of instances where some of them fade: they end or fail, or are reported, and change in nothing else.
use Rattle.std.proofs.Common.{◌≡◌, ◌≢◌, ◌⊎◌, inl, inr, ℕ, Bool, true, false, List, Option, Some, length, refl, sym, subst, ap, ◌∙◌}
use Rattle.cw_types.specs.declared.ids.TaskId.{TaskId}
use Rattle.cw_types.specs.declared.ids.Tag.{Tag}
use Rattle.cw_types.specs.declared.ids.Epoch.{Epoch}
use Rattle.cw_data.specs.declared.entry.Batch.{Batch}
use Rattle.cw_io.specs.Shelf.{Files}
use Rattle.cw_model.specs.Committed.{batches_of}
use Rattle.cw_types.specs.declared.ids.Tid.TheVariants as producer
use Rattle.cw_keys.specs.declared.state.State.{State}
use Rattle.cw_model.specs.declared.row.Fencing.{Fencing}
use Rattle.cw_model.specs.declared.instance.Instance.{Instance}
use Rattle.cw_model.specs.declared.instance.Trace.{Trace}
use Rattle.cw_model.specs.declared.instance.InstancePhase.{InstancePhase}
use Rattle.cw_model.specs.declared.instance.InstancePhase.TheVariants as phase
use Rattle.cw_model.specs.State.{Setting, Cluster}
use Rattle.cw_model.specs.Lookups.{row_of, instance_of, last_epoch}
use Rattle.cw_laws.proofs.AtInstance.{InstanceFacts, PairFacts, facts_of_one, facts_of_two, facts_of_all, used-frame, its_batch-frame}
use Rattle.cw_model.specs.FactsProducers.{ProducerFacts, Writes, IsOfTask, IsUnfenced, IsNewest, IsFencing, HasItsBatch, batches_up_to, commits_up_to, tag_in_hand}
use Rattle.cw_model.specs.Phases.{is_ended, is_verified, is_fetched, has_epoch, has_open_transaction}

-- an instance in this phase, with these reports
abbrev pub faded : InstancePhase → Option ℕ → Option Trace → Option State → Instance → Instance
faded phase last trace reported i = record i { phase = phase; last = last; trace = trace; reported = reported }

-- whether an instance in it is over
abbrev pub is_over : InstancePhase → Bool
is_over phase.Connector = false
is_over phase.New = false
is_over phase.Inited = false
is_over phase.Verified = false
is_over phase.Polling = false
is_over phase.Produced = false
is_over phase.Offered = false
is_over phase.Delivered = false
is_over phase.Failed = true
is_over phase.Ended = true

pub record Fades (j k : Instance) : Type 0 where
  pub phase : InstancePhase
  pub last : Option ℕ
  pub trace : Option Trace
  pub reported : Option State
  pub is : k ≡ faded phase last trace reported j
  pub how : (phase ≡ j.phase) ⊎ (is_over phase ≡ true)
  pub ended : is_ended j.phase ≡ true → is_ended phase ≡ true

pub fades-same : (j : Instance) → Fades j j
fades-same j = record { phase = j.phase; last = j.last; trace = j.trace; reported = j.reported; is = refl; how = inl refl; ended = λ over. over }

-- a test that what is over fails was passed before
over-fails : (test : InstancePhase → Bool) → test phase.Failed ≡ false → test phase.Ended ≡ false → (p : InstancePhase) → is_over p ≡ true → test p ≡ false
over-fails test failed ended phase.Failed over = failed
over-fails test failed ended phase.Ended over = ended
over-fails test failed ended phase.Connector over = cc
over-fails test failed ended phase.New over = cc
over-fails test failed ended phase.Inited over = cc
over-fails test failed ended phase.Verified over = cc
over-fails test failed ended phase.Polling over = cc
over-fails test failed ended phase.Produced over = cc
over-fails test failed ended phase.Offered over = cc
over-fails test failed ended phase.Delivered over = cc

was-so : (test : InstancePhase → Bool) → test phase.Failed ≡ false → test phase.Ended ≡ false → (p q : InstancePhase) → (p ≡ q) ⊎ (is_over p ≡ true) →
    test p ≡ true → test q ≡ true
was-so test failed ended p q (inl same) passed = subst (λ x. test x ≡ true) same passed
was-so test failed ended p q (inr over) passed = let fails : test p ≡ false = over-fails test failed ended p over in cc

pub passed-before : (test : InstancePhase → Bool) → test phase.Failed ≡ false → test phase.Ended ≡ false → (j k : Instance) → Fades j k →
    test k.phase ≡ true → test j.phase ≡ true
passed-before test failed ended j k f passed = was-so test failed ended f.phase j.phase f.how (subst (λ i. test i.phase ≡ true) f.is passed)

phase-was : (p q r : InstancePhase) → is_over r ≡ false → (p ≡ q) ⊎ (is_over p ≡ true) → p ≡ r → q ≡ r
phase-was p q r lasts (inl same) is_r = cc
phase-was p q r lasts (inr over) is_r = let ends : is_over r ≡ true = subst (λ x. is_over x ≡ true) is_r over in cc

-- a phase that is not over was there before
pub phase-before : (r : InstancePhase) → is_over r ≡ false → (j k : Instance) → Fades j k → k.phase ≡ r → j.phase ≡ r
phase-before r lasts j k f is_r = phase-was f.phase j.phase r lasts f.how (subst (λ i. i.phase ≡ r) f.is is_r)

same-phase : (p q : InstancePhase) → (p ≡ q) ⊎ (is_over p ≡ true) → has_epoch p ≡ true → p ≡ q
same-phase p q (inl same) lasts = same
same-phase p q (inr over) lasts = let fails : has_epoch p ≡ false = over-fails has_epoch refl refl p over in absurd (cc)

-- an instance that has its epoch behind a fading counts its batches and commits as before
pub batches-fade : (j k : Instance) → Fades j k → has_epoch k.phase ≡ true → batches_up_to k ≡ batches_up_to j
batches-fade j k f has =
    let same : f.phase ≡ j.phase = same-phase f.phase j.phase f.how (subst (λ (i : Instance). has_epoch i.phase ≡ true) f.is has) in
    rw f.is (rw same refl)

pub commits-fade : (j k : Instance) → Fades j k → has_epoch k.phase ≡ true → commits_up_to k ≡ commits_up_to j
commits-fade j k f has =
    let same : f.phase ≡ j.phase = same-phase f.phase j.phase f.how (subst (λ (i : Instance). has_epoch i.phase ≡ true) f.is has) in
    rw f.is (rw same refl)

-- t has as many instances, and no row fences that did not
pub record Fencers (s t : Cluster) : Type 0 where
  pub count : length t.instances ≡ length s.instances
  pub fencing : (w : ℕ) (lead : Epoch) (fencing : Fencing) → (row_of w t).lead ≡ Some lead → (row_of w t).fencing ≡ Some fencing →
      ((row_of w s).lead ≡ Some lead) × ((row_of w s).fencing ≡ Some fencing)

abbrev pub logged : Cluster → Cluster → Cluster
logged s t = record t { configs = s.configs; entries = s.entries; batches = s.batches }

its_batch-fades : (feeds : Files) (batches : List Batch) (tag : Tag) (j k : Instance) → Fades j k → HasItsBatch feeds batches tag j → HasItsBatch feeds batches tag k
its_batch-fades feeds batches tag j k f h = rw f.is (its_batch-frame feeds batches tag j (faded f.phase f.last f.trace f.reported j) h)

-- an instance that fades
module _ (setting : Setting) (s t : Cluster) (all : Fencers s t) (n : ℕ) (a : Fades (instance_of n s) (instance_of n t)) where
  pub of_task-before : (id : TaskId) → IsOfTask (logged s t) n id → IsOfTask s n id
  of_task-before id o = record { within = rw (← all.count) o.within; item = rw (← ap (λ i. i.item) a.is) o.item }

  pub writes-before : (id : TaskId) (epoch : ℕ) → Writes (logged s t) n id epoch → Writes s n id epoch
  writes-before id epoch o = record { is_task = of_task-before id o.is_task; under = rw (← ap (λ i. i.epoch) a.is) o.under }

  before : (test : InstancePhase → Bool) → test phase.Failed ≡ false → test phase.Ended ≡ false → test (instance_of n t).phase ≡ true → test (instance_of n s).phase ≡ true
  before test failed ended = passed-before test failed ended (instance_of n s) (instance_of n t) a

  pub unfenced-before : (id : TaskId) → IsUnfenced (logged s t) n id → IsUnfenced s n id
  unfenced-before id o = record { verified = before is_verified refl refl o.verified; last = writes-before id (last_epoch (producer.Task id) s) o.last }

  newest-before : (id : TaskId) → IsNewest (logged s t) n id → IsNewest s n id
  newest-before id o = record { is_task = of_task-before id o.is_task; newest = rw (← ap (λ i. i.generation) a.is) o.newest }

  fencing-before : (w : ℕ) (fencing : Fencing) → IsFencing (logged s t) w fencing → IsFencing s w fencing
  fencing-before w fencing o =
      let was = all.fencing w (record { 0 = last_epoch producer.Lead s }) fencing o.leads o.keeps in
      record { leads = was.0; keeps = was.1 }

  pub one-fades : InstanceFacts setting s n → InstanceFacts setting (logged s t) n
  one-fades f = record {
    generation = λ id u. rw a.is (f.generation id (unfenced-before id u));
    counted = λ id u. f.counted id (unfenced-before id u);
    positions = λ id u fetched. rw a.is (f.positions id (unfenced-before id u) (before is_fetched refl refl fetched));
    task = λ id u. rw a.is (f.task id (newest-before id u));
    one_batch = λ id epoch u opened. its_batch-fades setting.feeds (batches_of s.batches) (tag_in_hand id epoch (instance_of n t)) (instance_of n s) (instance_of n t) a
        (rw a.is (f.one_batch id epoch (writes-before id epoch u) (before has_open_transaction refl refl opened)));
    fencing = λ w fencing id leads u same older. f.fencing w fencing id (fencing-before w fencing leads) (unfenced-before id u) same (rw (← ap (λ i. i.generation) a.is) older);
    not_ahead = λ id u. rw a.is (f.not_ahead id (newest-before id u));
    known_epochs = λ id epoch u. f.known_epochs id epoch (writes-before id epoch u);
    numbers = λ id epoch u has.
        used-frame s (logged s t) id epoch (batches_up_to (instance_of n s)) (commits_up_to (instance_of n s)) (batches_up_to (instance_of n t)) (commits_up_to (instance_of n t))
        (sym (batches-fade (instance_of n s) (instance_of n t) a has)) (sym (commits-fade (instance_of n s) (instance_of n t) a has))
        (f.numbers id epoch (writes-before id epoch u) (before has_epoch refl refl has));
  }

-- two that fade
pub two-fade : (setting : Setting) (s t : Cluster) → Fencers s t → (m n : ℕ) → Fades (instance_of m s) (instance_of m t) → Fades (instance_of n s) (instance_of n t) →
    PairFacts s m n → PairFacts (logged s t) m n
two-fade setting s t all m n a b f = record {
  apart = λ x y u v same. rw (a.is, b.is) (f.apart x y (unfenced-before setting s t all m a x u) (unfenced-before setting s t all n b y v) same);
  epochs = λ id epoch u v. f.epochs id epoch (writes-before setting s t all m a id epoch u) (writes-before setting s t all n b id epoch v);
}

pub producers-fade : (setting : Setting) (s t : Cluster) → Fencers s t → ((n : ℕ) → Fades (instance_of n s) (instance_of n t)) →
    ProducerFacts setting s → ProducerFacts setting (logged s t)
producers-fade setting s t all a f = facts_of_all setting (logged s t) (λ n. one-fades setting s t all n (a n) (facts_of_one setting s f n))
    (λ m n ne. two-fade setting s t all m n (a m) (a n) (facts_of_two setting s f m n ne))

-- one instance changes otherwise
pub producers-but-one : (setting : Setting) (s t : Cluster) → Fencers s t → (i : ℕ) → ((n : ℕ) → (n ≡ i) ⊎ Fades (instance_of n s) (instance_of n t)) →
    InstanceFacts setting (logged s t) i → ((n : ℕ) → n ≢ i → PairFacts (logged s t) i n × PairFacts (logged s t) n i) → ProducerFacts setting s → ProducerFacts setting (logged s t)
producers-but-one setting s t all i cases own pairs f = facts_of_all setting (logged s t)
    (λ n. elim (cases n) [
      | inl same ↦ subst (λ k. InstanceFacts setting (logged s t) k) (sym same) own
      | inr fades ↦ one-fades setting s t all n fades (facts_of_one setting s f n)
    ])
    (λ m n ne. elim (cases m) [
      | inl mi ↦ subst (λ k. PairFacts (logged s t) k n) (sym mi) (pairs n (λ ni. ne (mi ∙ sym ni))).0
      | inr mf ↦ elim (cases n) [
        | inl ni ↦ subst (λ k. PairFacts (logged s t) m k) (sym ni) (pairs m (λ mi. ne (mi ∙ sym ni))).1
        | inr nf ↦ two-fade setting s t all m n mf nf (facts_of_two setting s f m n ne)
      ]
    ])
