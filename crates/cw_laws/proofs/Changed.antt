-- One instance changes: all facts stay where those of that instance hold behind the change.
use Rattle.std.proofs.Common.{◌≡◌, ◌≢◌, ◌⊎◌, inl, inr, ℕ, ◌<◌, true, [], Some, length, ◌∙◌, sym, subst, ap, get_or-set_same}
use Rattle.std.specs.Option.{option_map_or}
use Rattle.cw_types.specs.declared.ids.TaskId.{TaskId}
use Rattle.cw_types.specs.declared.ids.Item.TheVariants.{Task}
use Rattle.cw_types.specs.declared.ids.Tid.TheVariants as producer
use Rattle.cw_config.specs.View.{generation_of}
use Rattle.cw_plugin.specs.declared.task.TaskSpec.{TaskSpec}
use Rattle.cw_model.specs.Tasks.{parts_of}
use Rattle.cw_model.specs.FactsProducers.{ProducerFacts, Writes, IsUnfenced, IsNewest}
use Rattle.std.proofs.Math.ListN.{length-set}
use Rattle.cw_model.specs.declared.instance.Instance.{Instance}
use Rattle.cw_model.specs.State.{Setting, Cluster}
use Rattle.cw_model.specs.Lookups.{instance_of, no_instance, last_epoch}
use Rattle.cw_model.specs.Updates.{changes_instance}
use Rattle.cw_model.specs.Facts.{AreFacts}
use Rattle.cw_model.specs.FactsRows.{IsSoundInstance}
use Rattle.cw_model.specs.Phases.{is_verified}
use Rattle.cw_laws.proofs.Lists.{set-cases}
use Rattle.cw_laws.proofs.Others.{all_facts, other_facts, others-moved}
use Rattle.cw_laws.proofs.AtInstance.{InstanceFacts, PairFacts, facts_of_two}
use Rattle.cw_laws.proofs.Fading.{Fades, fades-same, Fencers, producers-but-one}
use Rattle.cw_laws.proofs.Held.{StaysHeld}

pub reads-change : (i : ℕ) (change : Instance → Instance) (s : Cluster) → i < length s.instances → instance_of i (changes_instance i change s) ≡ change (instance_of i s)
reads-change i change s within = get_or-set_same s.instances i (change (instance_of i s)) no_instance within

module _ (setting : Setting) (i : ℕ) (change : Instance → Instance) (s : Cluster) where
  abbrev t : Cluster
  t = changes_instance i change s

  cases : (n : ℕ) → (n ≡ i) ⊎ Fades (instance_of n s) (instance_of n t)
  cases n = elim (set-cases s.instances i (change (instance_of i s)) no_instance n) [
    | inl same ↦ inl same
    | inr other ↦ inr (subst (λ k. Fades (instance_of n s) k) (sym other) (fades-same (instance_of n s)))
  ]

  pub change-keeps : StaysHeld (instance_of i s) (change (instance_of i s)) → IsSoundInstance s (change (instance_of i s)) →
      InstanceFacts setting t i → ((n : ℕ) → n ≢ i → PairFacts t i n × PairFacts t n i) → AreFacts setting s → AreFacts setting t
  change-keeps held sound own pairs f =
      let fencers : Fencers s t = record { count = length-set s.instances i (change (instance_of i s)); fencing = λ w lead fencing a b. (a, b) } in
      all_facts setting t (others-moved setting i change s held sound (other_facts setting s f)) (producers-but-one setting s t fencers i cases own pairs f.producers)

-- an instance is the producer that it was
pub record SameProducer (j k : Instance) : Type 0 where
  pub item : k.item ≡ j.item
  pub epoch : k.epoch ≡ j.epoch
  pub generation : k.generation ≡ j.generation
  pub task : k.task ≡ j.task

-- an instance that goes on as the producer that it was, and might write before where it may now
module _ (setting : Setting) (i : ℕ) (change : Instance → Instance) (s : Cluster) (within : i < length s.instances)
    (same : SameProducer (instance_of i s) (change (instance_of i s)))
    (verified : is_verified (change (instance_of i s)).phase ≡ true → is_verified (instance_of i s).phase ≡ true) where
  abbrev u : Cluster
  u = changes_instance i change s

  reads : instance_of i u ≡ change (instance_of i s)
  reads = reads-change i change s within

  size : length u.instances ≡ length s.instances
  size = length-set s.instances i (change (instance_of i s))

  pub own_writes : (id : TaskId) (epoch : ℕ) → Writes u i id epoch → Writes s i id epoch
  own_writes id epoch o = record {
    is_task = record { within = within; item = sym same.item ∙ subst (λ (k : Instance). k.item ≡ Task id) reads o.is_task.item };
    under = sym same.epoch ∙ subst (λ (k : Instance). k.epoch ≡ Some (record { 0 = epoch })) reads o.under;
  }

  pub own_unfenced : (id : TaskId) → IsUnfenced u i id → IsUnfenced s i id
  own_unfenced id o = record {
    verified = verified (subst (λ (k : Instance). is_verified k.phase ≡ true) reads o.verified);
    last = own_writes id (last_epoch (producer.Task id) s) o.last;
  }

  pub own_newest : (id : TaskId) → IsNewest u i id → IsNewest s i id
  own_newest id o = record {
    is_task = record { within = within; item = sym same.item ∙ subst (λ (k : Instance). k.item ≡ Task id) reads o.is_task.item };
    newest = subst (λ (k : Instance). generation_of id.connector s.configs ≡ Some k.generation) reads o.newest ∙ ap (λ n. Some n) same.generation;
  }

  others : (n : ℕ) → n ≢ i → instance_of n u ≡ instance_of n s
  others n ne = elim (set-cases s.instances i (change (instance_of i s)) no_instance n) [ inl equal ↦ absurd (ne equal) | inr other ↦ other ]

  other_writes : (n : ℕ) → n ≢ i → (id : TaskId) (epoch : ℕ) → Writes u n id epoch → Writes s n id epoch
  other_writes n ne id epoch v = record {
    is_task = record { within = rw (← size) v.is_task.within; item = subst (λ (k : Instance). k.item ≡ Task id) (others n ne) v.is_task.item };
    under = subst (λ (k : Instance). k.epoch ≡ Some (record { 0 = epoch })) (others n ne) v.under;
  }

  other_unfenced : (n : ℕ) → n ≢ i → (id : TaskId) → IsUnfenced u n id → IsUnfenced s n id
  other_unfenced n ne id o = record {
    verified = subst (λ (k : Instance). is_verified k.phase ≡ true) (others n ne) o.verified;
    last = other_writes n ne id (last_epoch (producer.Task id) s) o.last;
  }

  own_parts : parts_of (instance_of i u) ≡ parts_of (instance_of i s)
  own_parts = ap parts_of reads ∙ ap (λ task. option_map_or (λ (t : TaskSpec). t.parts) task []) same.task

  -- its facts with another
  pub pairs-stay : ((m n : ℕ) → m ≢ n → PairFacts s m n) → (n : ℕ) → n ≢ i → PairFacts u i n × PairFacts u n i
  pairs-stay two n ne = (
    record {
      apart = λ a b x y equal. rw (own_parts, others n ne) ((two i n (λ e. ne (sym e))).apart a b (own_unfenced a x) (other_unfenced n ne b y) equal);
      epochs = λ id epoch x y. (two n i ne).epochs id epoch (other_writes n ne id epoch y) (own_writes id epoch x);
    },
    record {
      apart = λ a b x y equal. rw (own_parts, others n ne) ((two n i ne).apart a b (other_unfenced n ne a x) (own_unfenced b y) equal);
      epochs = λ id epoch x y. (two n i ne).epochs id epoch (other_writes n ne id epoch x) (own_writes id epoch y);
    },
  )

  pub pairs-follow : ProducerFacts setting s → (n : ℕ) → n ≢ i → PairFacts u i n × PairFacts u n i
  pairs-follow f = pairs-stay (facts_of_two setting s f)
