-- One instance changes in a state of which the facts of all others are known.
use Rattle.std.proofs.Common.{◌≢◌, inl, inr, ℕ, sym, subst}
use Rattle.std.proofs.Math.ListN.{length-set}
use Rattle.cw_model.specs.declared.instance.Instance.{Instance}
use Rattle.cw_model.specs.State.{Setting, Cluster}
use Rattle.cw_model.specs.Lookups.{instance_of, no_instance}
use Rattle.cw_model.specs.Updates.{changes_instance}
use Rattle.cw_model.specs.FactsProducers.{ProducerFacts}
use Rattle.cw_laws.proofs.Lists.{set-cases}
use Rattle.cw_laws.proofs.Fading.{Fades, fades-same, Fencers, one-fades, two-fade}
use Rattle.cw_laws.proofs.AtInstance.{InstanceFacts, PairFacts}
use Rattle.cw_laws.proofs.DataPush.{facts_but_one}

module _ (setting : Setting) (i : ℕ) (change : Instance → Instance) (s : Cluster) where
  abbrev t : Cluster
  t = changes_instance i change s

  fades : (n : ℕ) → n ≢ i → Fades (instance_of n s) (instance_of n t)
  fades n ne = elim (set-cases s.instances i (change (instance_of i s)) no_instance n) [
    | inl same ↦ absurd (ne same)
    | inr other ↦ subst (λ k. Fades (instance_of n s) k) (sym other) (fades-same (instance_of n s))
  ]

  fencers : Fencers s t
  fencers = record { count = length-set s.instances i (change (instance_of i s)); fencing = λ w lead fencing a b. (a, b) }

  pub producers-moved : InstanceFacts setting t i → ((n : ℕ) → n ≢ i → InstanceFacts setting s n) → ((m n : ℕ) → m ≢ n → PairFacts s m n) →
      ((n : ℕ) → n ≢ i → PairFacts t i n × PairFacts t n i) → ProducerFacts setting t
  producers-moved own others two mixed = facts_but_one setting t i own
      (λ n ne. one-fades setting s t fencers n (fades n ne) (others n ne))
      mixed
      (λ m n ne m_other n_other. two-fade setting s t fencers m n (fades m m_other) (fades n n_other) (two m n ne))
