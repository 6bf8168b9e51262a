-- A verified task that fetches its positions keeps all facts.
use Rattle.std.proofs.Common.{◌≡◌, ℕ, ◌<◌, ◌≤◌, [], ◌∷◌, Bool, true, false, List, length, map, refl, subst, arith}
use Rattle.std.specs.List.{AllByRecursion, zip}
use Rattle.std.proofs.lemmas.List.{length-map}
use Rattle.cw_types.specs.declared.ids.Item.{Item}
use Rattle.cw_types.specs.declared.ids.Item.TheVariants.{Connector, Task}
use Rattle.cw_types.specs.declared.ids.PartKey.{PartKey}
use Rattle.cw_config.specs.declared.records.ConfigRecord.{ConfigRecord}
use Rattle.cw_model.specs.declared.instance.Instance.{Instance}
use Rattle.cw_model.specs.declared.instance.InstancePhase.{InstancePhase}
use Rattle.cw_model.specs.declared.instance.InstancePhase.TheVariants as phase
use Rattle.cw_model.specs.State.{Setting, Cluster}
use Rattle.cw_model.specs.Lookups.{instance_of, no_instance, end_or_start}
use Rattle.cw_model.specs.Updates.{changes_instance}
use Rattle.cw_model.specs.Tasks.{parts_of}
use Rattle.cw_model.specs.EventsSources.{fetch, MayFetch, at_positions}
use Rattle.cw_model.specs.Facts.{AreFacts}
use Rattle.cw_model.specs.FactsRows.{IsSoundInstance, IsOfItem}
use Rattle.cw_model.specs.Phases.{has_open_transaction, is_ended, is_working}
use Rattle.cw_model.specs.FactsProducers.{batches_up_to, commits_up_to}
use Rattle.cw_laws.proofs.Wrappers.{instance-keeps}
use Rattle.cw_laws.proofs.Lists.{each-at}
use Rattle.cw_laws.proofs.AtInstance.{InstanceFacts, facts_of_one, used-frame}
use Rattle.cw_laws.proofs.Changed.{change-keeps, reads-change, SameProducer, own_writes, own_unfenced, own_newest, pairs-follow}
use Rattle.cw_laws.proofs.Init.{lives-within}

of_item-fetch : (records : List ConfigRecord) (item : Item) (positions : List ℕ) (j : Instance) → j.phase ≡ phase.Verified → IsOfItem records item j → IsOfItem records item (at_positions positions j)
of_item-fetch records (Connector name) positions j may o = absurd (let works : is_working j.phase ≡ true = rw may refl in let idle : is_working j.phase ≡ false = o.idle in cc)
of_item-fetch records (Task id) positions j may o = record { phase = λ e. cc; task = o.task; generation = o.generation }

zip-at-most : (e : PartKey → ℕ) (parts : List PartKey) → AllByRecursion (λ (p : PartKey × ℕ). p.1 ≤ e p.0) (zip parts (map e parts))
zip-at-most e [] = tt
zip-at-most e (part ∷ parts) = (omega arith, zip-at-most e parts)

module _ (setting : Setting) (i : ℕ) (s : Cluster) (may : MayFetch i s) (within : i < length s.instances) (f : AreFacts setting s) where
  abbrev ends : List ℕ
  ends = map (λ part. end_or_start part s.entries) (parts_of (instance_of i s))

  abbrev t : Cluster
  t = changes_instance i (at_positions ends) s

  reads : instance_of i t ≡ at_positions ends (instance_of i s)
  reads = reads-change i (at_positions ends) s within

  fails : (test : InstancePhase → Bool) → test phase.Polling ≡ false → test (instance_of i t).phase ≡ true → ⊥
  fails test never passes = let is : test phase.Polling ≡ true = subst (λ (k : Instance). test k.phase ≡ true) reads passes in cc

  same : SameProducer (instance_of i s) (at_positions ends (instance_of i s))
  same = record { item = refl; epoch = refl; generation = refl; task = refl }

  sound : IsSoundInstance s (instance_of i s) → IsSoundInstance s (at_positions ends (instance_of i s))
  sound h = record {
    at_worker = h.at_worker;
    named = h.named;
    of_item = of_item-fetch s.configs (instance_of i s).item ends (instance_of i s) may h.of_item;
    generation = h.generation;
    source = λ e. absurd (cc);
    sink = λ e. absurd (cc);
    epoch = λ e. h.epoch (rw may refl);
    positions = λ e. length-map (parts_of (instance_of i s)) (λ part. end_or_start part s.entries);
    cut = λ e. absurd (cc);
    delivered = λ e. absurd (cc);
    number = omega arith;
  }

  own : InstanceFacts setting t i
  own =
      let old : InstanceFacts setting s i = facts_of_one setting s f.producers i in
      let unfenced = own_unfenced setting i (at_positions ends) s within same (λ e. rw may refl) in
      let writes = own_writes setting i (at_positions ends) s within same (λ e. rw may refl) in
      let newest = own_newest setting i (at_positions ends) s within same (λ e. rw may refl) in
      record {
        generation = λ id u. rw reads (old.generation id (unfenced id u));
        counted = λ id u. old.counted id (unfenced id u);
        positions = λ id u fetched. rw reads refl;
        task = λ id u. rw reads (old.task id (newest id u));
        one_batch = λ id epoch u opened. absurd (fails has_open_transaction refl opened);
        fencing = λ w fencing id leads u equal older. old.fencing w fencing id (assumption leads) (unfenced id u) equal (subst (λ (k : Instance). k.generation < fencing.generation) reads older);
        not_ahead = λ id u. rw reads (zip-at-most (λ part. end_or_start part s.entries) (parts_of (instance_of i s)));
        known_epochs = λ id epoch u. old.known_epochs id epoch (writes id epoch u);
        numbers = λ id epoch u has. used-frame s t id epoch (batches_up_to (instance_of i s)) (commits_up_to (instance_of i s)) (batches_up_to (instance_of i t)) (commits_up_to (instance_of i t))
            (rw (reads, may) refl) (rw (reads, may) refl) (old.numbers id epoch (writes id epoch u) (rw may refl));
      }

  pub fetch-done : AreFacts setting t
  fetch-done = change-keeps setting i (at_positions ends) s
      record { worker = refl; item = refl; ended = λ over. let lasts : is_ended (instance_of i s).phase ≡ false = rw may refl in absurd (cc) }
      (sound (each-at (IsSoundInstance s) s.instances i no_instance within f.rows.instances))
      own
      (pairs-follow setting i (at_positions ends) s within same (λ e. rw may refl) f.producers)
      f

pub fetch-keeps : (setting : Setting) (i : ℕ) (s : Cluster) → MayFetch i s → AreFacts setting s → AreFacts setting (fetch i s).1
fetch-keeps setting i s may f = instance-keeps (AreFacts setting) i s _ f (λ lives. fetch-done setting i s may (lives-within i s lives) f)
