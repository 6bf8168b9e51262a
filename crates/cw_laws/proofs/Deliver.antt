-- A sink's task that hands out records keeps all facts.
use Rattle.std.proofs.Common.{Some, zero, suc, slice_get, slice_index, ◌≡◌, ℕ, ◌<◌, [], ◌∷◌, Bool, true, false, List, length, refl, subst, arith}
use Rattle.cw_types.specs.declared.ids.Item.{Item}
use Rattle.cw_types.specs.declared.ids.Item.TheVariants.{Connector, Task}
use Rattle.cw_config.specs.declared.records.ConfigRecord.{ConfigRecord}
use Rattle.cw_model.specs.declared.instance.Instance.{Instance}
use Rattle.cw_model.specs.declared.instance.InstancePhase.{InstancePhase}
use Rattle.cw_model.specs.declared.instance.InstancePhase.TheVariants as phase
use Rattle.cw_model.specs.State.{Setting, Cluster}
use Rattle.cw_model.specs.Lookups.{instance_of, no_instance}
use Rattle.cw_model.specs.Updates.{changes_instance}
use Rattle.cw_model.specs.Tasks.{parts_of, part_at, taking}
use Rattle.cw_model.specs.EventsSinks.{deliver, MayDeliver, sink_cut, topic_in}
use Rattle.cw_model.specs.declared.instance.Cut.{Cut}
use Rattle.cw_model.specs.Facts.{AreFacts}
use Rattle.cw_model.specs.FactsRows.{IsSoundInstance, IsOfItem}
use Rattle.cw_model.specs.Phases.{has_open_transaction, is_ended, is_working}
use Rattle.cw_model.specs.FactsProducers.{batches_up_to, commits_up_to}
use Rattle.cw_laws.proofs.Wrappers.{instance-keeps}
use Rattle.cw_laws.proofs.Lists.{each-at}
use Rattle.cw_laws.proofs.AtInstance.{InstanceFacts, facts_of_one, used-frame}
use Rattle.cw_laws.proofs.Changed.{change-keeps, reads-change, SameProducer, own_writes, own_unfenced, own_newest, pairs-follow}
use Rattle.cw_laws.proofs.Init.{lives-within}
use Rattle.cw_laws.proofs.Numbers.{stable-fits}

of_item-deliver : (records : List ConfigRecord) (item : Item) (cut : Cut) (j : Instance) → j.phase ≡ phase.Polling → IsOfItem records item j → IsOfItem records item (taking phase.Delivered cut j)
of_item-deliver records (Connector name) cut j may o = absurd (let works : is_working j.phase ≡ true = rw may refl in let idle : is_working j.phase ≡ false = o.idle in cc)
of_item-deliver records (Task id) cut j may o = record { phase = λ e. cc; task = o.task; generation = o.generation }

get-index : (xs : List ℕ) (i : ℕ) → i < length xs → slice_get xs i ≡ Some (slice_index xs i)
get-index [] i within = absurd (omega arith)
get-index (x ∷ xs) zero within = refl
get-index (x ∷ xs) (suc i) within = get-index xs i (omega arith)

module _ (setting : Setting) (i turn to : ℕ) (s : Cluster) (may : MayDeliver i turn to s) (within : i < length s.instances) (f : AreFacts setting s) where
  abbrev change : Instance → Instance
  change = taking phase.Delivered (sink_cut turn to (instance_of i s))

  abbrev t : Cluster
  t = changes_instance i change s

  reads : instance_of i t ≡ change (instance_of i s)
  reads = reads-change i change s within

  fails : (test : InstancePhase → Bool) → test phase.Delivered ≡ false → test (instance_of i t).phase ≡ true → ⊥
  fails test never passes = let is : test phase.Delivered ≡ true = subst (λ (k : Instance). test k.phase ≡ true) reads passes in cc

  same : SameProducer (instance_of i s) (change (instance_of i s))
  same = record { item = refl; epoch = refl; generation = refl; task = refl }

  sound : IsSoundInstance s (instance_of i s) → IsSoundInstance s (change (instance_of i s))
  sound h =
      let placed : length (instance_of i s).positions ≡ length (parts_of (instance_of i s)) = h.positions (rw may.polling refl) in
      let there : turn < length (instance_of i s).positions = omega (arith, placed, may.within) in
      record {
        at_worker = h.at_worker;
        named = h.named;
        of_item = of_item-deliver s.configs (instance_of i s).item (sink_cut turn to (instance_of i s)) (instance_of i s) may.polling h.of_item;
        generation = h.generation;
        source = λ e. absurd (cc);
        sink = λ e. may.sink;
        epoch = λ e. h.epoch (rw may.polling refl);
        positions = λ e. placed;
        cut = λ e. may.within;
        delivered = λ e. record { begins = get-index (instance_of i s).positions turn there; some = may.some; fits = omega (arith, may.settled, stable-fits setting s (topic_in (part_at turn (instance_of i s))) f.logs) };
        number = h.number;
      }

  own : InstanceFacts setting t i
  own =
      let old : InstanceFacts setting s i = facts_of_one setting s f.producers i in
      let unfenced = own_unfenced setting i change s within same (λ e. rw may.polling refl) in
      let writes = own_writes setting i change s within same (λ e. rw may.polling refl) in
      let newest = own_newest setting i change s within same (λ e. rw may.polling refl) in
      record {
        generation = λ id u. rw reads (old.generation id (unfenced id u));
        counted = λ id u. old.counted id (unfenced id u);
        positions = λ id u fetched. rw reads (old.positions id (unfenced id u) (rw may.polling refl));
        task = λ id u. rw reads (old.task id (newest id u));
        one_batch = λ id epoch u opened. absurd (fails has_open_transaction refl opened);
        fencing = λ w fencing id leads u equal older. old.fencing w fencing id (assumption leads) (unfenced id u) equal (subst (λ (k : Instance). k.generation < fencing.generation) reads older);
        not_ahead = λ id u. rw reads (old.not_ahead id (newest id u));
        known_epochs = λ id epoch u. old.known_epochs id epoch (writes id epoch u);
        numbers = λ id epoch u has. used-frame s t id epoch (batches_up_to (instance_of i s)) (commits_up_to (instance_of i s)) (batches_up_to (instance_of i t)) (commits_up_to (instance_of i t))
            (rw (reads, may.polling) refl) (rw (reads, may.polling) refl) (old.numbers id epoch (writes id epoch u) (rw may.polling refl));
      }

  pub deliver-done : AreFacts setting t
  deliver-done = change-keeps setting i change s
      record { worker = refl; item = refl; ended = λ over. let lasts : is_ended (instance_of i s).phase ≡ false = rw may.polling refl in absurd (cc) }
      (sound (each-at (IsSoundInstance s) s.instances i no_instance within f.rows.instances))
      own
      (pairs-follow setting i change s within same (λ e. rw may.polling refl) f.producers)
      f

pub deliver-keeps : (setting : Setting) (i turn to : ℕ) (s : Cluster) → MayDeliver i turn to s → AreFacts setting s → AreFacts setting (deliver i turn to s).1
deliver-keeps setting i turn to s may f = instance-keeps (AreFacts setting) i s _ f (λ lives. deliver-done setting i turn to s may (lives-within i s lives) f)
