-- A new task that bumps its producer's epoch keeps all facts.
use Rattle.std.proofs.Common.{◌≡◌, ◌≢◌, inl, inr, ℕ, ◌+◌, ◌<◌, ◌≤◌, ◌∷◌, [], Bool, true, false, List, Some, length, cond, refl, sym, subst, ap, arith}
use Rattle.std.proofs.Math.ListN.{length-set}
use Rattle.cw_types.specs.declared.ids.Item.{Item}
use Rattle.cw_types.specs.declared.ids.Item.TheVariants.{Connector, Task}
use Rattle.cw_types.specs.declared.ids.Tid.{Tid}
use Rattle.cw_types.specs.declared.ids.Tid.TheVariants as producer
use Rattle.cw_types.specs.declared.ids.Tag.{Tag}
use Rattle.cw_types.specs.declared.ids.TaskId.{TaskId}
use Rattle.cw_types.specs.declared.ids.Epoch.{Epoch}
use Rattle.cw_bytes.specs.Spelling.{IsTid}
use Rattle.cw_keys.specs.Statuses.{IsItem}
use Rattle.cw_types.specs.Same.{same_tid}
use Rattle.cw_types.proofs.SameLemmas.{same_tid-Decides}
use Rattle.cw_config.specs.View.{generation_of}
use Rattle.cw_config.specs.declared.records.ConfigRecord.{ConfigRecord}
use Rattle.cw_txn.specs.declared.entry.Entry.TheVariants.{Bump}
use Rattle.cw_txn.proofs.Walks.{epoch_of-push}
use Rattle.cw_offset.specs.Acceptance.{IsKnown}
use Rattle.cw_model.specs.declared.instance.Instance.{Instance}
use Rattle.cw_model.specs.declared.instance.InstancePhase.{InstancePhase}
use Rattle.cw_model.specs.declared.instance.InstancePhase.TheVariants as phase
use Rattle.cw_model.specs.State.{Setting, Cluster}
use Rattle.cw_model.specs.Lookups.{instance_of, no_instance, last_epoch}
use Rattle.cw_model.specs.Updates.{with_entries, fits_entries, changes_instance, next_epoch, tid_of, epoch_in}
use Rattle.cw_model.specs.EventsSources.{init, MayInit, with_epoch}
use Rattle.cw_model.specs.Facts.{AreFacts}
use Rattle.cw_model.specs.FactsRows.{IsSoundInstance, IsOfItem}
use Rattle.cw_model.specs.FactsProducers.{Writes, IsNewest, IsBelow, batch_tags, commit_tags}
use Rattle.cw_model.specs.Phases.{has_open_transaction, is_ended, is_verified, is_working}
use Rattle.cw_laws.proofs.Wrappers.{instance-keeps, entries-keeps}
use Rattle.cw_laws.proofs.Lists.{each-at, each-weaker, set-cases, read-cases}
use Rattle.cw_laws.proofs.AtInstance.{InstanceFacts, facts_of_one}
use Rattle.cw_laws.proofs.Changed.{change-keeps, reads-change}
use Rattle.cw_laws.proofs.KnownTags.{batch_tags-known, commit_tags-known}
use Rattle.cw_laws.proofs.Bump.{bump-keeps, commit_tags-bump}

-- an instance that hasn't ended is there
pub lives-within : (i : ℕ) (s : Cluster) → is_ended (instance_of i s).phase ≡ false → i < length s.instances
lives-within i s lives = elim (read-cases s.instances i no_instance) [
  | inl within ↦ within
  | inr none ↦ absurd (let over : true ≡ false = subst (λ (k : Instance). is_ended k.phase ≡ false) none lives in cc)
]

of_item-init : (records : List ConfigRecord) (item : Item) (epoch : Epoch) (j : Instance) → j.phase ≡ phase.New → IsOfItem records item j → IsOfItem records item (with_epoch epoch j)
of_item-init records (Connector name) epoch j new o = absurd (let works : is_working j.phase ≡ true = rw new refl in let idle : is_working j.phase ≡ false = o.idle in cc)
of_item-init records (Task id) epoch j new o = record { phase = λ e. cc; task = o.task; generation = o.generation }

sound-init : (s : Cluster) (epoch : Epoch) (j : Instance) → j.phase ≡ phase.New → IsSoundInstance s j → IsSoundInstance s (with_epoch epoch j)
sound-init s epoch j new f = record {
  at_worker = f.at_worker;
  named = f.named;
  of_item = of_item-init s.configs j.item epoch j new f.of_item;
  generation = f.generation;
  source = λ e. absurd (cc);
  sink = λ e. absurd (cc);
  epoch = λ e. refl;
  positions = λ e. absurd (cc);
  cut = λ e. absurd (cc);
  delivered = λ e. absurd (cc);
  number = f.number;
}

-- the last epoch of a producer behind its bump
pub last-bumped : (tid : Tid) (s : Cluster) → last_epoch tid (with_entries (Bump tid ∷ []) s) ≡ last_epoch tid s + 1
last-bumped tid s =
    let same : same_tid tid tid ≡ true = (same_tid-Decides tid tid).1 refl in
    let push : last_epoch tid (with_entries (Bump tid ∷ []) s) ≡ last_epoch tid s + cond (same_tid tid tid) 1 0 = epoch_of-push tid s.entries (Bump tid) in
    rw same at push

-- an item with a name that a status can tell is of a producer that an entry can
item-tid : (item : Item) → IsItem item → IsTid (tid_of item)
item-tid (Connector name) named = (named, omega arith)
item-tid (Task id) named = named

module _ (setting : Setting) (i : ℕ) (s : Cluster) (may : MayInit i s) (within : i < length s.instances) (room : fits_entries (Bump (tid_of (instance_of i s).item) ∷ []) s ≡ true)
    (f : AreFacts setting s) where
  abbrev tid : Tid
  tid = tid_of (instance_of i s).item

  abbrev change : Instance → Instance
  change = with_epoch (next_epoch tid s)

  abbrev bumped : Cluster
  bumped = with_entries (Bump tid ∷ []) s

  abbrev t : Cluster
  t = changes_instance i change bumped

  g : AreFacts setting bumped
  g =
      let was : IsSoundInstance s (instance_of i s) = each-at (IsSoundInstance s) s.instances i no_instance within f.rows.instances in
      bump-keeps setting tid s (item-tid (instance_of i s).item was.named) room f

  reads : instance_of i t ≡ change (instance_of i s)
  reads = reads-change i change bumped within

  size : length t.instances ≡ length s.instances
  size = length-set s.instances i (change (instance_of i s))

  fails : (test : InstancePhase → Bool) → test phase.Inited ≡ false → test (instance_of i t).phase ≡ true → ⊥
  fails test never passes = let is : test phase.Inited ≡ true = subst (λ (k : Instance). test k.phase ≡ true) reads passes in cc

  newest-before : (id : TaskId) → IsNewest t i id → IsNewest bumped i id
  newest-before id o = record {
    is_task = record { within = within; item = subst (λ (k : Instance). k.item ≡ Task id) reads o.is_task.item };
    newest = subst (λ (k : Instance). generation_of id.connector s.configs ≡ Some k.generation) reads o.newest;
  }

  -- what it writes under is the next epoch of its task
  new-epoch : (id : TaskId) (epoch : ℕ) → Writes t i id epoch → (epoch ≡ last_epoch (producer.Task id) s + 1) × (last_epoch (producer.Task id) t ≡ last_epoch (producer.Task id) s + 1)
  new-epoch id epoch o =
      let own : tid ≡ producer.Task id = ap tid_of (subst (λ (k : Instance). k.item ≡ Task id) reads o.is_task.item) in
      let under : last_epoch tid s + 1 ≡ epoch = ap epoch_in (subst (λ (k : Instance). k.epoch ≡ Some (record { 0 = epoch })) reads o.under) in
      let last : last_epoch tid bumped ≡ last_epoch tid s + 1 = last-bumped tid s in
      subst (λ (id' : Tid). (epoch ≡ last_epoch id' s + 1) × (last_epoch id' t ≡ last_epoch id' s + 1)) own (sym under, last)

  below : (id : TaskId) (epoch : ℕ) → epoch ≡ last_epoch (producer.Task id) s + 1 → (tag : Tag) → IsKnown s.entries tag → IsBelow id epoch 0 tag
  below id epoch new tag known same equal =
      let tids : producer.Task id ≡ tag.tid = (same_tid-Decides (producer.Task id) tag.tid).0 same in
      let known' : tag.epoch.0 ≤ last_epoch (producer.Task id) s = subst (λ (tid : Tid). tag.epoch.0 ≤ last_epoch tid s) (sym tids) known in
      absurd (omega (arith, known', new, equal))

  own : InstanceFacts setting t i
  own =
      let old : InstanceFacts setting bumped i = facts_of_one setting bumped g.producers i in
      record {
        generation = λ id u. absurd (fails is_verified refl u.verified);
        counted = λ id u. absurd (fails is_verified refl u.verified);
        positions = λ id u fetched. absurd (fails is_verified refl u.verified);
        task = λ id u. rw reads (old.task id (newest-before id u));
        one_batch = λ id epoch u opened. absurd (fails has_open_transaction refl opened);
        fencing = λ w fencing id leads u same older. absurd (fails is_verified refl u.verified);
        not_ahead = λ id u. rw reads (old.not_ahead id (newest-before id u));
        known_epochs = λ id epoch u. omega (arith, (new-epoch id epoch u).0, (new-epoch id epoch u).1);
        numbers = λ id epoch u has. rw reads record {
          batches = each-weaker (IsKnown s.entries) (IsBelow id epoch 0) (batch_tags s) (below id epoch (new-epoch id epoch u).0) (batch_tags-known setting s f.logs);
          commits = rw (commit_tags-bump tid s.entries) (each-weaker (IsKnown s.entries) (IsBelow id epoch 0) (commit_tags s) (below id epoch (new-epoch id epoch u).0)
              (commit_tags-known s f.safe.backed.legal));
        };
      }

  other-epoch : (n : ℕ) → n ≢ i → (id : TaskId) (epoch : ℕ) → Writes t i id epoch → Writes t n id epoch → ⊥
  other-epoch n ne id epoch u v =
      let other : instance_of n t ≡ instance_of n s = elim (set-cases s.instances i (change (instance_of i s)) no_instance n) [ inl same ↦ absurd (ne same) | inr other ↦ other ] in
      let wrote : Writes s n id epoch = record {
        is_task = record { within = rw (← size) v.is_task.within; item = subst (λ (k : Instance). k.item ≡ Task id) other v.is_task.item };
        under = subst (λ (k : Instance). k.epoch ≡ Some (record { 0 = epoch })) other v.under;
      } in
      omega (arith, f.producers.known_epochs n id epoch wrote, (new-epoch id epoch u).0)

  pub init-done : AreFacts setting t
  init-done = change-keeps setting i change bumped
      record { worker = refl; item = refl; ended = λ over. let lasts : is_ended (instance_of i s).phase ≡ false = rw may refl in absurd (cc) }
      (sound-init bumped (next_epoch tid s) (instance_of i s) may (each-at (IsSoundInstance bumped) s.instances i no_instance within g.rows.instances))
      own
      (λ n ne. (
        record { apart = λ a b u v same. absurd (fails is_verified refl u.verified); epochs = λ id epoch u v. other-epoch n ne id epoch u v },
        record { apart = λ a b u v same. absurd (fails is_verified refl v.verified); epochs = λ id epoch u v. other-epoch n ne id epoch v u },
      ))
      g

pub init-keeps : (setting : Setting) (i : ℕ) (s : Cluster) → MayInit i s → AreFacts setting s → AreFacts setting (init i s).1
init-keeps setting i s may f = instance-keeps (AreFacts setting) i s _ f (λ lives.
    entries-keeps (AreFacts setting) s (Bump (tid_of (instance_of i s).item) ∷ []) _ _ f (λ room. init-done setting i s may (lives-within i s lives) room f))
