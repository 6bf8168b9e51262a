-- One entry more in the transaction list: what the entry must be so that all facts but those of producers stay, and what stays of those.
use Rattle.std.proofs.Common.{◌≡◌, ℕ, ◌≤◌, ◌++◌, ◌∷◌, [], true, List, Some, length, map, sym, ap, ◌∙◌, subst, arith, length-append, append-nil}
use Rattle.std.specs.List.{AllByRecursion, zip}
use Rattle.std.proofs.lemmas.List.Concat.{flat_map-append}
use Rattle.cw_types.specs.declared.ids.Tid.{Tid}
use Rattle.cw_types.specs.declared.ids.Tid.TheVariants as producer
use Rattle.cw_types.specs.declared.ids.TaskId.{TaskId}
use Rattle.cw_types.specs.declared.ids.PartKey.{PartKey}
use Rattle.cw_feed.specs.Feeds.{IsOfSource}
use Rattle.cw_txn.specs.declared.entry.Entry.{Entry}
use Rattle.cw_txn.specs.declared.entry.Entry.TheVariants.{Bump, Commit, Set}
use Rattle.cw_txn.specs.Allowed.{IsAllowedBehind, AreAllowed}
use Rattle.cw_txn.specs.Body.{AreEntries}
use Rattle.cw_txn.specs.Legal.{epoch_of, ChainsBehind, IsLegalBehind}
use Rattle.cw_txn.proofs.Walks.{Each-push}
use Rattle.cw_bytes.specs.Frames.{EachFrom, joined}
use Rattle.cw_offset.specs.Acceptance.{IsAllowedStored}
use Rattle.cw_model.specs.declared.row.Fencing.{Fencing}
use Rattle.cw_model.specs.State.{Setting, Cluster}
use Rattle.cw_model.specs.Lookups.{row_of, instance_of, last_epoch, list_end, end_or_start}
use Rattle.cw_model.specs.Updates.{with_entries, fits_entries, epoch_in}
use Rattle.cw_model.specs.Tasks.{parts_of}
use Rattle.cw_model.specs.Phases.{is_fetched, has_epoch}
use Rattle.cw_model.specs.Fences.{StandingFence, IsNotOlder}
use Rattle.cw_model.specs.Allowed.{IsAllowedData}
use Rattle.cw_model.specs.Safe.{IsFenced, IsExact, IsBacked, HasBatches, YieldsCommitted}
use Rattle.cw_model.specs.FactsLogs.{LogFacts, TasksAgree}
use Rattle.cw_model.specs.FactsRows.{RowFacts, IsSoundRow, IsSoundInstance}
use Rattle.cw_model.specs.FactsProducers.{Writes, IsUnfenced, IsNewest, IsFencing, IsBelow, commit_tags, commits_up_to}
use Rattle.cw_laws.proofs.Lists.{each-push, each-weaker, each_from-weaker}
use Rattle.cw_laws.proofs.Frames.{exact-frame, backed-frame}
use Rattle.cw_laws.proofs.Rows.{same_member, group-stays}
use Rattle.cw_laws.proofs.Sound.{HasMore, sound_row-grows, sound_instance-grows}
use Rattle.cw_laws.proofs.Workers.{sound_at}
use Rattle.cw_laws.proofs.AtInstance.{InstanceFacts, PairFacts, writes-frame, newest-frame}
use Rattle.cw_laws.proofs.Disks.{entries-fit}
use Rattle.cw_laws.proofs.Grows.{grows-entries, journal-stays}
use Rattle.cw_laws.proofs.Others.{OtherFacts}
use Rattle.cw_laws.proofs.EntryPush.{epoch-push, offset-push, data-push, holds-push}

-- ---- an entry that may be written

abbrev pub behind : Entry → Cluster → Cluster
behind e s = with_entries (e ∷ []) s

-- a longer transaction list, however it stands in its log
abbrev pub listed : List Entry → Cluster → Cluster
listed frame s = record s { entries = s.entries ++ frame }

-- the facts that speak of the transaction list itself
pub record EntryFacts (setting : Setting) (s : Cluster) : Type 0 where
  pub fenced : IsFenced s
  pub exact : IsExact setting s
  pub backed : IsBacked s
  pub stamped : AllByRecursion (λ r. r.stamp ≤ list_end s.entries) s.configs
  pub entries : AreAllowed s.entries
  pub offsets : EachFrom (IsAllowedStored s.entries) [] s.offsets.frames
  pub batches : EachFrom (IsAllowedData s.entries) [] s.batches
  pub agree : setting.agreed ≡ true → TasksAgree setting.feeds s.entries s.batches

pub entry_facts : (setting : Setting) (s : Cluster) → OtherFacts setting s → EntryFacts setting s
entry_facts setting s f = record {
  fenced = f.safe.fenced;
  exact = f.safe.exact;
  backed = f.safe.backed;
  stamped = f.logs.configs.stamped;
  entries = f.logs.entries;
  offsets = f.logs.offsets;
  batches = f.logs.batches;
  agree = f.logs.agree;
}

-- what an entry must be so that these facts stay
pub record MayStand (setting : Setting) (s : Cluster) (e : Entry) : Type 0 where
  pub allowed : IsAllowedBehind s.entries e
  pub chains : (part : PartKey) → ChainsBehind part s.entries e
  pub backed : HasBatches s.batches e
  pub newer : (name : List ℕ) (generation mark : ℕ) → StandingFence s.configs name generation mark → IsNotOlder name generation e
  pub yields : setting.agreed ≡ true → (part : PartKey) → IsOfSource part → YieldsCommitted setting (listed (e ∷ []) s) part
  pub agree : setting.agreed ≡ true → TasksAgree setting.feeds (s.entries ++ e ∷ []) s.batches

legal_one : (before : List Entry) (entry : Entry) → IsAllowedBehind before entry → IsLegalBehind before entry
legal_one before (Bump tid) allowed = tt
legal_one before (Commit tag generation spans) allowed = allowed.legal
legal_one before (Set tid epoch list) allowed = allowed.legal

pub entry-behind : (setting : Setting) (e : Entry) (s : Cluster) → MayStand setting s e → EntryFacts setting s → EntryFacts setting (listed (e ∷ []) s)
entry-behind setting e s may f =
    let legal : IsLegalBehind s.entries e = legal_one s.entries e may.allowed in
    record {
      fenced = λ name generation mark stands. holds-push e name generation mark s.entries (may.newer name generation mark stands) (f.fenced name generation mark stands);
      exact = record { chains = λ part. Each-push (ChainsBehind part) s.entries e (f.exact.chains part) (may.chains part); yields = may.yields };
      backed = record {
        legal = Each-push IsLegalBehind s.entries e f.backed.legal legal;
        batches = each-push (HasBatches s.batches) s.entries e may.backed f.backed.batches;
      };
      stamped = each-weaker (λ r. r.stamp ≤ length s.entries) (λ r. r.stamp ≤ length (s.entries ++ e ∷ [])) s.configs
          (λ r below. omega (arith, below, length-append s.entries (e ∷ []))) f.stamped;
      entries = Each-push IsAllowedBehind s.entries e f.entries may.allowed;
      offsets = each_from-weaker (IsAllowedStored s.entries) (IsAllowedStored (s.entries ++ e ∷ [])) [] s.offsets.frames (offset-push s.entries e legal) f.offsets;
      batches = each_from-weaker (IsAllowedData s.entries) (IsAllowedData (s.entries ++ e ∷ [])) [] s.batches (data-push s.entries e legal) f.batches;
      agree = may.agree;
    }

-- ---- a frame that is written

module _ (setting : Setting) (frame : List Entry) (s : Cluster) (g : EntryFacts setting (listed frame s)) (written : AreEntries frame) (room : fits_entries frame s ≡ true)
    (lead : last_epoch producer.Lead s ≤ epoch_of producer.Lead (s.entries ++ frame)) where
  abbrev grown : Cluster
  grown = with_entries frame s

  logs-with : LogFacts setting s → LogFacts setting grown
  logs-with f = record {
    configs_read = f.configs_read;
    statuses_read = f.statuses_read;
    configs = record {
      allowed = f.configs.allowed;
      stamped = g.stamped;
      same = f.configs.same;
      among = f.configs.among;
      standing_allowed = f.configs.standing_allowed;
      fences = f.configs.fences;
    };
    statuses = f.statuses;
    entries = g.entries;
    all_entries = flat_map-append (λ l. l) s.txn (frame ∷ []) ∙ ap (λ l. joined s.txn ++ l) (append-nil frame) ∙ ap (λ l. l ++ frame) f.all_entries;
    offsets = g.offsets;
    batches = g.batches;
    agree = g.agree;
    short = f.short;
    disks = entries-fit frame s room f.disks;
    written = record {
      config = f.written.config;
      offsets = f.written.offsets;
      status = f.written.status;
      txn = each-push AreEntries s.txn frame written f.written.txn;
      batches = f.written.batches;
    };
  }

  rows-with : RowFacts s → RowFacts grown
  rows-with f =
      let more : HasMore s grown = record { rows = omega arith; epochs = lead; entries = omega (arith, length-append s.entries frame) } in
      record {
        few = f.few;
        rows = each-weaker (IsSoundRow s) (IsSoundRow grown) s.rows (sound_row-grows s grown more) f.rows;
        instances = each-weaker (IsSoundInstance s) (IsSoundInstance grown) s.instances (sound_instance-grows s grown more) f.instances;
      }

  pub others-with : OtherFacts setting s → OtherFacts setting grown
  others-with f = record {
    safe = record { disjoint = f.safe.disjoint; fenced = g.fenced; exact = exact-frame setting (listed frame s) grown g.exact; backed = backed-frame (listed frame s) grown g.backed };
    group = group-stays s grown record { rows = λ w. same_member (row_of w s); held = λ w x holds. holds } f.group;
    logs = logs-with f.logs;
    rows = rows-with f.rows;
    journal = journal-stays setting s grown (grows-entries frame s) f.journal;
  }

-- one entry is written
pub others-behind : (setting : Setting) (e : Entry) (s : Cluster) → MayStand setting s e → AreEntries (e ∷ []) → fits_entries (e ∷ []) s ≡ true → OtherFacts setting s → OtherFacts setting (behind e s)
others-behind setting e s may written room f =
    others-with setting (e ∷ []) s (entry-behind setting e s may (entry_facts setting s f)) written room (epoch-push producer.Lead s.entries e) f

-- ---- the facts of an instance, where the transaction list is another, with no epoch lower

-- what a state with another transaction list must say of an instance, so that its facts stay
pub record StaysAtEnds (s t : Cluster) (n : ℕ) : Type 0 where
  pub ends : (id : TaskId) → IsUnfenced t n id → is_fetched (instance_of n s).phase ≡ true →
      map (λ part. end_or_start part t.entries) (parts_of (instance_of n s)) ≡ map (λ part. end_or_start part s.entries) (parts_of (instance_of n s))
  pub ahead : (id : TaskId) → IsNewest s n id → AllByRecursion (λ p. p.1 ≤ end_or_start p.0 t.entries) (zip (parts_of (instance_of n s)) (instance_of n s).positions)
  pub commits : (id : TaskId) (epoch : ℕ) → Writes s n id epoch → has_epoch (instance_of n s).phase ≡ true →
      AllByRecursion (IsBelow id epoch (commits_up_to (instance_of n s))) (commit_tags t)

module _ (setting : Setting) (s : Cluster) (txn : List (List Entry)) (entries : List Entry)
    (grow : (tid : Tid) → epoch_of tid s.entries ≤ epoch_of tid entries) (rows : RowFacts s) where
  abbrev t : Cluster
  t = record s { txn = txn; entries = entries }

  pub writes-back : (n : ℕ) (id : TaskId) (epoch : ℕ) → Writes t n id epoch → Writes s n id epoch
  writes-back n id epoch o = writes-frame s t n id epoch o

  pub newest-back : (n : ℕ) (id : TaskId) → IsNewest t n id → IsNewest s n id
  newest-back n id o = newest-frame s t n id o

  pub fencing-back : (w : ℕ) (fencing : Fencing) → IsFencing t w fencing → IsFencing s w fencing
  fencing-back w fencing o =
      let own : epoch_in (row_of w s).lead ≡ last_epoch producer.Lead t = ap epoch_in o.leads in
      let sound : IsSoundRow s (row_of w s) = sound_at s rows w in
      let same : last_epoch producer.Lead t ≡ last_epoch producer.Lead s = omega (arith, own, sound.lead, grow producer.Lead) in
      record { leads = subst (λ (epoch : ℕ). (row_of w s).lead ≡ Some (record { 0 = epoch })) same o.leads; keeps = o.keeps }

  module _ (n : ℕ) (f : InstanceFacts setting s n) where
    pub same-epoch : (id : TaskId) → IsUnfenced t n id → last_epoch (producer.Task id) t ≡ last_epoch (producer.Task id) s
    same-epoch id o =
        let wrote : Writes s n id (last_epoch (producer.Task id) t) = writes-back n id (last_epoch (producer.Task id) t) o.last in
        omega (arith, f.known_epochs id (last_epoch (producer.Task id) t) wrote, grow (producer.Task id))

    pub unfenced-back : (id : TaskId) → IsUnfenced t n id → IsUnfenced s n id
    unfenced-back id o = record {
      verified = o.verified;
      last = subst (λ epoch. Writes s n id epoch) (same-epoch id o) (writes-back n id (last_epoch (producer.Task id) t) o.last);
    }

    pub enters : StaysAtEnds s t n → InstanceFacts setting t n
    enters stays = record {
      generation = λ id u. f.generation id (unfenced-back id u);
      counted = λ id u. f.counted id (unfenced-back id u);
      positions = λ id u fetched. f.positions id (unfenced-back id u) fetched ∙ sym (stays.ends id u fetched);
      task = λ id u. f.task id (newest-back n id u);
      one_batch = λ id epoch u opened. f.one_batch id epoch (writes-back n id epoch u) opened;
      fencing = λ w fencing id leads u same older. f.fencing w fencing id (fencing-back w fencing leads) (unfenced-back id u) same older;
      not_ahead = λ id u. stays.ahead id (newest-back n id u);
      known_epochs = λ id epoch u. omega (arith, f.known_epochs id epoch (writes-back n id epoch u), grow (producer.Task id));
      numbers = λ id epoch u has. record {
        batches = (f.numbers id epoch (writes-back n id epoch u) has).batches;
        commits = stays.commits id epoch (writes-back n id epoch u) has;
      };
    }

  pub pair-enters : (m n : ℕ) → InstanceFacts setting s m → InstanceFacts setting s n → PairFacts s m n → PairFacts t m n
  pair-enters m n f g p = record {
    apart = λ a b u v same. p.apart a b (unfenced-back m f a u) (unfenced-back n g b v) same;
    epochs = λ id epoch u v. p.epochs id epoch (writes-back m id epoch u) (writes-back n id epoch v);
  }
