-- A task at work writes an entry that moves the end of the part which it took last, and goes on polling from there: all facts stay.
use Rattle.std.proofs.Common.{◌≡◌, ◌≢◌, ℕ, ◌<◌, ◌≤◌, ◌++◌, ◌∷◌, [], Bool, true, false, List, Contains, length, map, slice_set, refl, sym, ap, subst, ◌∙◌, arith}
use Rattle.std.specs.List.{AllByRecursion, IsDistinct, zip}
use Rattle.std.proofs.Math.ListN.{length-set}
use Rattle.std.proofs.lemmas.List.Elements.{Contains-get_or}
use Rattle.cw_types.specs.declared.ids.Tid.{Tid}
use Rattle.cw_types.specs.declared.ids.Tid.TheVariants as producer
use Rattle.cw_types.specs.declared.ids.TaskId.{TaskId}
use Rattle.cw_types.specs.declared.ids.Item.{Item}
use Rattle.cw_types.specs.declared.ids.Item.TheVariants.{Connector, Task}
use Rattle.cw_types.specs.declared.ids.PartKey.{PartKey}
use Rattle.cw_types.specs.declared.ids.PartKey.TheVariants.{Raw}
use Rattle.cw_types.specs.Same.{same_part}
use Rattle.cw_types.proofs.SameLemmas.{same_part-Decides}
use Rattle.cw_config.specs.declared.records.ConfigRecord.{ConfigRecord}
use Rattle.cw_txn.specs.declared.entry.Entry.{Entry}
use Rattle.cw_txn.specs.Legal.{epoch_of}
use Rattle.cw_model.specs.declared.row.Fencing.{Fencing}
use Rattle.cw_model.specs.declared.instance.Instance.{Instance}
use Rattle.cw_model.specs.declared.instance.InstancePhase.{InstancePhase}
use Rattle.cw_model.specs.declared.instance.InstancePhase.TheVariants as phase
use Rattle.cw_model.specs.State.{Setting, Cluster}
use Rattle.cw_model.specs.Phases.{is_ended, is_working, is_verified, is_fetched, has_epoch, has_open_transaction}
use Rattle.cw_model.specs.Lookups.{instance_of, no_instance, list_end, end_or_start}
use Rattle.cw_model.specs.Updates.{changes_instance}
use Rattle.cw_model.specs.Tasks.{parts_of, part_at, cut_of, polling_from}
use Rattle.cw_model.specs.Facts.{AreFacts}
use Rattle.cw_model.specs.FactsRows.{IsSoundInstance, IsOfItem}
use Rattle.cw_model.specs.FactsProducers.{Writes, IsUnfenced, IsNewest, IsFencing, IsBelow, HasUsed, commit_tags, commits_up_to}
use Rattle.cw_laws.proofs.Lists.{each-at, each-weaker}
use Rattle.cw_laws.proofs.AtInstance.{InstanceFacts, PairFacts, facts_of_one, facts_of_two}
use Rattle.cw_laws.proofs.Changed.{reads-change, SameProducer, own_writes, own_unfenced, own_newest, pairs-stay}
use Rattle.cw_laws.proofs.EntryPush.{BumpsNone, LeavesPart, epoch-push, end-stays}
use Rattle.cw_laws.proofs.Others.{OtherFacts, all_facts, others-moved}
use Rattle.cw_laws.proofs.Entered.{behind, writes-back, newest-back, fencing-back, unfenced-back, enters, pair-enters}
use Rattle.cw_laws.proofs.Moved.{producers-moved}
use Rattle.cw_laws.proofs.Ends.{map-agree, zip-at-ends, ends-set}
use Rattle.cw_laws.proofs.AtWork.{IsAtWork, parts-spec, verified-has}
use Rattle.cw_laws.proofs.Apart.{apart-parts}

-- the part that a task took last
abbrev pub part_taken : Instance → PartKey
part_taken j = part_at (cut_of j).turn j

-- the task as it goes on, with the number of its next transaction
abbrev pub going_on : (to number : ℕ) → Instance → Instance
going_on to number j = record (polling_from phase.Polling to j) { number = number }

-- an entry moves the end of that part, and of no other
pub record MovesEnd (s : Cluster) (j : Instance) (e : Entry) (to : ℕ) : Type 0 where
  pub bumps : BumpsNone e
  pub within : (cut_of j).turn < length (parts_of j)
  pub leaves : (q : PartKey) → same_part q (part_taken j) ≡ false → LeavesPart q e
  pub moves : end_or_start (part_taken j) (s.entries ++ e ∷ []) ≡ to
  pub further : end_or_start (part_taken j) s.entries < to

of_item-moved : (records : List ConfigRecord) (item : Item) (to number : ℕ) (j : Instance) → is_working j.phase ≡ true → IsOfItem records item j → IsOfItem records item (going_on to number j)
of_item-moved records (Connector name) to number j works o = absurd (let idle : is_working j.phase ≡ false = o.idle in cc)
of_item-moved records (Task id) to number j works o = record { phase = λ e. cc; task = o.task; generation = o.generation }

module _ (setting : Setting) (i : ℕ) (s : Cluster) (id : TaskId) (e : Entry) (to number : ℕ) (w : IsAtWork s i id) (f : AreFacts setting s)
    (m : MovesEnd s (instance_of i s) e to) (works : is_working (instance_of i s).phase ≡ true) (fetched : is_fetched (instance_of i s).phase ≡ true) where
  abbrev own : Instance
  own = instance_of i s

  abbrev mid : Cluster
  mid = behind e s

  abbrev u : Cluster
  u = changes_instance i (going_on to number) mid

  abbrev old : PartKey → ℕ
  old q = end_or_start q s.entries

  abbrev new : PartKey → ℕ
  new q = end_or_start q mid.entries

  within : i < length s.instances
  within = w.unfenced.last.is_task.within

  grow : (tid : Tid) → epoch_of tid s.entries ≤ epoch_of tid mid.entries
  grow tid = epoch-push tid s.entries e

  stays : (q : PartKey) → same_part q (part_taken own) ≡ false → new q ≡ old q
  stays q other = end-stays q s.entries e (m.leaves q other)

  grows : (q : PartKey) → old q ≤ new q
  grows q = by (same_part q (part_taken own)) refl where
    by : (b : Bool) → same_part q (part_taken own) ≡ b → old q ≤ new q
    by true same = subst (λ (q : PartKey). old q ≤ new q) (sym ((same_part-Decides q (part_taken own)).0 same)) (omega (arith, m.moves, m.further))
    by false other = omega (arith, stays q other)

  there : Contains (parts_of own) (part_taken own)
  there = Contains-get_or (parts_of own) (cut_of own).turn (Raw 0) m.within

  distinct : IsDistinct same_part (parts_of own)
  distinct = subst (λ (parts : List PartKey). IsDistinct same_part parts) (sym (parts-spec id own w.task)) w.task.is.distinct

  -- its positions are the ends again
  positions : slice_set own.positions (cut_of own).turn to ≡ map new (parts_of own)
  positions =
      ap (λ (ps : List ℕ). slice_set ps (cut_of own).turn to) (f.producers.positions i id w.unfenced fetched)
      ∙ ends-set old new (parts_of own) (cut_of own).turn to (Raw 0) m.within distinct m.moves stays

  -- what is committed of another's transactions stays below its number
  abbrev OthersCommit : Type 0
  OthersCommit = (n : ℕ) → n ≢ i → (id' : TaskId) (epoch : ℕ) → Writes s n id' epoch → has_epoch (instance_of n s).phase ≡ true →
      AllByRecursion (IsBelow id' epoch (commits_up_to (instance_of n s))) (commit_tags mid)

  other : OthersCommit → (n : ℕ) → n ≢ i → InstanceFacts setting mid n
  other commits n ne =
      let g : InstanceFacts setting s n = facts_of_one setting s f.producers n in
      enters setting s mid.txn mid.entries grow f.rows n g record {
        ends = λ id' x at. map-agree new old (parts_of (instance_of n s)) (each-weaker (λ q. same_part q (part_taken own) ≡ false) (λ q. new q ≡ old q) (parts_of (instance_of n s)) stays
            (apart-parts setting s f n i id' id ne (unfenced-back setting s mid.txn mid.entries grow f.rows n g id' x) w.unfenced (part_taken own) there));
        ahead = λ id' x. each-weaker (λ (p : PartKey × ℕ). p.1 ≤ old p.0) (λ (p : PartKey × ℕ). p.1 ≤ new p.0) (zip (parts_of (instance_of n s)) (instance_of n s).positions)
            (λ p below. omega (arith, below, grows p.0)) (f.producers.not_ahead n id' x);
        commits = commits n ne;
      }

  two : (a b : ℕ) → a ≢ b → PairFacts mid a b
  two a b ne = pair-enters setting s mid.txn mid.entries grow f.rows a b (facts_of_one setting s f.producers a) (facts_of_one setting s f.producers b) (facts_of_two setting s f.producers a b ne)

  same : SameProducer own (going_on to number own)
  same = record { item = refl; epoch = refl; generation = refl; task = refl }

  reads : instance_of i u ≡ going_on to number own
  reads = reads-change i (going_on to number) mid within

  fails : (test : InstancePhase → Bool) → test phase.Polling ≡ false → test (instance_of i u).phase ≡ true → ⊥
  fails test never passes = let is : test phase.Polling ≡ true = subst (λ (k : Instance). test k.phase ≡ true) reads passes in cc

  verified : is_verified (going_on to number own).phase ≡ true → is_verified own.phase ≡ true
  verified _ = w.unfenced.verified

  writes : (id' : TaskId) (epoch : ℕ) → Writes u i id' epoch → Writes s i id' epoch
  writes id' epoch o = writes-back setting s mid.txn mid.entries grow f.rows i id' epoch (own_writes setting i (going_on to number) mid within same verified id' epoch o)

  unfenced : (id' : TaskId) → IsUnfenced u i id' → IsUnfenced s i id'
  unfenced id' o = unfenced-back setting s mid.txn mid.entries grow f.rows i (facts_of_one setting s f.producers i) id' (own_unfenced setting i (going_on to number) mid within same verified id' o)

  newest : (id' : TaskId) → IsNewest u i id' → IsNewest s i id'
  newest id' o = newest-back setting s mid.txn mid.entries grow f.rows i id' (own_newest setting i (going_on to number) mid within same verified id' o)

  fencing : (v : ℕ) (fence : Fencing) → IsFencing u v fence → IsFencing s v fence
  fencing v fence o = fencing-back setting s mid.txn mid.entries grow f.rows v fence (record { leads = o.leads; keeps = o.keeps })

  -- it has used no more than its next number tells
  abbrev OwnUsed : Type 0
  OwnUsed = (id' : TaskId) (epoch : ℕ) → Writes s i id' epoch → HasUsed mid id' epoch number number

  own-facts : OwnUsed → InstanceFacts setting u i
  own-facts used =
      let g : InstanceFacts setting s i = facts_of_one setting s f.producers i in
      record {
        generation = λ id' x. rw reads (g.generation id' (unfenced id' x));
        counted = λ id' x. g.counted id' (unfenced id' x);
        positions = λ id' x at. rw reads positions;
        task = λ id' x. rw reads (g.task id' (newest id' x));
        one_batch = λ id' epoch x opened. absurd (fails has_open_transaction refl opened);
        fencing = λ v fence id' leads x equal older. g.fencing v fence id' (fencing v fence leads) (unfenced id' x) equal (subst (λ (k : Instance). k.generation < fence.generation) reads older);
        not_ahead = λ id' x. rw reads (zip-at-ends new (parts_of own) (slice_set own.positions (cut_of own).turn to) positions);
        known_epochs = λ id' epoch x. omega (arith, g.known_epochs id' epoch (writes id' epoch x), grow (producer.Task id'));
        numbers = λ id' epoch x has. record {
          batches = rw reads (used id' epoch (writes id' epoch x)).batches;
          commits = rw reads (used id' epoch (writes id' epoch x)).commits;
        };
      }

  sound : number ≤ list_end mid.entries → IsSoundInstance mid own → IsSoundInstance mid (going_on to number own)
  sound few h = record {
    at_worker = h.at_worker;
    named = h.named;
    of_item = of_item-moved s.configs own.item to number own works h.of_item;
    generation = h.generation;
    source = λ is. absurd (cc);
    sink = λ is. absurd (cc);
    epoch = λ is. h.epoch (verified-has own.phase w.unfenced.verified);
    positions = λ is. length-set own.positions (cut_of own).turn to ∙ h.positions fetched;
    cut = λ is. absurd (cc);
    delivered = λ is. absurd (cc);
    number = few;
  }

  lasts : is_ended own.phase ≡ true → ⊥
  lasts over = let no_work : is_working own.phase ≡ false = ended-idle own.phase over in cc
    where
      ended-idle : (p : InstancePhase) → is_ended p ≡ true → is_working p ≡ false
      ended-idle phase.Connector is = cc
      ended-idle phase.New is = cc
      ended-idle phase.Inited is = cc
      ended-idle phase.Verified is = cc
      ended-idle phase.Polling is = cc
      ended-idle phase.Produced is = cc
      ended-idle phase.Offered is = cc
      ended-idle phase.Delivered is = cc
      ended-idle phase.Failed is = cc
      ended-idle phase.Ended is = refl

  pub moved-keeps : OtherFacts setting mid → number ≤ list_end mid.entries → OwnUsed → OthersCommit → AreFacts setting u
  moved-keeps g few used commits = all_facts setting u
      (others-moved setting i (going_on to number) mid
      record { worker = refl; item = refl; ended = λ over. absurd (lasts over) }
      (sound few (each-at (IsSoundInstance mid) mid.instances i no_instance within g.rows.instances)) g)
      (producers-moved setting i (going_on to number) mid (own-facts used) (other commits) two (pairs-stay setting i (going_on to number) mid within same verified two))
