-- A source's task that writes the records of a cut keeps all facts.
use Rattle.std.proofs.Common.{◌≡◌, ◌≢◌, ℕ, ◌==◌, ◌+◌, ◌<◌, ◌^◌, ◌++◌, ◌∷◌, [], Bool, true, false, not, cond, nat_le, List, Some, length, slice_get, refl, sym, ap, subst, ◌∙◌, arith}
use Rattle.std.specs.List.{AllByRecursion, filter}
use Rattle.std.proofs.lemmas.Bool.{eqb-true, leb-false, not-false}
use Rattle.std.proofs.lemmas.Option.{slice_get-get_or}
use Rattle.std.proofs.lemmas.List.Elements.{filter-append}
use Rattle.cw_types.specs.declared.ids.Tid.TheVariants as producer
use Rattle.cw_types.specs.declared.ids.Tag.{Tag}
use Rattle.cw_types.specs.declared.ids.TaskId.{TaskId}
use Rattle.cw_types.specs.declared.ids.Item.{Item}
use Rattle.cw_types.specs.declared.ids.Item.TheVariants.{Connector, Task}
use Rattle.cw_types.specs.declared.ids.PartKey.{PartKey}
use Rattle.cw_types.specs.declared.ids.PartKey.TheVariants.{Raw}
use Rattle.cw_types.specs.Same.{same_tag}
use Rattle.cw_types.proofs.SameLemmas.{same_tag-Decides}
use Rattle.cw_bytes.specs.Spelling.{IsPart}
use Rattle.cw_config.specs.declared.records.ConfigRecord.{ConfigRecord}
use Rattle.cw_feed.specs.Yield.{Yield}
use Rattle.cw_data.specs.declared.entry.Batch.{Batch}
use Rattle.cw_data.specs.declared.entry.DataEntry.TheVariants as data_entry
use Rattle.cw_txn.proofs.Walks.{epoch_of_le}
use Rattle.cw_model.specs.declared.instance.Cut.{Cut}
use Rattle.cw_model.specs.declared.instance.Instance.{Instance}
use Rattle.cw_model.specs.declared.instance.InstancePhase.TheVariants as phase
use Rattle.cw_model.specs.State.{Setting, Cluster}
use Rattle.cw_model.specs.Phases.{is_ended, is_working, is_verified}
use Rattle.cw_model.specs.Lookups.{instance_of, no_instance, last_epoch, list_end}
use Rattle.cw_model.specs.Updates.{changes_instance, with_data, fits_data}
use Rattle.cw_model.specs.Bodies.{data_length}
use Rattle.cw_model.specs.Tasks.{parts_of, part_at, position_at, topic_of, count_of, tag_of, taking, yielded}
use Rattle.cw_model.specs.EventsSources.{produce, MayProduce, is_bad_cut, ends_badly, batch_of}
use Rattle.cw_model.specs.Committed.{batches_of}
use Rattle.cw_model.specs.Facts.{AreFacts}
use Rattle.cw_model.specs.FactsRows.{IsSoundInstance, IsOfItem}
use Rattle.cw_model.specs.FactsProducers.{Writes, IsUnfenced, IsNewest, IsBelow, HasUsed, HasItsBatch, commit_tags, batch_tags, commits_up_to, batches_up_to, tag_in_hand}
use Rattle.cw_laws.proofs.Wrappers.{instance-keeps, data-keeps, producer-keeps, if-keeps}
use Rattle.cw_laws.proofs.Lists.{each-at, each-weaker}
use Rattle.cw_laws.proofs.Init.{lives-within}
use Rattle.cw_laws.proofs.AtInstance.{InstanceFacts, PairFacts, facts_of_one, facts_of_two, writes-frame, unfenced-frame, newest-frame, pair-frame}
use Rattle.cw_laws.proofs.Changed.{reads-change, SameProducer, own_writes, own_unfenced, own_newest, pairs-stay}
use Rattle.cw_laws.proofs.DataPush.{batches-push, more, others-push}
use Rattle.cw_laws.proofs.DataGrows.{MayWrite, others-data}
use Rattle.cw_laws.proofs.Others.{other_facts, all_facts, others-moved}
use Rattle.cw_laws.proofs.Moved.{producers-moved}
use Rattle.cw_laws.proofs.Written.{list-short}
use Rattle.cw_laws.proofs.Numbers.{end_place-fits, values-fit}
use Rattle.cw_laws.proofs.Ends.{each-get}
use Rattle.cw_laws.proofs.CutYields.{yields-cut, lines-cut}
use Rattle.cw_laws.proofs.Below.{own_tag, differs-from, not_batched, none_batched}
use Rattle.cw_laws.proofs.AtWork.{IsAtWork, at-work, verified-has, tag_of-is, others-tag, spec-get, spec-count, spec-topic}

-- ---- a cut that isn't bad

record IsGoodCut (j : Instance) (cut : Cut) (ends : Bool) : Type 0 where
  begins : cut.from ≡ position_at cut.turn j
  further : cut.from < cut.to
  whole : ends ≡ false

past : (b rest : Bool) → cond b true rest ≡ false → (b ≡ false) × (rest ≡ false)
past true rest good = cc
past false rest good = (refl, good)

good_cut : (j : Instance) (cut : Cut) (ends : Bool) → cond (not (cut.from == position_at cut.turn j)) true (cond (nat_le cut.to cut.from) true ends) ≡ false → IsGoodCut j cut ends
good_cut j cut ends good =
    let first = past (not (cut.from == position_at cut.turn j)) (cond (nat_le cut.to cut.from) true ends) good in
    let second = past (nat_le cut.to cut.from) ends first.1 in
    record {
      begins = eqb-true cut.from (position_at cut.turn j) (not-false (cut.from == position_at cut.turn j) first.0);
      further = leb-false cut.to cut.from second.0;
      whole = second.1;
    }

filter-none : {X : Type 0} (p : X → Bool) (xs : List X) → AllByRecursion (λ x. p x ≡ false) xs → filter p xs ≡ []
filter-none p [] each = refl
filter-none p (x ∷ xs) each = ap (λ b. cond b (x ∷ filter p xs) (filter p xs)) each.0 ∙ filter-none p xs each.1

of_item-taken : (records : List ConfigRecord) (item : Item) (cut : Cut) (j : Instance) → is_working j.phase ≡ true → IsOfItem records item j → IsOfItem records item (taking phase.Produced cut j)
of_item-taken records (Connector name) cut j works o = absurd (let idle : is_working j.phase ≡ false = o.idle in cc)
of_item-taken records (Task id) cut j works o = record { phase = λ e. cc; task = o.task; generation = o.generation }

-- a batch of a cut under a tag
abbrev batch_with : Setting → Instance → Cut → Tag → Batch
batch_with setting j cut tag = record {
  tag = tag;
  topic = topic_of j;
  part = part_at cut.turn j;
  from = cut.from;
  to = cut.to;
  values = yielded setting.feeds (part_at cut.turn j) cut.from cut.to;
}

module _ (setting : Setting) (i : ℕ) (cut : Cut) (s : Cluster) (id : TaskId) (w : IsAtWork s i id) (may : MayProduce i cut s) (f : AreFacts setting s)
    (good : is_bad_cut setting.feeds (instance_of i s) cut ≡ false) (room : fits_data (batch_of setting.feeds (instance_of i s) cut) s ≡ true) where
  abbrev own : Instance
  own = instance_of i s

  abbrev part : PartKey
  part = part_at cut.turn own

  abbrev epoch : ℕ
  epoch = last_epoch (producer.Task id) s

  abbrev tag : Tag
  tag = own_tag id epoch own.number

  abbrev batch : Batch
  batch = batch_with setting own cut (tag_of own)

  abbrev mid : Cluster
  mid = with_data (data_entry.Batch batch) s

  abbrev change : Instance → Instance
  change = taking phase.Produced cut

  abbrev u : Cluster
  u = changes_instance i change mid

  within : i < length s.instances
  within = w.unfenced.last.is_task.within

  sound : IsSoundInstance s own
  sound = each-at (IsSoundInstance s) s.instances i no_instance within f.rows.instances

  fine : IsGoodCut own cut (ends_badly setting.feeds part (count_of own) cut.to)
  fine = good_cut own cut (ends_badly setting.feeds part (count_of own) cut.to) good

  there : slice_get (parts_of own) cut.turn ≡ Some part
  there = slice_get-get_or (parts_of own) cut.turn (Raw 0) may.turn

  named : IsPart part
  named = each-get IsPart w.task.spec.parts cut.turn part (spec-get id own w.task cut.turn part there) (w.task.is.named w.name)

  to-fits : cut.to < 2 ^ 64
  to-fits = end_place-fits setting.feeds part (count_of own) cut.to f.logs.short (spec-count id own w.task) fine.whole

  few : list_end s.entries + 17 < 2 ^ 64
  few = list-short setting s f.logs

  yields : Yield setting.feeds part cut.from cut.to (yielded setting.feeds part cut.from cut.to)
  yields = yields-cut setting.feeds part (count_of own) cut.from cut.to fine.further fine.whole

  tag-is : tag_of own ≡ tag
  tag-is = tag_of-is s i id epoch w.unfenced.last

  up-to : (id' : TaskId) (epoch' : ℕ) (j : Instance) → j.phase ≡ phase.Polling → HasUsed s id' epoch' (batches_up_to j) (commits_up_to j) → HasUsed s id' epoch' j.number j.number
  up-to id' epoch' j is u = rw is at u

  used : (id' : TaskId) (epoch' : ℕ) → Writes s i id' epoch' → HasUsed s id' epoch' own.number own.number
  used id' epoch' o = up-to id' epoch' own may.polling (f.producers.numbers i id' epoch' o (verified-has own.phase w.unfenced.verified))

  its_used : HasUsed s id epoch own.number own.number
  its_used = used id epoch w.unfenced.last

  may_write : MayWrite setting s batch
  may_write = subst (λ (t : Tag). MayWrite setting s (batch_with setting own cut t)) (sym tag-is) record {
    «open» = each-weaker (IsBelow id epoch own.number) (λ other. same_tag other tag ≡ false) (commit_tags s) (differs-from id epoch own.number) its_used.commits;
    allowed = record {
      known = omega arith;
      first = not_batched id epoch own.number part (batches_of s.batches) its_used.batches;
      lines = lines-cut setting.feeds part cut.from cut.to named fine.further to-fits yields;
    };
    agrees = λ agreed task source committed. yields;
    written = (
      ((w.name, w.index), omega (arith, epoch_of_le (producer.Task id) s.entries, few), omega (arith, sound.number, few)),
      spec-topic id own w.task may.source,
      (named, omega (arith, fine.further, to-fits), to-fits),
      values-fit batch (data_length s) room,
    );
  }

  -- the one batch of its transaction
  only : filter (λ b. same_tag tag b.tag) (batches_of mid.batches) ≡ batch ∷ []
  only =
      let itself : same_tag tag (tag_of own) ≡ true = (same_tag-Decides tag (tag_of own)).1 (sym tag-is) in
      ap (filter (λ (b : Batch). same_tag tag b.tag)) (batches-push s.batches batch)
      ∙ filter-append (λ (b : Batch). same_tag tag b.tag) (batches_of s.batches) (batch ∷ [])
      ∙ ap (λ (l : List Batch). l ++ filter (λ (b : Batch). same_tag tag b.tag) (batch ∷ []))
      (filter-none (λ (b : Batch). same_tag tag b.tag) (batches_of s.batches) (none_batched id epoch own.number (batches_of s.batches) its_used.batches))
      ∙ ap (λ (b : Bool). cond b (batch ∷ []) []) itself

  begins : slice_get own.positions cut.turn ≡ Some cut.from
  begins =
      let placed : length own.positions ≡ length (parts_of own) = sound.positions (rw may.polling refl) in
      slice_get-get_or own.positions cut.turn 0 (omega (arith, placed, may.turn)) ∙ ap (λ (n : ℕ). Some n) (sym fine.begins)

  has_its_batch : (t : Tag) → t ≡ tag → HasItsBatch setting.feeds (batches_of mid.batches) t (change own)
  has_its_batch t is = record {
    batch = batch;
    cut = cut;
    only = subst (λ (t : Tag). filter (λ (b : Batch). same_tag t b.tag) (batches_of mid.batches) ≡ batch ∷ []) (sym is) only;
    is_cut = refl;
    part = there;
    begins = begins;
    cut_begins = refl;
    cut_ends = refl;
    some = fine.further;
    whole = fine.whole;
    yields = yields;
  }

  other : (n : ℕ) → n ≢ i → InstanceFacts setting mid n
  other n ne = others-push setting s batch n (λ id' epoch' o tid of. others-tag setting s f.producers n i ne id' id epoch' epoch o w.unfenced.last tid of) (facts_of_one setting s f.producers n)

  two : (a b : ℕ) → a ≢ b → PairFacts mid a b
  two a b ne = pair-frame s mid a b (facts_of_two setting s f.producers a b ne)

  same : SameProducer own (change own)
  same = record { item = refl; epoch = refl; generation = refl; task = refl }

  reads : instance_of i u ≡ change own
  reads = reads-change i change mid within

  verified : is_verified (change own).phase ≡ true → is_verified own.phase ≡ true
  verified _ = w.unfenced.verified

  writes : (id' : TaskId) (epoch' : ℕ) → Writes u i id' epoch' → Writes s i id' epoch'
  writes id' epoch' o = writes-frame s mid i id' epoch' (own_writes setting i change mid within same verified id' epoch' o)

  unfenced : (id' : TaskId) → IsUnfenced u i id' → IsUnfenced s i id'
  unfenced id' o = unfenced-frame s mid i id' (own_unfenced setting i change mid within same verified id' o)

  newest : (id' : TaskId) → IsNewest u i id' → IsNewest s i id'
  newest id' o = newest-frame s mid i id' (own_newest setting i change mid within same verified id' o)

  own-facts : InstanceFacts setting u i
  own-facts =
      let g : InstanceFacts setting s i = facts_of_one setting s f.producers i in
      record {
        generation = λ id' x. rw reads (g.generation id' (unfenced id' x));
        counted = λ id' x. g.counted id' (unfenced id' x);
        positions = λ id' x at. rw reads (g.positions id' (unfenced id' x) (rw may.polling refl));
        task = λ id' x. rw reads (g.task id' (newest id' x));
        one_batch = λ id' epoch' x opened. subst (λ (k : Instance). HasItsBatch setting.feeds (batches_of mid.batches) (tag_in_hand id' epoch' k) k) (sym reads)
            (has_its_batch (tag_in_hand id' epoch' own) (sym (tag_of-is s i id' epoch' (writes id' epoch' x)) ∙ tag-is));
        fencing = λ v fence id' leads x equal older. g.fencing v fence id' (record { leads = leads.leads; keeps = leads.keeps }) (unfenced id' x) equal
            (subst (λ (k : Instance). k.generation < fence.generation) reads older);
        not_ahead = λ id' x. rw reads (g.not_ahead id' (newest id' x));
        known_epochs = λ id' epoch' x. g.known_epochs id' epoch' (writes id' epoch' x);
        numbers = λ id' epoch' x has.
            let before : HasUsed s id' epoch' own.number own.number = used id' epoch' (writes id' epoch' x) in
            record {
              batches = rw reads (more setting s batch (IsBelow id' epoch' (own.number + 1))
                  (each-weaker (IsBelow id' epoch' own.number) (IsBelow id' epoch' (own.number + 1)) (batch_tags s) (λ t below tid of. omega (arith, below tid of)) before.batches)
                  (λ tid of. omega arith));
              commits = rw reads before.commits;
            };
      }

  sound-taken : IsSoundInstance mid own → IsSoundInstance mid (change own)
  sound-taken h = record {
    at_worker = h.at_worker;
    named = h.named;
    of_item = of_item-taken s.configs own.item cut own (rw may.polling refl) h.of_item;
    generation = h.generation;
    source = λ is. may.source;
    sink = λ is. absurd (cc);
    epoch = λ is. h.epoch (verified-has own.phase w.unfenced.verified);
    positions = λ is. h.positions (rw may.polling refl);
    cut = λ is. may.turn;
    delivered = λ is. absurd (cc);
    number = h.number;
  }

  pub produce-done : AreFacts setting u
  produce-done =
      let g = others-data setting s batch may_write room (other_facts setting s f) in
      all_facts setting u
      (others-moved setting i change mid
      record { worker = refl; item = refl; ended = λ over. let lasts : is_ended own.phase ≡ false = rw may.polling refl in absurd (cc) }
      (sound-taken (each-at (IsSoundInstance mid) mid.instances i no_instance within g.rows.instances)) g)
      (producers-moved setting i change mid own-facts other two (pairs-stay setting i change mid within same verified two))

pub produce-keeps : (setting : Setting) (i : ℕ) (cut : Cut) (s : Cluster) → MayProduce i cut s → AreFacts setting s → AreFacts setting (produce setting i cut s).1
produce-keeps setting i cut s may f = instance-keeps (AreFacts setting) i s _ f (λ lives. producer-keeps (AreFacts setting) i s _ f (λ current.
    if-keeps (AreFacts setting) (is_bad_cut setting.feeds (instance_of i s) cut) _ _ (λ bad. f) (λ good.
    data-keeps (AreFacts setting) s (batch_of setting.feeds (instance_of i s) cut) _ _ f (λ room.
    done (at-work s i (lives-within i s lives) (each-at (IsSoundInstance s) s.instances i no_instance (lives-within i s lives) f.rows.instances) (rw may.polling refl) current) good room))))
  where
    done : ((id : TaskId) × IsAtWork s i id) → is_bad_cut setting.feeds (instance_of i s) cut ≡ false → fits_data (batch_of setting.feeds (instance_of i s) cut) s ≡ true →
        AreFacts setting (changes_instance i (taking phase.Produced cut) (with_data (batch_of setting.feeds (instance_of i s) cut) s))
    done w good room = produce-done setting i cut s w.0 w.1 may f good room
