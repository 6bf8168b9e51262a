-- The facts of producers where the data log has one batch more, of one instance's transaction: those of the others stay.
use Rattle.std.proofs.Common.{◌≡◌, ◌≢◌, ◌⊎◌, inl, inr, ℕ, zero, suc, ◌++◌, ◌∷◌, [], Bool, true, false, cond, List, map, refl, sym, subst, ap, ◌∙◌, arith}
use Rattle.std.proofs.lemmas.Bool.{false_from_ne_true}
use Rattle.std.specs.List.{AllByRecursion, filter}
use Rattle.std.proofs.lemmas.List.Elements.{filter_map-append}
use Rattle.cw_types.specs.declared.ids.Tid.TheVariants as producer
use Rattle.cw_types.specs.declared.ids.Tag.{Tag}
use Rattle.cw_types.specs.declared.ids.TaskId.{TaskId}
use Rattle.cw_types.specs.Same.{same_tid, same_tag}
use Rattle.cw_types.proofs.SameLemmas.{same_tid-Decides, same_tag-Decides}
use Rattle.cw_data.specs.declared.entry.Batch.{Batch}
use Rattle.cw_data.specs.declared.entry.DataEntry.{DataEntry}
use Rattle.cw_data.specs.declared.entry.DataEntry.TheVariants as data_entry
use Rattle.cw_model.specs.State.{Setting, Cluster}
use Rattle.cw_model.specs.Lookups.{instance_of}
use Rattle.cw_model.specs.Updates.{with_data}
use Rattle.cw_model.specs.Committed.{batch_in, batches_of}
use Rattle.cw_model.specs.FactsProducers.{ProducerFacts, Writes, HasItsBatch, HasUsed, IsBelow, batches_up_to, commits_up_to, tag_in_hand, batch_tags}
use Rattle.cw_laws.proofs.Lists.{each-push}
use Rattle.cw_laws.proofs.AtInstance.{InstanceFacts, PairFacts, facts_of_all, writes-frame, unfenced-frame, newest-frame}

pub eq-cases : (m n : ℕ) → (m ≡ n) ⊎ (m ≢ n)
eq-cases zero zero = inl refl
eq-cases zero (suc n) = inr (λ e. absurd (omega arith))
eq-cases (suc m) zero = inr (λ e. absurd (omega arith))
eq-cases (suc m) (suc n) = elim (eq-cases m n) [ inl same ↦ inl (ap (λ k. suc k) same) | inr other ↦ inr (λ e. other (omega arith)) ]

-- the facts of one instance, and those of all others
pub facts_but_one : (setting : Setting) (s : Cluster) (i : ℕ) → InstanceFacts setting s i → ((n : ℕ) → n ≢ i → InstanceFacts setting s n) →
    ((n : ℕ) → n ≢ i → PairFacts s i n × PairFacts s n i) → ((m n : ℕ) → m ≢ n → m ≢ i → n ≢ i → PairFacts s m n) → ProducerFacts setting s
facts_but_one setting s i own others pairs other_pairs = facts_of_all setting s
    (λ n. elim (eq-cases n i) [ inl same ↦ subst (λ k. InstanceFacts setting s k) (sym same) own | inr ne ↦ others n ne ])
    (λ m n ne. elim (eq-cases m i) [
      | inl mi ↦ subst (λ k. PairFacts s k n) (sym mi) (pairs n (λ ni. ne (mi ∙ sym ni))).0
      | inr mo ↦ elim (eq-cases n i) [
        | inl ni ↦ subst (λ k. PairFacts s m k) (sym ni) (pairs m mo).1
        | inr n_other ↦ other_pairs m n ne mo n_other
      ]
    ])

pub batches-push : (log : List DataEntry) (batch : Batch) → batches_of (log ++ data_entry.Batch batch ∷ []) ≡ batches_of log ++ batch ∷ []
batches-push log batch = filter_map-append batch_in log (data_entry.Batch batch ∷ [])

pub tags-push : (bs : List Batch) (batch : Batch) → map (λ batch. batch.tag) (bs ++ batch ∷ []) ≡ map (λ batch. batch.tag) bs ++ batch.tag ∷ []
tags-push [] batch = refl
tags-push (b ∷ bs) batch = ap (λ tags. b.tag ∷ tags) (tags-push bs batch)

pub filter-push : {X : Type 0} (p : X → Bool) (xs : List X) (x : X) → p x ≡ false → filter p (xs ++ x ∷ []) ≡ filter p xs
filter-push p [] x fails = rw fails refl
filter-push p (y ∷ xs) x fails = ap (λ rest. cond (p y) (y ∷ rest) rest) (filter-push p xs x fails)

module _ (setting : Setting) (s : Cluster) (batch : Batch) where
  abbrev t : Cluster
  t = with_data (data_entry.Batch batch) s

  pub all_tags : batch_tags t ≡ batch_tags s ++ batch.tag ∷ []
  all_tags = ap (map (λ batch. batch.tag)) (batches-push s.batches batch) ∙ tags-push (batches_of s.batches) batch

  -- what is so of each tag, and of the new one
  pub more : (P : Tag → Type 0) → AllByRecursion P (batch_tags s) → P batch.tag → AllByRecursion P (batch_tags t)
  more P each here = subst (λ tags. AllByRecursion P tags) (sym all_tags) (each-push P (batch_tags s) batch.tag here each)

  -- an instance under whose epoch the batch isn't
  pub others-push : (n : ℕ) → ((id : TaskId) (epoch : ℕ) → Writes s n id epoch → same_tid (producer.Task id) batch.tag.tid ≡ true → batch.tag.epoch.0 ≡ epoch → ⊥) →
      InstanceFacts setting s n → InstanceFacts setting t n
  others-push n apart f = record {
    generation = λ id u. f.generation id (unfenced-frame s t n id u);
    counted = λ id u. f.counted id (unfenced-frame s t n id u);
    positions = λ id u. f.positions id (unfenced-frame s t n id u);
    task = λ id u. f.task id (newest-frame s t n id u);
    one_batch = λ id epoch u opened.
        let old : HasItsBatch setting.feeds (batches_of s.batches) (tag_in_hand id epoch (instance_of n s)) (instance_of n s) = f.one_batch id epoch (writes-frame s t n id epoch u) opened in
        record {
          batch = old.batch;
          cut = old.cut;
          only = ap (filter (λ b. same_tag (tag_in_hand id epoch (instance_of n s)) b.tag)) (batches-push s.batches batch)
              ∙ filter-push (λ b. same_tag (tag_in_hand id epoch (instance_of n s)) b.tag) (batches_of s.batches) batch (differs id epoch (writes-frame s t n id epoch u)) ∙ old.only;
          is_cut = old.is_cut;
          part = old.part;
          begins = old.begins;
          cut_begins = old.cut_begins;
          cut_ends = old.cut_ends;
          some = old.some;
          whole = old.whole;
          yields = old.yields;
        };
    fencing = λ w fencing id leads u. f.fencing w fencing id (record { leads = leads.leads; keeps = leads.keeps }) (unfenced-frame s t n id u);
    not_ahead = λ id u. f.not_ahead id (newest-frame s t n id u);
    known_epochs = λ id epoch u. f.known_epochs id epoch (writes-frame s t n id epoch u);
    numbers = λ id epoch u has.
        let used : HasUsed s id epoch (batches_up_to (instance_of n s)) (commits_up_to (instance_of n s)) = f.numbers id epoch (writes-frame s t n id epoch u) has in
        record {
          batches = more (IsBelow id epoch (batches_up_to (instance_of n s))) used.batches (λ same equal. absurd (apart id epoch (writes-frame s t n id epoch u) same equal));
          commits = used.commits;
        };
  } where
    differs : (id : TaskId) (epoch : ℕ) → Writes s n id epoch → same_tag (tag_in_hand id epoch (instance_of n s)) batch.tag ≡ false
    differs id epoch wrote = false_from_ne_true (same_tag (tag_in_hand id epoch (instance_of n s)) batch.tag) (λ same.
        let equal : tag_in_hand id epoch (instance_of n s) ≡ batch.tag = (same_tag-Decides (tag_in_hand id epoch (instance_of n s)) batch.tag).0 same in
        apart id epoch wrote ((same_tid-Decides (producer.Task id) batch.tag.tid).1 (ap (λ tag. tag.tid) equal)) (sym (ap (λ tag. tag.epoch.0) equal)))
