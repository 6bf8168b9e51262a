-- One frame more of the data log.
use Rattle.std.proofs.Common.{◌≡◌, ◌↔◌, ℕ, ◌+◌, ◌<◌, Bool, true, false, ◌||◌, ◌&&◌, cond, IsTrue, is_some, List, [], ◌∷◌, ◌++◌, length, take, get_or, Some, refl, sym, ap, subst, ◌∙◌}
use Rattle.std.specs.List.{list_any, filter_map}
use Rattle.std.specs.BTreeMap.{get, is_at}
use Rattle.std.proofs.lemmas.List.{append-nil}
use Rattle.std.proofs.lemmas.List.Elements.{filter_map-append, recursion_from_All, All-from_recursion}
use Rattle.std.proofs.lemmas.List.Folds.{list_any-append}
use Rattle.cw_types.specs.declared.ids.Tag.{Tag}
use Rattle.cw_types.specs.Same.{same_tag, same_part, tag_order, part_order}
use Rattle.cw_types.proofs.SameLemmas.{tag_at, part_at, same_tag-flip, same_part-flip}
use Rattle.cw_bytes.specs.Frames.{EachFrom}
use Rattle.cw_txn.specs.declared.entry.Entry.{Entry}
use Rattle.cw_offset.specs.Acceptance.{IsAllowedMark}
use Rattle.cw_data.specs.declared.entry.Batch.{Batch}
use Rattle.cw_data.specs.declared.entry.DataEntry.{DataEntry}
use Rattle.cw_data.specs.declared.entry.DataEntry.TheVariants.{Batch as InBatch, Mark}
use Rattle.cw_data.specs.Log.{tag_in}
use Rattle.cw_feed.specs.Yield.{IsLine}
use Rattle.cw_model.specs.Committed.{batch_in, batches_of, is_batch_of}
use Rattle.cw_model.specs.Allowed.{IsAllowedData, data_mark}
use Rattle.cw_model.specs.StandsFor.{IsFirstLacking}
use Rattle.cw_open.specs.declared.batches.BatchKey.{BatchKey}
use Rattle.cw_open.specs.declared.batches.PassedBatches.{PassedBatches}
use Rattle.cw_open.specs.PassedBatches.{key_order, ArePassedBatches, MayStand, TakesData}
use Rattle.cw_open.proofs.Firsts.{taken_more, goes_on, first_lacks}
use Rattle.cw_open.proofs.Steps.{refuted, never, always}
use Rattle.cw_open.proofs.TagLemmas.{or_false, is_some-cond}
use Rattle.cw_open.proofs.SpanLemmas.{is_eq-then}

key_at : (a b : BatchKey) → is_at (key_order a) b ≡ (same_tag b.tag a.tag && same_part b.part a.part)
key_at a b =
    is_eq-then (tag_order a.tag b.tag) (part_order a.part b.part)
    ∙ ap (λ (x : Bool). x && is_at (part_order a.part) b.part) (tag_at a.tag b.tag ∙ same_tag-flip a.tag b.tag)
    ∙ ap (λ (x : Bool). same_tag b.tag a.tag && x) (part_at a.part b.part ∙ same_part-flip a.part b.part)

module _ (entries : List Entry) (old : PassedBatches) (batch : Batch) (key : BatchKey) (of : key ≡ record { tag = batch.tag; part = batch.part }) (b : Bool) (test : IsTrue b ↔ MayStand entries old batch key) where
  first_is : (frames : List DataEntry) → ArePassedBatches old frames → is_some (get key_order old.batches key) ≡ list_any (is_batch_of batch.tag batch.part) (batches_of frames)
  first_is frames kept = kept.batches key ∙ ap (λ (k : BatchKey). list_any (is_batch_of k.tag k.part) (batches_of frames)) of

  here : (frames : List DataEntry) → ArePassedBatches old frames → IsTrue b ↔ IsAllowedData entries frames (InBatch batch)
  here frames kept = (
    λ told. let may = test.0 told in record { known = may.known; first = sym (first_is frames kept) ∙ may.first; lines = recursion_from_All IsLine batch.values may.lines },
    λ allowed. test.1 (record { known = allowed.known; first = first_is frames kept ∙ allowed.first; lines = All-from_recursion IsLine batch.values allowed.lines }),
  )

  pub batch_not : b ≡ false → (new : PassedBatches) → TakesData entries old (InBatch batch) new false
  batch_not is new = record { fits = λ frames kept. never (refuted b (here frames kept) is); taken = λ frames kept e. cc }

  pub takes_batch : b ≡ true → (new : PassedBatches)
      → ((q : BatchKey) → get key_order new.batches q ≡ cond (is_at (key_order key) q) (Some true) (get key_order old.batches q))
      → new.there ≡ old.there ++ batch.tag ∷ [] → new.marked ≡ old.marked → TakesData entries old (InBatch batch) new true
  takes_batch is new rows t m = record {
    fits = λ frames kept. always ((here frames kept).0 is);
    taken = λ frames kept e. record {
      batches = λ q.
          is_some-cond (is_at (key_order key) q) (get key_order new.batches q) (get key_order old.batches q) (rows q)
          ∙ ap (λ (x : Bool). x || is_at (key_order key) q) (kept.batches q)
          ∙ ap (λ (k : BatchKey). list_any (is_batch_of q.tag q.part) (batches_of frames) || is_at (key_order k) q) of
          ∙ ap (λ (x : Bool). list_any (is_batch_of q.tag q.part) (batches_of frames) || x)
          (key_at (record { tag = batch.tag; part = batch.part }) q ∙ sym (or_false (is_batch_of q.tag q.part batch)))
          ∙ sym (list_any-append (is_batch_of q.tag q.part) (batches_of frames) (batch ∷ []))
          ∙ ap (list_any (is_batch_of q.tag q.part)) (sym (filter_map-append batch_in frames (InBatch batch ∷ [])));
      there = t ∙ ap (λ (l : List Tag). l ++ batch.tag ∷ []) kept.there ∙ sym (filter_map-append tag_in frames (InBatch batch ∷ []));
      marked = m ∙ kept.marked ∙ sym (append-nil (filter_map data_mark frames)) ∙ sym (filter_map-append data_mark frames (InBatch batch ∷ []));
    };
  }

module _ (entries : List Entry) (old : PassedBatches) (tag : Tag) (committed : Bool) (b : Bool) (test : IsTrue b ↔ IsAllowedMark entries old.there old.marked tag committed) where
  there_is : (frames : List DataEntry) → ArePassedBatches old frames → IsTrue b ↔ IsAllowedData entries frames (Mark tag committed)
  there_is frames kept =
      subst (λ (l : List Tag). IsTrue b ↔ IsAllowedMark entries (filter_map tag_in frames) l tag committed) kept.marked
      (subst (λ (l : List Tag). IsTrue b ↔ IsAllowedMark entries l old.marked tag committed) kept.there test)

  pub mark_not : b ≡ false → (new : PassedBatches) → TakesData entries old (Mark tag committed) new false
  mark_not is new = record { fits = λ frames kept. never (refuted b (there_is frames kept) is); taken = λ frames kept e. cc }

  pub takes_mark : b ≡ true → (new : PassedBatches) → new.batches ≡ old.batches → new.there ≡ old.there → new.marked ≡ old.marked ++ tag ∷ []
      → TakesData entries old (Mark tag committed) new true
  takes_mark is new r t m = record {
    fits = λ frames kept. always ((there_is frames kept).0 is);
    taken = λ frames kept e. record {
      batches = λ q. ap (λ rows. is_some (get key_order rows q)) r ∙ kept.batches q
          ∙ ap (list_any (is_batch_of q.tag q.part)) (sym (append-nil (batches_of frames)) ∙ sym (filter_map-append batch_in frames (Mark tag committed ∷ [])));
      there = t ∙ kept.there ∙ sym (append-nil (filter_map tag_in frames)) ∙ sym (filter_map-append tag_in frames (Mark tag committed ∷ []));
      marked = m ∙ ap (λ (l : List Tag). l ++ tag ∷ []) kept.marked ∙ sym (filter_map-append data_mark frames (Mark tag committed ∷ []));
    };
  }

-- a walk over the whole log
pub record WalkedData (entries : List Entry) (frames : List DataEntry) (at : ℕ) (now : PassedBatches) : Type 0 where
  pub each : EachFrom (IsAllowedData entries) [] (take at frames)
  pub kept : ArePassedBatches now (take at frames)

module _ (entries : List Entry) (frames : List DataEntry) (at : ℕ) (now : PassedBatches) (walked : WalkedData entries frames at now) (x : DataEntry) (within : at < length frames) (is : x ≡ get_or frames at x) (new : PassedBatches) (b : Bool) (step : TakesData entries now x new b) where
  pub data_more : b ≡ true → WalkedData entries frames (at + 1) new
  data_more told = record {
    each = goes_on (IsAllowedData entries) [] frames at walked.each x within is ((step.fits (take at frames) walked.kept).0 told);
    kept = subst (ArePassedBatches new) (sym (taken_more (IsAllowedData entries) [] frames at walked.each x within is)) (step.taken (take at frames) walked.kept told);
  }

  pub data_lacks : b ≡ false → IsFirstLacking (IsAllowedData entries) frames at
  data_lacks not = first_lacks (IsAllowedData entries) frames at walked.each x within is (refuted b (step.fits (take at frames) walked.kept) not)
