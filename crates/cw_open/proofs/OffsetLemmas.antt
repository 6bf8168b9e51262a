-- One frame more of the offset log.
use Rattle.std.proofs.Common.{◌≡◌, ◌↔◌, ℕ, ◌+◌, ◌<◌, ◌≤◌, Bool, true, false, IsTrue, List, [], ◌∷◌, ◌++◌, length, take, get_or, refl, sym, ap, subst, ◌∙◌}
use Rattle.std.specs.List.{list_any, filter_map, flat_map}
use Rattle.std.proofs.lemmas.List.{append-nil}
use Rattle.std.proofs.lemmas.List.Concat.{flat_map-append}
use Rattle.std.proofs.lemmas.List.Elements.{filter_map-append}
use Rattle.cw_types.specs.declared.ids.Tag.{Tag}
use Rattle.cw_types.specs.Same.{same_tag}
use Rattle.cw_bytes.specs.declared.applied.Applied.{Applied}
use Rattle.cw_bytes.specs.declared.mark.Mark.{Mark}
use Rattle.cw_bytes.specs.Frames.{EachFrom}
use Rattle.cw_txn.specs.declared.entry.Entry.{Entry}
use Rattle.cw_offset.specs.declared.body.OffsetEntry.{OffsetEntry}
use Rattle.cw_offset.specs.declared.body.OffsetEntry.TheVariants.{Records, Mark as Marked}
use Rattle.cw_offset.specs.Acceptance.{IsKnown, IsAllowedMark, IsAllowedOffset, IsAllowedStored, AreAllowedRecords}
use Rattle.cw_offset.specs.Log.{offset_records, offset_tag, offset_mark, is_marked}
use Rattle.cw_model.specs.StandsFor.{IsFirstLacking}
use Rattle.cw_open.specs.declared.offsets.PassedOffsets.{PassedOffsets}
use Rattle.cw_open.specs.Judging.{StepsAll}
use Rattle.cw_open.specs.Passed.{ArePassedOffsets, TakesOffsets}
use Rattle.cw_open.proofs.Firsts.{taken_more, goes_on, ends, first_lacks}
use Rattle.cw_open.proofs.Steps.{refuted, never, always}

module _ (entries : List Entry) (old : PassedOffsets) (tag : Tag) (records : List Applied) where
  refused : (b : Bool) → b ≡ false → ((frames : List OffsetEntry) → ArePassedOffsets old frames → AreAllowedRecords entries frames tag records → IsTrue b) → (new : PassedOffsets) → TakesOffsets entries old (Records tag records) new false
  refused b is only new = record {
    fits = λ frames kept. never (λ allowed. let clash : true ≡ false = sym (only frames kept allowed) ∙ is in cc);
    taken = λ frames kept e. cc;
  }

  pub unfit : (b : Bool) → (IsTrue b ↔ (IsKnown entries tag × (list_any (same_tag tag) old.marked ≡ false))) → b ≡ false → (new : PassedOffsets) → TakesOffsets entries old (Records tag records) new false
  unfit b test is new = refused b is
      (λ frames kept allowed. test.1 (allowed.known, ap (list_any (same_tag tag)) kept.marked ∙ allowed.unmarked)) new

  pub unrising : (b : Bool) (rest : List Applied) → StepsAll IsAllowedOffset old.records records rest b → b ≡ false → (new : PassedOffsets) → TakesOffsets entries old (Records tag records) new false
  unrising b rest step is new = refused b is
      (λ frames kept allowed. step.fits.1 (subst (λ (l : List Applied). EachFrom IsAllowedOffset l records) (sym kept.records) allowed.each)) new

  pub takes_records : (b d : Bool) → (IsTrue b ↔ (IsKnown entries tag × (list_any (same_tag tag) old.marked ≡ false))) → b ≡ true
      → (rest : List Applied) → StepsAll IsAllowedOffset old.records records rest d → d ≡ true
      → (new : PassedOffsets) → new.records ≡ rest → new.there ≡ old.there ++ tag ∷ [] → new.marked ≡ old.marked
      → TakesOffsets entries old (Records tag records) new true
  takes_records b d test told rest step all new r t m = record {
    fits = λ frames kept. always (record {
      known = (test.0 told).0;
      unmarked = ap (list_any (same_tag tag)) (sym kept.marked) ∙ (test.0 told).1;
      each = subst (λ (l : List Applied). EachFrom IsAllowedOffset l records) kept.records (step.fits.0 all);
    });
    taken = λ frames kept e. record {
      records = r ∙ step.taken all ∙ ap (λ (l : List Applied). l ++ records) kept.records
          ∙ ap (λ (l : List Applied). flat_map offset_records frames ++ l) (sym (append-nil records)) ∙ sym (flat_map-append offset_records frames (Records tag records ∷ []));
      there = t ∙ ap (λ (l : List Tag). l ++ tag ∷ []) kept.there ∙ sym (filter_map-append offset_tag frames (Records tag records ∷ []));
      marked = m ∙ kept.marked ∙ sym (append-nil (filter_map offset_mark frames)) ∙ sym (filter_map-append offset_mark frames (Records tag records ∷ []));
    };
  }

module _ (entries : List Entry) (old : PassedOffsets) (mark : Mark) (b : Bool) (test : IsTrue b ↔ IsAllowedMark entries old.there old.marked mark.tag mark.committed) where
  here : (frames : List OffsetEntry) → ArePassedOffsets old frames → IsTrue b ↔ IsAllowedStored entries frames (Marked mark)
  here frames kept =
      subst (λ (l : List Tag). IsTrue b ↔ IsAllowedMark entries (filter_map offset_tag frames) l mark.tag mark.committed) kept.marked
      (subst (λ (l : List Tag). IsTrue b ↔ IsAllowedMark entries l old.marked mark.tag mark.committed) kept.there test)

  pub unmarked : b ≡ false → (new : PassedOffsets) → TakesOffsets entries old (Marked mark) new false
  unmarked is new = record { fits = λ frames kept. never (refuted b (here frames kept) is); taken = λ frames kept e. cc }

  pub takes_mark : b ≡ true → (new : PassedOffsets) → new.records ≡ old.records → new.there ≡ old.there → new.marked ≡ old.marked ++ mark.tag ∷ []
      → TakesOffsets entries old (Marked mark) new true
  takes_mark is new r t m = record {
    fits = λ frames kept. always ((here frames kept).0 is);
    taken = λ frames kept e. record {
      records = r ∙ kept.records ∙ sym (append-nil (flat_map offset_records frames)) ∙ sym (flat_map-append offset_records frames (Marked mark ∷ []));
      there = t ∙ kept.there ∙ sym (append-nil (filter_map offset_tag frames)) ∙ sym (filter_map-append offset_tag frames (Marked mark ∷ []));
      marked = m ∙ ap (λ (l : List Tag). l ++ mark.tag ∷ []) kept.marked ∙ sym (filter_map-append offset_mark frames (Marked mark ∷ []));
    };
  }

-- a walk over the whole log
pub record WalkedOffsets (entries : List Entry) (frames : List OffsetEntry) (at : ℕ) (now : PassedOffsets) : Type 0 where
  pub each : EachFrom (IsAllowedStored entries) [] (take at frames)
  pub kept : ArePassedOffsets now (take at frames)

module _ (entries : List Entry) (frames : List OffsetEntry) (at : ℕ) (now : PassedOffsets) (walked : WalkedOffsets entries frames at now) (x : OffsetEntry) (within : at < length frames) (is : x ≡ get_or frames at x) (new : PassedOffsets) (b : Bool) (step : TakesOffsets entries now x new b) where
  pub offsets_more : b ≡ true → WalkedOffsets entries frames (at + 1) new
  offsets_more told = record {
    each = goes_on (IsAllowedStored entries) [] frames at walked.each x within is ((step.fits (take at frames) walked.kept).0 told);
    kept = subst (ArePassedOffsets new) (sym (taken_more (IsAllowedStored entries) [] frames at walked.each x within is)) (step.taken (take at frames) walked.kept told);
  }

  pub offset_lacks : b ≡ false → IsFirstLacking (IsAllowedStored entries) frames at
  offset_lacks not = first_lacks (IsAllowedStored entries) frames at walked.each x within is (refuted b (step.fits (take at frames) walked.kept) not)
