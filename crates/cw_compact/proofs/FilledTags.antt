-- The transactions that have records, behind one entry more, and which entries stay by them.
use Rattle.std.proofs.Common.{◌≡◌, ℕ, ◌+◌, Bool, true, false, not, cond, ◌||◌, ◌==◌, List, [], ◌∷◌, ◌++◌, length, take, refl, sym, ap, ◌∙◌}
use Rattle.std.specs.List.{filter, filter_map, list_any}
use Rattle.std.specs.BTreeMap.{is_at}
use Rattle.std.specs.BTreeSet.{BTreeSet, contains}
use Rattle.std.proofs.lemmas.List.Elements.{filter-append, filter_map-append}
use Rattle.std.proofs.lemmas.List.Folds.{list_any-append}
use Rattle.cw_types.specs.declared.ids.Tag.{Tag}
use Rattle.cw_types.specs.Same.{tag_order, same_tag}
use Rattle.cw_types.proofs.SameLemmas.{tag_at, same_tag-flip}
use Rattle.cw_bytes.specs.declared.applied.Applied.{Applied}
use Rattle.cw_offset.specs.declared.body.OffsetEntry.{OffsetEntry}
use Rattle.cw_offset.specs.declared.body.OffsetEntry.TheVariants.{Records, Mark}
use Rattle.cw_offset.specs.Log.{has_records, offset_tag}
use Rattle.cw_offset.specs.Compaction.{is_filled, offset_stays}
use Rattle.cw_compact.specs.Filled.{stays_by}

pub filled_put : (tag q : Tag) (records : List Applied) (old new : BTreeSet Tag) → not (length records == 0) ≡ true
    → contains tag_order new q ≡ cond (is_at (tag_order tag) q) true (contains tag_order old q)
    → contains tag_order new q ≡ (contains tag_order old q || has_records q (filter is_filled (Records tag records ∷ [])))
filled_put tag q records old new some put =
    put
    ∙ ap (λ (b : Bool). cond b true (contains tag_order old q)) (tag_at tag q ∙ same_tag-flip tag q)
    ∙ turned (same_tag q tag) (contains tag_order old q)
    ∙ ap (λ (b : Bool). contains tag_order old q || has_records q (cond b (Records tag records ∷ []) [])) (sym some)
  where
    turned : (a b : Bool) → cond a true b ≡ (b || (a || false))
    turned true true = refl
    turned true false = refl
    turned false true = refl
    turned false false = refl

pub filled_more : (q : Tag) (log : List OffsetEntry) (i : ℕ) (e : OffsetEntry) → take (i + 1) log ≡ take i log ++ e ∷ []
    → (has_records q (filter is_filled (take i log)) || has_records q (filter is_filled (e ∷ []))) ≡ has_records q (filter is_filled (take (i + 1) log))
filled_more q log i e more =
    sym (ap (λ (l : List OffsetEntry). has_records q (filter is_filled l)) more
    ∙ ap (has_records q) (filter-append is_filled (take i log) (e ∷ []))
    ∙ ap (list_any (same_tag q)) (filter_map-append offset_tag (filter is_filled (take i log)) (filter is_filled (e ∷ [])))
    ∙ list_any-append (same_tag q) (filter_map offset_tag (filter is_filled (take i log))) (filter_map offset_tag (filter is_filled (e ∷ []))))

module _ (filled : BTreeSet Tag) (whole : List OffsetEntry) (known : (tag : Tag) → contains tag_order filled tag ≡ has_records tag (filter is_filled whole)) where
  one_stays : (e : OffsetEntry) → stays_by filled e ≡ offset_stays whole e
  one_stays (Records tag records) = refl
  one_stays (Mark mark) = known mark.tag

  pub all_stay : (l : List OffsetEntry) → filter (stays_by filled) l ≡ filter (offset_stays whole) l
  all_stay [] = refl
  all_stay (e ∷ l) =
      ap (λ (b : Bool). cond b (e ∷ filter (stays_by filled) l) (filter (stays_by filled) l)) (one_stays e)
      ∙ ap (λ (r : List OffsetEntry). cond (offset_stays whole e) (e ∷ r) r) (all_stay l)
