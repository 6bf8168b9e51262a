-- The rows of the tables that one entry changes: a part's, whose end was moved by a span, a producer's, whose epoch was
-- raised, and a transaction's, which is committed.
use Rattle.std.proofs.Common.{◌≡◌, ℕ, ◌+◌, Bool, true, false, ◌&&◌, cond, Option, Some, None, is_some, IsSome, unwrap_or, refl, sym, ap, subst, ◌∙◌, Ordering}
use Rattle.std.specs.Bool.{Decides}
use Rattle.std.specs.BTreeMap.{BTreeMap, get, is_at}
use Rattle.cw_types.specs.declared.ids.Tid.{Tid}
use Rattle.cw_types.specs.declared.ids.Tag.{Tag}
use Rattle.cw_types.specs.declared.ids.PartKey.{PartKey}
use Rattle.cw_types.specs.declared.ids.Span.{Span}
use Rattle.cw_txn.specs.declared.history.History.{History}
use Rattle.cw_types.specs.Same.{same_tid, same_tag, same_part, tid_order, tag_order, part_order}
use Rattle.cw_txn.specs.History.{unset, after_span}
use Rattle.cw_txn.specs.Tables.{committed_at, history_at, HasPart, HasTag, RaisesRow, RaisesEpoch, MovesRow, ended}
use Rattle.cw_types.proofs.SameLemmas.{tid_at, same_tid-flip, same_tid-Decides, tag_at, same_tag-flip, same_tag-Decides, part_at, same_part-flip, same_part-Decides}
use Rattle.cw_tables.proofs.RowLemmas.{value-set, value-moved}

-- no row reads as the missing one
missing_is : {A : Type 0} (f : A → A) (m : A) (o : Option A) → is_some o ≡ false → f m ≡ f (unwrap_or o m)
missing_is f m None none = refl
missing_is f m (Some h) none = cc

some_row : {A : Type 0} (b : Bool) (row : A) (o : Option A) → IsSome o → IsSome (cond b (Some row) o)
some_row true row o some = refl
some_row false row o some = some

-- a row that was changed where it is there, in a table whose order ties just the same keys and in which a key without a
-- row has m
module _ {K A : Type 0} (order : K → K → Ordering) (same : K → K → Bool) (at : (a b : K) → is_at (order a) b ≡ same a b)
    (flip : (a b : K) → same a b ≡ same b a) (tells : (a b : K) → Decides (same a b) (a ≡ b)) (m : A) (f : A → A)
    (old new : BTreeMap K A) (key : K) (there : Bool) (is : there ≡ is_some (get order old key)) where
  abbrev value : BTreeMap K A → K → A
  value table q = unwrap_or (get order table q) m

  module _ (set : (q : K) → get order new q ≡ cond (there && is_at (order key) q) (Some (f (value old key))) (get order old q)) where
    set_if : (b : Bool) → there ≡ b → (q : K) → get order new q ≡ cond (b && is_at (order key) q) (Some (f (value old key))) (get order old q)
    set_if b here q = set q ∙ ap (λ (b : Bool). cond (b && is_at (order key) q) (Some (f (value old key))) (get order old q)) here

    changed_there : there ≡ true → (q : K) → value new q ≡ cond (same q key) (f (value old q)) (value old q)
    changed_there here = value-moved (get order) (λ (a b : K). is_at (order a) b) same at flip tells m old new key (f (value old key)) (set_if true here) f refl

    -- and a new one where it isn't
    changed_in_new : (made : BTreeMap K A) (own : K) → own ≡ key → there ≡ false
        → ((q : K) → get order made q ≡ cond (is_at (order own) q) (Some (f m)) (get order new q)) → (q : K) → value made q ≡ cond (same q key) (f (value old q)) (value old q)
    changed_in_new made own same_key absent row = value-moved (get order) (λ (a b : K). is_at (order a) b) same at flip tells m old made key (f m)
        (λ q. row q ∙ ap (λ (k : K). cond (is_at (order k) q) (Some (f m)) (get order new q)) same_key ∙ ap (λ (o : Option A). cond (is_at (order key) q) (Some (f m)) o) (set_if false absent q))
        f (missing_is f m (get order old key) (sym is ∙ absent))

    rows_kept : (q : K) → IsSome (get order old q) → IsSome (get order new q)
    rows_kept q has = subst (λ (o : Option A). IsSome o) (sym (set q)) (some_row (there && is_at (order key) q) (f (value old key)) (get order old q) has)

module _ (old new : BTreeMap PartKey History) (span : Span) (there : Bool) (is : there ≡ is_some (get part_order old span.part)) (set : MovesRow there old new span) where
  pub moved_there : there ≡ true → (part : PartKey) → history_at new part ≡ after_span part (history_at old part) span
  moved_there = changed_there part_order same_part part_at same_part-flip same_part-Decides unset (λ h. ended h span) old new span.part there is set

  -- in a row that was made for it
  pub moved_in_new : (made : BTreeMap PartKey History) (own : PartKey) → own ≡ span.part → there ≡ false
      → ((q : PartKey) → get part_order made q ≡ cond (is_at (part_order own) q) (Some (ended unset span)) (get part_order new q)) → (part : PartKey) → history_at made part ≡ after_span part (history_at old part) span
  moved_in_new = changed_in_new part_order same_part part_at same_part-flip same_part-Decides unset (λ h. ended h span) old new span.part there is set

  pub parts_kept : (q : PartKey) → HasPart old q → HasPart new q
  parts_kept = rows_kept part_order same_part part_at same_part-flip same_part-Decides unset (λ h. ended h span) old new span.part there is set

module _ (old new : BTreeMap Tid ℕ) (tid : Tid) (there : Bool) (is : there ≡ is_some (get tid_order old tid)) (set : RaisesRow there old new tid) where
  pub raised_there : there ≡ true → RaisesEpoch old new tid
  raised_there = changed_there tid_order same_tid tid_at same_tid-flip same_tid-Decides 0 (λ n. n + 1) old new tid there is set

  -- in a row that was made for it
  pub raised_in_new : (made : BTreeMap Tid ℕ) (own : Tid) → own ≡ tid → there ≡ false
      → ((q : Tid) → get tid_order made q ≡ cond (is_at (tid_order own) q) (Some 1) (get tid_order new q)) → RaisesEpoch old made tid
  raised_in_new = changed_in_new tid_order same_tid tid_at same_tid-flip same_tid-Decides 0 (λ n. n + 1) old new tid there is set

  pub epochs_kept : (q : Tid) → IsSome (get tid_order old q) → IsSome (get tid_order new q)
  epochs_kept = rows_kept tid_order same_tid tid_at same_tid-flip same_tid-Decides 0 (λ n. n + 1) old new tid there is set

-- a transaction's row that says yes
module _ (old new : BTreeMap Tag Bool) (tag : Tag) (set : (q : Tag) → get tag_order new q ≡ cond (is_at (tag_order tag) q) (Some true) (get tag_order old q)) where
  pub tag_set : (q : Tag) → committed_at new q ≡ cond (same_tag q tag) true (committed_at old q)
  tag_set = value-set (get tag_order) (λ (a b : Tag). is_at (tag_order a) b) same_tag tag_at same_tag-flip same_tag-Decides false old new tag true set

  pub tags_kept : (q : Tag) → HasTag old q → HasTag new q
  tags_kept q has = subst (λ (o : Option Bool). IsSome o) (sym (set q)) (some_row (is_at (tag_order tag) q) true (get tag_order old q) has)
