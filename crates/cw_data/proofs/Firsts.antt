-- The first transaction of the order that has ended is the first of the log that has and has no marker.
use Rattle.std.proofs.Common.{◌≡◌, ℕ, zero, suc, ◌+◌, ◌<◌, Bool, true, false, ◌&&◌, cond, List, [], ◌∷◌, ◌++◌, Option, None, Some, is_none, refl, sym, ap, subst, ◌∙◌, arith}
use Rattle.std.specs.Prelude.{slice_get}
use Rattle.std.specs.Option.{option_or, unwrap_or}
use Rattle.std.specs.List.{find, filter_map, cons_option, AllByRecursion}
use Rattle.std.specs.List.Sorted.{IsStrictlySortedBy}
use Rattle.std.specs.BTreeMap.{BTreeMap, IsOrdered, get, is_at}
use Rattle.std.specs.Map.{lookup, keys_of}
use Rattle.std.specs.Ordering.{nat_cmp}
use Rattle.std.specs.declared.cmp.Ordering.TheVariants.{Less}
use Rattle.std.proofs.lemmas.Bool.{true≢false}
use Rattle.std.proofs.lemmas.Bool.Decides.{nat_tests}
use Rattle.std.proofs.lemmas.Cmp.{nat_cmp_total}
use Rattle.std.proofs.lemmas.List.Elements.{All-head, All-tail}
use Rattle.std.proofs.lemmas.Map.Keys.{sorted_head, sorted_tail}
use Rattle.std.proofs.lemmas.Map.Views.{All-found}
use Rattle.cw_types.specs.declared.ids.Tag.{Tag}
use Rattle.cw_types.specs.declared.verdict.Verdict.{Verdict}
use Rattle.cw_types.specs.Same.{same_tag}
use Rattle.cw_types.specs.Verdict.{has_ended}
use Rattle.cw_types.proofs.SameLemmas.{same_tag-Decides}
use Rattle.cw_data.specs.declared.entry.Batch.{Batch}
use Rattle.cw_data.specs.declared.entry.DataEntry.{DataEntry}
use Rattle.cw_data.specs.declared.entry.DataEntry.TheVariants.{Batch as InBatch, Mark}
use Rattle.cw_data.specs.Log.{marker_of, tag_in, first_unmarked}
use Rattle.cw_data.specs.Rows.{Marks, batch_in}
use Rattle.cw_data.specs.Unmarked.{is_batch_with, places_from, is_place, begins_with, begins_at, stands_at, ended_of, ended_in, first_ended}
use Rattle.cw_data.proofs.Waits.{by_test, first_here}

-- ---- among the entries

module _ (test : Tag → Bool) where
  record Found (entries : List DataEntry) (tag : Tag) : Type 0 where
    at : ℕ
    batch : Batch
    there : slice_get entries at ≡ Some (InBatch batch)
    is : batch.tag ≡ tag
    passes : test tag ≡ true
    first : (j : ℕ) (b : Batch) → j < at → slice_get entries j ≡ Some (InBatch b) → test b.tag ≡ false

  found : (entries : List DataEntry) (tag : Tag) → find test (filter_map tag_in entries) ≡ Some tag → Found entries tag
  found [] tag e = absurd (cc e)
  found (InBatch batch ∷ entries) tag e = by_test (test batch.tag)
      (λ here.
      let one : batch.tag ≡ tag = cc (sym (ap (λ (b : Bool). cond b (Some batch.tag) (find test (filter_map tag_in entries))) here) ∙ e) in
      record { at = 0; batch = batch; there = refl; is = one; passes = ap test (sym one) ∙ here; first = λ j b less at. absurd (omega (arith, less)) })
      (λ there.
      let rest = found entries tag (sym (ap (λ (b : Bool). cond b (Some batch.tag) (find test (filter_map tag_in entries))) there) ∙ e) in
      record { at = suc rest.at; batch = rest.batch; there = rest.there; is = rest.is; passes = rest.passes; first = before rest batch there })
    where
      before : (rest : Found entries tag) (batch : Batch) → test batch.tag ≡ false → (j : ℕ) (b : Batch) → j < suc rest.at → slice_get (InBatch batch ∷ entries) j ≡ Some (InBatch b) → test b.tag ≡ false
      before rest batch fails zero b less at = let one : batch ≡ b = cc at in ap (λ (x : Batch). test x.tag) (sym one) ∙ fails
      before rest batch fails (suc j) b less at = rest.first j b (omega (arith, less)) at
  found (Mark other committed ∷ entries) tag e =
      let rest = found entries tag e in
      record { at = suc rest.at; batch = rest.batch; there = rest.there; is = rest.is; passes = rest.passes; first = before rest }
    where
      before : (rest : Found entries tag) (j : ℕ) (b : Batch) → j < suc rest.at → slice_get (Mark other committed ∷ entries) j ≡ Some (InBatch b) → test b.tag ≡ false
      before rest zero b less at = absurd (cc at)
      before rest (suc j) b less at = rest.first j b (omega (arith, less)) at

  none_found : (entries : List DataEntry) → find test (filter_map tag_in entries) ≡ None → (j : ℕ) (b : Batch) → slice_get entries j ≡ Some (InBatch b) → test b.tag ≡ false
  none_found [] e j b at = absurd (cc at)
  none_found (InBatch batch ∷ entries) e zero b at = let one : batch ≡ b = cc at in by_test (test batch.tag)
      (λ here. absurd (cc (sym (ap (λ (b : Bool). cond b (Some batch.tag) (find test (filter_map tag_in entries))) here) ∙ e)))
      (λ fails. ap (λ (x : Batch). test x.tag) (sym one) ∙ fails)
  none_found (InBatch batch ∷ entries) e (suc j) b at = by_test (test batch.tag)
      (λ here. absurd (cc (sym (ap (λ (b : Bool). cond b (Some batch.tag) (find test (filter_map tag_in entries))) here) ∙ e)))
      (λ fails. none_found entries (sym (ap (λ (b : Bool). cond b (Some batch.tag) (find test (filter_map tag_in entries))) fails) ∙ e) j b at)
  none_found (Mark other committed ∷ entries) e zero b at = absurd (cc at)
  none_found (Mark other committed ∷ entries) e (suc j) b at = none_found entries e j b at

-- ---- in the order

abbrev Rows : Type 0
Rows = List (ℕ × Bool)

at_is : (n k : ℕ) → is_at (nat_cmp n) k ≡ true → n ≡ k
at_is n k e = grind (arith, nat_tests)

below : (k n : ℕ) → nat_cmp k n ≡ Less → k < n
below k n e = grind (arith, nat_tests)

-- what is found at a key is above what is above all keys
above_all : (k n : ℕ) (rows : Rows) (v : Bool) → AllByRecursion (λ y. nat_cmp k y ≡ Less) (keys_of rows) → lookup (is_at (nat_cmp n)) rows ≡ Some v → k < n
above_all k n [] v all e = absurd (cc e)
above_all k n (r ∷ rows) v all e = by_test (is_at (nat_cmp n) r.0)
    (λ here. let same : n ≡ r.0 = at_is n r.0 here in let lower : k < r.0 = below k r.0 all.0 in omega (arith, same, lower))
    (λ there. above_all k n rows v all.1 (sym (ap (λ (b : Bool). cond b (Some r.1) (lookup (is_at (nat_cmp n)) rows)) there) ∙ e))

module _ (verdict : Tag → Verdict) (entries : List DataEntry) where
  rows_none : (rows : Rows) → AllByRecursion (λ r. ended_in verdict entries r ≡ None) rows → first_ended verdict entries rows ≡ None
  rows_none [] all = refl
  rows_none (r ∷ rows) all = ap (λ o. option_or o (first_ended verdict entries rows)) all.0 ∙ rows_none rows all.1

  rows_some : (n : ℕ) (v : Bool) (tag : Tag) → ended_in verdict entries (n, v) ≡ Some tag → (rows : Rows) → IsStrictlySortedBy nat_cmp (keys_of rows) → lookup (is_at (nat_cmp n)) rows ≡ Some v
      → AllByRecursion (λ r. r.0 < n → ended_in verdict entries r ≡ None) rows → first_ended verdict entries rows ≡ Some tag
  rows_some n v tag is [] sorted e all = absurd (cc e)
  rows_some n v tag is (r ∷ rows) sorted e all = by_test (is_at (nat_cmp n) r.0)
      (λ here.
      let row : r.1 ≡ v = cc (sym (ap (λ (b : Bool). cond b (Some r.1) (lookup (is_at (nat_cmp n)) rows)) here) ∙ e) in
      let key : r.0 ≡ n = sym (at_is n r.0 here) in
      ap (λ o. option_or o (first_ended verdict entries rows)) (ap (λ k. ended_in verdict entries (k, r.1)) key ∙ ap (λ w. ended_in verdict entries (n, w)) row ∙ is))
      (λ there.
      let later : lookup (is_at (nat_cmp n)) rows ≡ Some v = sym (ap (λ (b : Bool). cond b (Some r.1) (lookup (is_at (nat_cmp n)) rows)) there) ∙ e in
      let lower : r.0 < n = above_all r.0 n rows v (sorted_head nat_cmp r.0 (keys_of rows) sorted) later in
      ap (λ o. option_or o (first_ended verdict entries rows)) (all.0 lower) ∙ rows_some n v tag is rows (sorted_tail nat_cmp r.0 (keys_of rows) sorted) later all.1)

-- a transaction that has a marker or hasn't ended isn't found
unended : (m h : Bool) (ps : List ℕ) (n : ℕ) (tag : Tag) → (m && h) ≡ false → cond (is_place (slice_get (cond m ps []) 0) n) (cond h (Some tag) None) None ≡ None
unended false h ps n tag fails = refl
unended true false ps n tag fails = none_both (is_place (slice_get ps 0) n)
  where
    none_both : (b : Bool) → cond {A = Option Tag} b None None ≡ None
    none_both true = refl
    none_both false = refl
unended true true ps n tag fails = absurd (true≢false fails)

row_found : (o : Option Bool) → unwrap_or o false ≡ true → o ≡ Some true
row_found None e = absurd (true≢false (sym e))
row_found (Some b) e = ap Some e

module _ (verdict : Tag → Verdict) (marks : Marks) (entries : List DataEntry) (same : (tag : Tag) → marks tag ≡ marker_of tag entries)
    (order : BTreeMap ℕ Bool) (ordered : IsOrdered nat_cmp order) (stands : (n : ℕ) → stands_at order n ≡ begins_at marks entries n) where
  abbrev waits : Tag → Bool
  waits tag = is_none (marker_of tag entries) && has_ended (verdict tag)

  all_rows : (P : ℕ × Bool → Type 0) → ((e : ℕ × Bool) → begins_at marks entries e.0 ≡ e.1 → P e) → AllByRecursion P order.entries
  all_rows P each = by order.entries (All-found nat_cmp_total order ordered)
    where
      by : (rows : Rows) → Rattle.std.specs.List.All (λ e. get nat_cmp order e.0 ≡ Some e.1) rows → AllByRecursion P rows
      by [] all = tt
      by (e ∷ rows) all = (
        each e (sym (stands e.0) ∙ ap (λ o. unwrap_or o false) (All-head (λ x. get nat_cmp order x.0 ≡ Some x.1) e rows all)),
        by rows (All-tail (λ x. get nat_cmp order x.0 ≡ Some x.1) e rows all),
      )

  -- what doesn't wait isn't found
  skipped : (n : ℕ) → ((b : Batch) → slice_get entries n ≡ Some (InBatch b) → waits b.tag ≡ false) → ended_in verdict entries (n, begins_at marks entries n) ≡ None
  skipped n fails = by (slice_get entries n) refl
    where
      by : (o : Option DataEntry) → slice_get entries n ≡ o → cond (begins_with marks entries n (batch_in o)) (ended_of verdict (batch_in o)) None ≡ None
      by None at = refl
      by (Some (InBatch b)) at = unended (is_none (marks b.tag)) (has_ended (verdict b.tag)) (places_from b.tag 0 entries) n b.tag (ap (λ m. is_none m && has_ended (verdict b.tag)) (same b.tag) ∙ fails b at)
      by (Some (Mark tag committed)) at = refl

  -- and what is found begins at its place
  module _ (tag : Tag) (one : Found waits entries tag) where
    both : (a b : Bool) → (a && b) ≡ true → (a ≡ true) × (b ≡ true)
    both true true e = (refl, refl)
    both true false e = absurd (true≢false (sym e))
    both false b e = absurd (true≢false (sym e))

    passes : (is_none (marks one.batch.tag) ≡ true) × (has_ended (verdict one.batch.tag) ≡ true)
    passes = both (is_none (marks one.batch.tag)) (has_ended (verdict one.batch.tag)) (ap (λ m. is_none m && has_ended (verdict one.batch.tag)) (same one.batch.tag) ∙ ap waits one.is ∙ one.passes)

    others : (j : ℕ) (x : DataEntry) → j < one.at → slice_get entries j ≡ Some x → is_batch_with one.batch.tag x ≡ false
    others j (InBatch b) less at = by_test (same_tag one.batch.tag b.tag)
        (λ same. absurd (true≢false (sym (ap waits one.is ∙ one.passes) ∙ ap waits ((same_tag-Decides one.batch.tag b.tag).0 same) ∙ one.first j b less at)))
        (λ apart. apart)
    others j (Mark other committed) less at = refl

    here : begins_at marks entries one.at ≡ true
    here =
        let none : 0 + one.at ≡ one.at = omega arith in
        ap (λ o. begins_with marks entries one.at (batch_in o)) one.there
        ∙ ap (λ (b : Bool). is_place (slice_get (cond b (places_from one.batch.tag 0 entries) []) 0) one.at) passes.0
        ∙ subst (λ n. is_place (slice_get (places_from one.batch.tag 0 entries) 0) n ≡ true) none (first_here one.batch.tag 0 one.at entries (InBatch one.batch) one.there ((same_tag-Decides one.batch.tag one.batch.tag).1 refl) others)

    ended : ended_in verdict entries (one.at, true) ≡ Some tag
    ended = ap (λ o. ended_of verdict (batch_in o)) one.there ∙ ap (λ (b : Bool). cond b (Some one.batch.tag) None) passes.1 ∙ ap Some one.is

  by_found : (o : Option Tag) → first_unmarked verdict entries ≡ o → first_ended verdict entries order.entries ≡ o
  by_found None e = rows_none verdict entries order.entries (all_rows (λ r. ended_in verdict entries r ≡ None)
      (λ r is. subst (λ (b : Bool). ended_in verdict entries (r.0, b) ≡ None) is (skipped r.0 (λ b at. none_found waits entries e r.0 b at))))
  by_found (Some tag) e =
      let one = found waits entries tag e in
      rows_some verdict entries one.at true tag (ended tag one) order.entries ordered (row_found (get nat_cmp order one.at) (stands one.at ∙ here tag one))
      (all_rows (λ r. r.0 < one.at → ended_in verdict entries r ≡ None)
      (λ r is less. subst (λ (b : Bool). ended_in verdict entries (r.0, b) ≡ None) is (skipped r.0 (λ b at. one.first r.0 b less at))))

  pub first_is : first_ended verdict entries order.entries ≡ first_unmarked verdict entries
  first_is = by_found (first_unmarked verdict entries) refl

-- ---- a loop over the order

pub so_far : (verdict : Tag → Verdict) (entries : List DataEntry) (rows rest : Rows) → first_ended verdict entries rows ≡ None → first_ended verdict entries (rows ++ rest) ≡ first_ended verdict entries rest
so_far verdict entries [] rest none = refl
so_far verdict entries (row ∷ rows) rest none =
    let two = both (ended_in verdict entries row) (first_ended verdict entries rows) none in
    ap (λ o. option_or o (first_ended verdict entries (rows ++ rest))) two.0 ∙ so_far verdict entries rows rest two.1
  where
    both : (a b : Option Tag) → option_or a b ≡ None → (a ≡ None) × (b ≡ None)
    both None b e = (refl, e)
    both (Some t) b e = absurd (cc e)
