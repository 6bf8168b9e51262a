-- The first transaction of the order that has ended is the first of those that wait.
use Rattle.std.proofs.Common.{◌≡◌, ℕ, ◌+◌, ◌≤◌, ◌<◌, Bool, true, false, cond, ◌&&◌, List, [], ◌∷◌, ◌++◌, Option, None, Some, refl, sym, ap, ◌∙◌, arith}
use Rattle.std.specs.Bool.{⊤}
use Rattle.std.specs.Option.{option_or, option_and_then, option_map_or, is_none, unwrap_or}
use Rattle.std.specs.List.{find, filter_map, cons_option, AllByRecursion}
use Rattle.std.specs.List.Sorted.{IsStrictlySortedBy}
use Rattle.std.specs.BTreeMap.{BTreeMap, IsOrdered, get, is_at, values, keys}
use Rattle.std.specs.Map.{lookup, keys_of, values_of}
use Rattle.std.specs.Ordering.{nat_cmp}
use Rattle.std.specs.declared.cmp.Ordering.TheVariants.{Less}
use Rattle.std.proofs.lemmas.Bool.{true≢false}
use Rattle.std.proofs.lemmas.Bool.Decides.{nat_tests}
use Rattle.std.proofs.lemmas.Cmp.{nat_cmp_total}
use Rattle.std.proofs.lemmas.List.Elements.{All-head, All-tail}
use Rattle.std.proofs.lemmas.Map.Keys.{sorted_head, sorted_tail}
use Rattle.std.proofs.lemmas.Map.Views.{All-found}
use Rattle.cw_types.specs.declared.ids.Tag.{Tag}
use Rattle.cw_types.specs.declared.verdict.Verdict.{Verdict}
use Rattle.cw_types.specs.Same.{same_tag}
use Rattle.cw_types.specs.Verdict.{has_ended}
use Rattle.cw_types.proofs.SameLemmas.{same_tag-Decides}
use Rattle.cw_offset.specs.declared.call.OffsetCall.{OffsetCall}
use Rattle.cw_offset.specs.declared.call.OffsetCall.TheVariants.{Stand, Put, Commit, Abort, Set}
use Rattle.cw_offset.specs.declared.tables.Tables.{Tables}
use Rattle.cw_offset.specs.Offsets.{marker_of, tag_in, if_unmarked, waiting, first_unmarked}
use Rattle.cw_offset.specs.Tables.{is_stand_of, first_at, stands_at, if_ended, first_ended, Keeps}
use Rattle.cw_offset.proofs.Kept.{some_is, none_is, test_cases}

-- ---- among the calls

-- the transaction of a call that waits
abbrev waits_by : OffsetCall → List OffsetCall → Option Tag
waits_by call calls = option_and_then (if_unmarked calls) (tag_in call)

is_by : (t other : Tag) (m n : Option Bool) → (same_tag t other ≡ true → m ≡ n) → (same_tag t other && is_none m) ≡ option_map_or (same_tag t) (cond (is_none n) (Some other) None) false
is_by t other m n same = test_cases (same_tag t other)
    (λ one. ap (λ (b : Bool). b && is_none m) one ∙ ap is_none (same one) ∙ by_none n (same_tag t other) one)
    (λ apart. ap (λ (b : Bool). b && is_none m) apart ∙ by_other n (same_tag t other) apart)
  where
    by_none : (n : Option Bool) (b : Bool) → same_tag t other ≡ true → is_none n ≡ option_map_or (same_tag t) (cond (is_none n) (Some other) None) false
    by_none None b one = sym one
    by_none (Some c) b one = refl

    by_other : (n : Option Bool) (b : Bool) → same_tag t other ≡ false → false ≡ option_map_or (same_tag t) (cond (is_none n) (Some other) None) false
    by_other None b apart = sym apart
    by_other (Some c) b apart = refl

-- whether a call is the first of its transaction
head_is : (t : Tag) (call : OffsetCall) (calls : List OffsetCall) → (is_stand_of t call && is_none (marker_of t calls)) ≡ option_map_or (same_tag t) (waits_by call calls) false
head_is t (Stand other) calls = is_by t other (marker_of t calls) (marker_of other calls) (λ one. ap (λ (k : Tag). marker_of k calls) ((same_tag-Decides t other).0 one))
head_is t (Put other part to) calls = is_by t other (marker_of t calls) (marker_of other calls) (λ one. ap (λ (k : Tag). marker_of k calls) ((same_tag-Decides t other).0 one))
head_is t (Commit other) calls = refl
head_is t (Abort other) calls = refl
head_is t (Set part to) calls = refl

first_next : (t : Tag) (call : OffsetCall) (calls : List OffsetCall) (place : ℕ) → first_at t place (call ∷ calls) ≡ cond (option_map_or (same_tag t) (waits_by call calls) false) (Some place) (first_at t (place + 1) calls)
first_next t call calls place = ap (λ (b : Bool). cond b (Some place) (first_at t (place + 1) calls)) (head_is t call calls)

from_chosen : (b : Bool) (place m : ℕ) (o : Option ℕ) → cond b (Some place) o ≡ Some m → (o ≡ Some m → place ≤ m) → place ≤ m
from_chosen true place m o e more = let same : place ≡ m = some_is place m e in omega (arith, same)
from_chosen false place m o e more = more e

first_from : (t : Tag) (calls : List OffsetCall) (place m : ℕ) → first_at t place calls ≡ Some m → place ≤ m
first_from t [] place m e = none_is m e
first_from t (call ∷ calls) place m e =
    from_chosen (is_stand_of t call && is_none (marker_of t calls)) place m (first_at t (place + 1) calls) e (λ more. let later = first_from t calls (place + 1) m more in omega (arith, later))

module _ (ended : Tag → Bool) where
  -- what has ended isn't what hasn't
  apart : (t h : Tag) → ended t ≡ true → ended h ≡ false → same_tag t h ≡ false
  apart t h yes_ended not_ended = test_cases (same_tag t h)
      (λ one. absurd (true≢false (sym yes_ended ∙ ap ended ((same_tag-Decides t h).0 one) ∙ not_ended)))
      (λ other. other)

  not_found : (b : Bool) (h : Tag) (rest : Option Tag) → cond b (Some h) rest ≡ None → (b ≡ false) × (rest ≡ None)
  not_found true h rest e = none_is h (sym e)
  not_found false h rest e = (refl, e)

  none_by : (o : Option Tag) (rest : List Tag) (t : Tag) (place : ℕ) (more : Option ℕ) → find ended (cons_option o rest) ≡ None → ended t ≡ true → (find ended rest ≡ None → more ≡ None) → cond (option_map_or (same_tag t) o false) (Some place) more ≡ None
  none_by None rest t place more e is same = same e
  none_by (Some h) rest t place more e is same =
      let two = not_found (ended h) h (find ended rest) e in
      ap (λ (b : Bool). cond b (Some place) more) (apart t h is two.0) ∙ same two.1

  -- where none is found nothing that has ended waits
  none_waits : (calls : List OffsetCall) (t : Tag) (place : ℕ) → find ended (waiting calls) ≡ None → ended t ≡ true → first_at t place calls ≡ None
  none_waits [] t place e is = refl
  none_waits (call ∷ calls) t place e is =
      first_next t call calls place
      ∙ none_by (waits_by call calls) (waiting calls) t place (first_at t (place + 1) calls) e is (λ more. none_waits calls t (place + 1) more is)

  -- what is found has ended, and no other that has ended stands before it
  record Found (calls : List OffsetCall) (place : ℕ) (t : Tag) : Type 0 where
    is_ended : ended t ≡ true
    at : ℕ
    first : first_at t place calls ≡ Some at
    least : (q : Tag) (m : ℕ) → ended q ≡ true → first_at q place calls ≡ Some m → at ≤ m

  found_by : (call : OffsetCall) (calls : List OffsetCall) (place : ℕ) (t : Tag) (o : Option Tag) → waits_by call calls ≡ o → find ended (cons_option o (waiting calls)) ≡ Some t
      → (find ended (waiting calls) ≡ Some t → Found calls (place + 1) t) → Found (call ∷ calls) place t
  found_by call calls place t None is e more =
      let rest = more e in
      let same : (q : Tag) → first_at q place (call ∷ calls) ≡ first_at q (place + 1) calls = λ q. first_next q call calls place ∙ ap (λ o. cond (option_map_or (same_tag q) o false) (Some place) (first_at q (place + 1) calls)) is in
      record { is_ended = rest.is_ended; at = rest.at; first = same t ∙ rest.first; least = λ q m has at. rest.least q m has (sym (same q) ∙ at) }
  found_by call calls place t (Some h) is e more = test_cases (ended h)
      (λ here.
      let one : h ≡ t = some_is h t (sym (ap (λ (b : Bool). cond b (Some h) (find ended (waiting calls))) here) ∙ e) in
      let first : first_at h place (call ∷ calls) ≡ Some place =
      first_next h call calls place ∙ ap (λ o. cond (option_map_or (same_tag h) o false) (Some place) (first_at h (place + 1) calls)) is ∙ ap (λ (b : Bool). cond b (Some place) (first_at h (place + 1) calls)) ((same_tag-Decides h h).1 refl) in
      record { is_ended = ap ended (sym one) ∙ here; at = place; first = ap (λ (k : Tag). first_at k place (call ∷ calls)) (sym one) ∙ first; least = λ q m has at. first_from q (call ∷ calls) place m at })
      (λ there.
      let rest = more (sym (ap (λ (b : Bool). cond b (Some h) (find ended (waiting calls))) there) ∙ e) in
      let same : (q : Tag) → ended q ≡ true → first_at q place (call ∷ calls) ≡ first_at q (place + 1) calls =
      λ q has. first_next q call calls place ∙ ap (λ o. cond (option_map_or (same_tag q) o false) (Some place) (first_at q (place + 1) calls)) is ∙ ap (λ (b : Bool). cond b (Some place) (first_at q (place + 1) calls)) (apart q h has there) in
      record { is_ended = rest.is_ended; at = rest.at; first = same t rest.is_ended ∙ rest.first; least = λ q m has at. rest.least q m has (sym (same q has) ∙ at) })

  found : (calls : List OffsetCall) (place : ℕ) (t : Tag) → find ended (waiting calls) ≡ Some t → Found calls place t
  found [] place t e = none_is t e
  found (call ∷ calls) place t e = found_by call calls place t (waits_by call calls) refl e (found calls (place + 1) t)

  -- ---- in the order

  abbrev Rows : Type 0
  Rows = List (ℕ × Option Tag)

  abbrev first_of : Rows → Option Tag
  first_of rows = find ended (filter_map (λ row. row) (values_of rows))

  rows_none : (rows : Rows) → AllByRecursion (λ e. (q : Tag) → e.1 ≡ Some q → ended q ≡ false) rows → first_of rows ≡ None
  rows_none [] all = refl
  rows_none (e ∷ rows) all = by e.1 all.0 (rows_none rows all.1)
    where
      by : (o : Option Tag) → ((q : Tag) → o ≡ Some q → ended q ≡ false) → first_of rows ≡ None → find ended (cons_option o (filter_map (λ row. row) (values_of rows))) ≡ None
      by None waits rest = rest
      by (Some q) waits rest = ap (λ (b : Bool). cond b (Some q) (first_of rows)) (waits q refl) ∙ rest

  at_is : (n k : ℕ) → is_at (nat_cmp n) k ≡ true → n ≡ k
  at_is n k e = grind (arith, nat_tests)

  below : (k n : ℕ) → nat_cmp k n ≡ Less → k < n
  below k n e = grind (arith, nat_tests)

  -- what is found at a key is above what is above all keys
  above_all : (k n : ℕ) (rows : Rows) (v : Option Tag) → AllByRecursion (λ y. nat_cmp k y ≡ Less) (keys_of rows) → lookup (is_at (nat_cmp n)) rows ≡ Some v → k < n
  above_all k n [] v all e = none_is v e
  above_all k n (r ∷ rows) v all e = test_cases (is_at (nat_cmp n) r.0)
      (λ here. let same : n ≡ r.0 = at_is n r.0 here in let lower : k < r.0 = below k r.0 all.0 in omega (arith, same, lower))
      (λ there. above_all k n rows v all.1 (sym (ap (λ (b : Bool). cond b (Some r.1) (lookup (is_at (nat_cmp n)) rows)) there) ∙ e))

  rows_some : (n : ℕ) (t : Tag) → ended t ≡ true → (rows : Rows) → IsStrictlySortedBy nat_cmp (keys_of rows) → lookup (is_at (nat_cmp n)) rows ≡ Some (Some t)
      → AllByRecursion (λ e. (q : Tag) → e.1 ≡ Some q → e.0 < n → ended q ≡ false) rows → first_of rows ≡ Some t
  rows_some n t is [] sorted e all = none_is (Some t) e
  rows_some n t is (r ∷ rows) sorted e all = test_cases (is_at (nat_cmp n) r.0)
      (λ here.
      let row : r.1 ≡ Some t = some_is r.1 (Some t) (sym (ap (λ (b : Bool). cond b (Some r.1) (lookup (is_at (nat_cmp n)) rows)) here) ∙ e) in
      ap (λ o. find ended (cons_option o (filter_map (λ row. row) (values_of rows)))) row ∙ ap (λ (b : Bool). cond b (Some t) (first_of rows)) is)
      (λ there.
      let later : lookup (is_at (nat_cmp n)) rows ≡ Some (Some t) = sym (ap (λ (b : Bool). cond b (Some r.1) (lookup (is_at (nat_cmp n)) rows)) there) ∙ e in
      let lower : r.0 < n = above_all r.0 n rows (Some t) (sorted_head nat_cmp r.0 (keys_of rows) sorted) later in
      by r.1 (λ q at. all.0 q at lower) (rows_some n t is rows (sorted_tail nat_cmp r.0 (keys_of rows) sorted) later all.1))
    where
      by : (o : Option Tag) → ((q : Tag) → o ≡ Some q → ended q ≡ false) → first_of rows ≡ Some t → find ended (cons_option o (filter_map (λ row. row) (values_of rows))) ≡ Some t
      by None waits rest = rest
      by (Some q) waits rest = ap (λ (b : Bool). cond b (Some q) (first_of rows)) (waits q refl) ∙ rest

row_found : (o : Option (Option Tag)) (t : Tag) → unwrap_or o None ≡ Some t → o ≡ Some (Some t)
row_found None t e = none_is t e
row_found (Some row) t e = ap Some e

module _ (verdict : Tag → Verdict) (tables : Tables) (calls : List OffsetCall) (kept : Keeps tables calls) (ordered : IsOrdered nat_cmp tables.order) where
  abbrev ends : Tag → Bool
  ends tag = has_ended (verdict tag)

  all_rows : (P : ℕ × Option Tag → Type 0) → ((e : ℕ × Option Tag) → stands_at tables.order e.0 ≡ e.1 → P e) → AllByRecursion P tables.order.entries
  all_rows P each = by tables.order.entries (All-found nat_cmp_total tables.order ordered)
    where
      by : (rows : List (ℕ × Option Tag)) → Rattle.std.specs.List.All (λ e. get nat_cmp tables.order e.0 ≡ Some e.1) rows → AllByRecursion P rows
      by [] all = tt
      by (e ∷ rows) all = (each e (ap (λ o. unwrap_or o None) (All-head (λ x. get nat_cmp tables.order x.0 ≡ Some x.1) e rows all)), by rows (All-tail (λ x. get nat_cmp tables.order x.0 ≡ Some x.1) e rows all))

  by_found : (o : Option Tag) → first_unmarked verdict calls ≡ o → first_ended verdict (values tables.order) ≡ o
  by_found None e = rows_none ends tables.order.entries (all_rows (λ x. (q : Tag) → x.1 ≡ Some q → ends q ≡ false)
      (λ x at q is. test_cases (ends q)
      (λ has. none_is x.0 (sym (none_waits ends calls q 0 e has) ∙ kept.stands x.0 q (at ∙ is)))
      (λ unended. unended)))
  by_found (Some t) e =
      let one = found ends calls 0 t e in
      rows_some ends one.at t one.is_ended tables.order.entries ordered (row_found (get nat_cmp tables.order one.at) t (kept.placed one.at t one.first))
      (all_rows (λ x. (q : Tag) → x.1 ≡ Some q → x.0 < one.at → ends q ≡ false)
      (λ x at q is lower. test_cases (ends q)
      (λ has. let least = one.least q x.0 has (kept.stands x.0 q (at ∙ is)) in absurd (omega (arith, least, lower)))
      (λ unended. unended)))

  pub first_is : first_ended verdict (values tables.order) ≡ first_unmarked verdict calls
  first_is = by_found (first_unmarked verdict calls) refl

-- ---- a loop over the order

headed : (verdict : Tag → Verdict) (o : Option Tag) (tags : List Tag) → find (λ tag. has_ended (verdict tag)) (cons_option o tags) ≡ option_or (if_ended verdict o) (find (λ tag. has_ended (verdict tag)) tags)
headed verdict None tags = refl
headed verdict (Some tag) tags = tested (has_ended (verdict tag)) (find (λ q. has_ended (verdict q)) tags)
  where
    tested : (b : Bool) (more : Option Tag) → cond b (Some tag) more ≡ option_or (cond b (Some tag) None) more
    tested true more = refl
    tested false more = refl

pub so_far : (verdict : Tag → Verdict) (rows rest : List (Option Tag)) → first_ended verdict rows ≡ None → first_ended verdict (rows ++ rest) ≡ first_ended verdict rest
so_far verdict [] rest none = refl
so_far verdict (row ∷ rows) rest none =
    let two = both (if_ended verdict row) (first_ended verdict rows) (sym (headed verdict row (filter_map (λ r. r) rows)) ∙ none) in
    headed verdict row (filter_map (λ r. r) (rows ++ rest)) ∙ ap (λ o. option_or o (first_ended verdict (rows ++ rest))) two.0 ∙ so_far verdict rows rest two.1
  where
    both : (a b : Option Tag) → option_or a b ≡ None → (a ≡ None) × (b ≡ None)
    both None b e = (refl, e)
    both (Some t) b e = none_is t (sym e)

pub first_here : (verdict : Tag → Verdict) (row : Option Tag) (rest : List (Option Tag)) → first_ended verdict (row ∷ rest) ≡ option_or (if_ended verdict row) (first_ended verdict rest)
first_here verdict row rest = headed verdict row (filter_map (λ r. r) rest)
