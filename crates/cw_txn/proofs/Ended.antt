-- The parts of a connector that a table has, against those that the list has.
use Rattle.std.proofs.Common.{◌≡◌, ℕ, Bool, true, false, ◌&&◌, cond, List, [], ◌∷◌, Option, Some, None, unwrap_or, is_some, IsSome, Contains, refl, sym, ap, ◌∙◌, subst, arith}
use Rattle.std.specs.declared.cmp.Ordering.TheVariants.{Less}
use Rattle.std.specs.Ordering.{is_eq}
use Rattle.std.specs.Bool.{Decides}
use Rattle.std.specs.Str.{bytes_eq}
use Rattle.std.specs.List.{AllByRecursion, IsDistinct}
use Rattle.std.specs.List.Sorted.{IsStrictlySortedBy}
use Rattle.std.specs.Map.{keys_of, lookup}
use Rattle.std.specs.BTreeMap.{BTreeMap, get, is_at, IsOrdered}
use Rattle.std.proofs.lemmas.Bool.Decides.{Decides-like}
use Rattle.std.proofs.lemmas.Slice.Eq.{bytes_eq-Decides}
use Rattle.std.proofs.lemmas.List.Elements.{All-from_recursion, All-contains, Contains-append_right}
use Rattle.std.proofs.lemmas.Map.Keys.{sorted_head, sorted_tail, IsDistinct-cons}
use Rattle.cw_types.specs.declared.ids.PartKey.{PartKey}
use Rattle.cw_types.specs.declared.ids.PartKey.TheVariants.{Raw, File, Seq, Sink}
use Rattle.cw_txn.specs.declared.entry.Entry.{Entry}
use Rattle.cw_txn.specs.declared.history.History.{History}
use Rattle.cw_types.specs.Same.{same_part, connector_of, part_order}
use Rattle.cw_txn.specs.History.{history, end_of, unset}
use Rattle.cw_txn.specs.Transactions.{ArePartsOf}
use Rattle.cw_txn.specs.Tables.{is_of, parts_in, history_at, rows_from, first_parts}
use Rattle.cw_txn.proofs.DistinctParts.{none_distinct}
use Rattle.cw_txn.proofs.Beside.{beside}
use Rattle.cw_types.proofs.SameLemmas.{part_at, same_part-flip, same_part-Decides}

pub is_of-Decides : (connector : List ℕ) (part : PartKey) → Decides (is_of connector part) (connector_of part ≡ Some connector)
is_of-Decides connector (Raw a) = (λ e. cc, λ e. cc)
is_of-Decides connector (File a f) = Decides-like (bytes_eq a connector) (ap Some) (λ e. cc) (bytes_eq-Decides a connector)
is_of-Decides connector (Seq a i) = Decides-like (bytes_eq a connector) (ap Some) (λ e. cc) (bytes_eq-Decides a connector)
is_of-Decides connector (Sink a t) = Decides-like (bytes_eq a connector) (ap Some) (λ e. cc) (bytes_eq-Decides a connector)

and_both : (a b : Bool) → (a && b) ≡ true → (a ≡ true) × (b ≡ true)
and_both true b both = (refl, both)
and_both false b both = (both, cc)

from_both : (a b : Bool) → a ≡ true → b ≡ true → (a && b) ≡ true
from_both true b first second = second
from_both false b first second = first

-- each row of an ordered table is found by its key
rows_found : (es : List (PartKey × History)) → IsStrictlySortedBy part_order (keys_of es) → AllByRecursion (λ e. lookup (is_at (part_order e.0)) es ≡ Some e.1) es
unfolding IsStrictlySortedBy
rows_found [] sorted = tt
rows_found (e ∷ es) sorted = (
  ap (λ (b : Bool). cond b (Some e.1) (lookup (is_at (part_order e.0)) es)) (part_at e.0 e.0 ∙ (same_part-Decides e.0 e.0).1 refl),
  later es sorted.0 (rows_found es sorted.1),
) where
  apart : (r : PartKey) → part_order e.0 r ≡ Less → is_at (part_order r) e.0 ≡ false
  apart r below = part_at r e.0 ∙ same_part-flip r e.0 ∙ sym (part_at e.0 r) ∙ ap is_eq below

  later : (rs : List (PartKey × History)) → AllByRecursion (λ y. part_order e.0 y ≡ Less) (keys_of rs)
      → AllByRecursion (λ r. lookup (is_at (part_order r.0)) es ≡ Some r.1) rs → AllByRecursion (λ r. lookup (is_at (part_order r.0)) (e ∷ es) ≡ Some r.1) rs
  later [] below found = tt
  later (r ∷ rs) below found = (
    ap (λ (b : Bool). cond b (Some e.1) (lookup (is_at (part_order r.0)) es)) (apart r.0 below.0) ∙ found.0,
    later rs below.1 found.1,
  )

module _ (connector : List ℕ) where
  abbrev taken : PartKey × History → Bool
  taken e = is_some e.1.end && is_of connector e.0

  -- a fact of the taken keys
  all_taken : (P : PartKey → Type 0) (es : List (PartKey × History)) → AllByRecursion (λ e. taken e ≡ true → P e.0) es → AllByRecursion P (parts_in connector es)
  all_taken P [] each = tt
  all_taken P (e ∷ es) each = pick (taken e) refl (all_taken P es each.1) where
    pick : (b : Bool) → taken e ≡ b → AllByRecursion P (parts_in connector es) → AllByRecursion P (cond b (e.0 ∷ parts_in connector es) (parts_in connector es))
    pick true is rest = (each.0 is, rest)
    pick false is rest = rest

  -- a fact of all keys is one of the taken ones
  taken_keys : (P : PartKey → Type 0) (es : List (PartKey × History)) → AllByRecursion P (keys_of es) → AllByRecursion P (parts_in connector es)
  taken_keys P [] each = tt
  taken_keys P (e ∷ es) each = pick (taken e) (taken_keys P es each.1) where
    pick : (b : Bool) → AllByRecursion P (parts_in connector es) → AllByRecursion P (cond b (e.0 ∷ parts_in connector es) (parts_in connector es))
    pick true rest = (each.0, rest)
    pick false rest = rest

  apart : (k : PartKey) (ks : List PartKey) → AllByRecursion (λ y. part_order k y ≡ Less) ks → AllByRecursion (λ y. same_part k y ≡ false) ks
  apart k [] below = tt
  apart k (y ∷ ks) below = (sym (part_at k y) ∙ ap is_eq below.0, apart k ks below.1)

  distinct : (es : List (PartKey × History)) → IsStrictlySortedBy part_order (keys_of es) → IsDistinct same_part (parts_in connector es)
  distinct [] sorted = none_distinct
  distinct (e ∷ es) sorted = pick (taken e) (distinct es (sorted_tail part_order e.0 (keys_of es) sorted)) where
    pick : (b : Bool) → IsDistinct same_part (parts_in connector es) → IsDistinct same_part (cond b (e.0 ∷ parts_in connector es) (parts_in connector es))
    pick true rest = IsDistinct-cons same_part e.0 (parts_in connector es) (taken_keys (λ y. same_part e.0 y ≡ false) es (apart e.0 (keys_of es) (sorted_head part_order e.0 (keys_of es) sorted))) rest
    pick false rest = rest

  rising : (es : List (PartKey × History)) → IsStrictlySortedBy part_order (keys_of es) → IsStrictlySortedBy part_order (parts_in connector es)
  unfolding IsStrictlySortedBy
  rising [] sorted = tt
  rising (e ∷ es) sorted = pick (taken e) (rising es sorted.1) where
    pick : (b : Bool) → IsStrictlySortedBy part_order (parts_in connector es) → IsStrictlySortedBy part_order (cond b (e.0 ∷ parts_in connector es) (parts_in connector es))
    pick true rest = (taken_keys (λ y. part_order e.0 y ≡ Less) es sorted.0, rest)
    pick false rest = rest

  one_more : (x : PartKey) (xs : List PartKey) (part : PartKey) → Contains xs part → Contains (x ∷ xs) part
  one_more x xs part there = Contains-append_right (x ∷ []) xs part there

  has_part : (part : PartKey) (h : History) (es : List (PartKey × History)) → lookup (is_at (part_order part)) es ≡ Some h → is_some h.end ≡ true → is_of connector part ≡ true → Contains (parts_in connector es) part
  has_part part h [] found ended own = cc
  has_part part h (e ∷ es) found ended own = here (is_at (part_order part) e.0) refl found (λ later. has_part part h es later ended own) where
    behind : (b : Bool) → Contains (parts_in connector es) part → Contains (cond b (e.0 ∷ parts_in connector es) (parts_in connector es)) part
    behind true there = one_more e.0 (parts_in connector es) part there
    behind false there = there

    first : (b : Bool) → b ≡ true → part ≡ e.0 → Contains (cond b (e.0 ∷ parts_in connector es) (parts_in connector es)) part
    first true is same = (0, omega arith, sym same)
    first false is same = cc

    here : (b : Bool) → is_at (part_order part) e.0 ≡ b → cond b (Some e.1) (lookup (is_at (part_order part)) es) ≡ Some h → (lookup (is_at (part_order part)) es ≡ Some h → Contains (parts_in connector es) part) → Contains (cond (taken e) (e.0 ∷ parts_in connector es) (parts_in connector es)) part
    here true at found rest =
        let same : part ≡ e.0 = (same_part-Decides part e.0).0 (sym (part_at part e.0) ∙ at) in
        let row : e.1 ≡ h = cc in
        first (taken e) (from_both (is_some e.1.end) (is_of connector e.0) (ap (λ (x : History). is_some x.end) row ∙ ended) (ap (is_of connector) (sym same) ∙ own)) same
    here false at found rest = behind (taken e) (rest found)

  module _ (table : BTreeMap PartKey History) (entries : List Entry) (kept : (part : PartKey) → history_at table part ≡ history part entries)
      (ordered : IsOrdered part_order table) where
    of_row : (part : PartKey) (h : History) → get part_order table part ≡ Some h → history part entries ≡ h
    of_row part h row = sym (kept part) ∙ ap (λ o. unwrap_or o unset) row

    row_of : (part : PartKey) (o : Option History) → get part_order table part ≡ o → IsSome (end_of part entries) → (h : History) × (get part_order table part ≡ Some h) × (is_some h.end ≡ true)
    row_of part (Some h) is ended = (h, is, ap (λ (x : History). is_some x.end) (sym (of_row part h is)) ∙ ended)
    row_of part None is ended =
        let none : history part entries ≡ unset = sym (kept part) ∙ ap (λ o. unwrap_or o unset) is in
        absurd (apart_bools (ap (λ (x : History). is_some x.end) (sym none) ∙ ended)) where
          apart_bools : false ≡ true → ⊥
          apart_bools e = cc

    theirs : AllByRecursion (λ part. (connector_of part ≡ Some connector) × IsSome (end_of part entries)) (parts_in connector table.entries)
    theirs = all_taken (λ part. (connector_of part ≡ Some connector) × IsSome (end_of part entries)) table.entries
        (own table.entries (rows_found table.entries ordered)) where
          own : (es : List (PartKey × History)) → AllByRecursion (λ e. get part_order table e.0 ≡ Some e.1) es
              → AllByRecursion (λ e. taken e ≡ true → (connector_of e.0 ≡ Some connector) × IsSome (end_of e.0 entries)) es
          own [] rows = tt
          own (e ∷ es) rows = (
            λ is. let both = and_both (is_some e.1.end) (is_of connector e.0) is in
                ((is_of-Decides connector e.0).0 both.1, ap (λ (x : History). is_some x.end) (of_row e.0 e.1 rows.0) ∙ both.0),
            own es rows.1,
          )

    pub are_parts_of : (parts : List PartKey) → parts ≡ first_parts connector (rows_from connector table.entries) → ArePartsOf connector entries parts
    are_parts_of parts is = rw (is ∙ beside connector table.entries ordered) record {
      each_once = distinct table.entries ordered;
      theirs = λ part there. All-contains (λ part. (connector_of part ≡ Some connector) × IsSome (end_of part entries)) (parts_in connector table.entries) part
          (All-from_recursion (λ part. (connector_of part ≡ Some connector) × IsSome (end_of part entries)) (parts_in connector table.entries) theirs) there;
      all = λ part own ended.
          let row = row_of part (get part_order table part) refl ended in
          has_part part row.0 table.entries row.1 row.2 ((is_of-Decides connector part).1 own);
    }

    pub are_ordered : (parts : List PartKey) → parts ≡ first_parts connector (rows_from connector table.entries) → IsStrictlySortedBy part_order parts
    are_ordered parts is = subst (λ (l : List PartKey). IsStrictlySortedBy part_order l) (sym (is ∙ beside connector table.entries ordered)) (rising table.entries ordered)
