-- A connector's parts stand side by side in the order of parts.
use Rattle.std.proofs.Common.{◌≡◌, ℕ, Bool, true, false, ◌&&◌, cond, List, [], ◌∷◌, is_some, refl, sym, ap, ◌∙◌, arith, Ordering}
use Rattle.std.specs.declared.cmp.Ordering.TheVariants.{Less, Equal, Greater}
use Rattle.std.specs.Ordering.{is_eq, is_gt, is_le, nat_cmp, ordering_then, ordering_reverse}
use Rattle.std.specs.Cmp.Lexicographic.{slice_cmp, nat_list_cmp_total}
use Rattle.std.specs.Str.{bytes_eq}
use Rattle.std.specs.List.{AllByRecursion}
use Rattle.std.specs.List.Sorted.{IsStrictlySortedBy}
use Rattle.std.specs.Map.{keys_of}
use Rattle.std.proofs.lemmas.Bool.Decides.{nat_tests}
use Rattle.std.proofs.lemmas.Slice.Eq.{bytes_eq-Decides}
use Rattle.std.proofs.lemmas.Map.Text.{is_eq-slice_cmp}
use Rattle.cw_types.specs.declared.ids.PartKey.{PartKey}
use Rattle.cw_types.specs.declared.ids.PartKey.TheVariants.{Raw, File, Seq, Sink}
use Rattle.cw_types.specs.PartOrder.{owner}
use Rattle.cw_types.specs.Same.{part_order}
use Rattle.cw_txn.specs.declared.history.History.{History}
use Rattle.cw_txn.specs.Tables.{is_of, parts_in, first_of, rows_from, first_parts}

abbrev names : List ℕ → List ℕ → Ordering
names = slice_cmp nat_cmp

-- ---- two answers one behind the other

before_not_after : (o p : Ordering) → ordering_then o p ≡ Less → is_gt o ≡ false
before_not_after Less p e = refl
before_not_after Equal p e = refl
before_not_after Greater p e = cc

upto_not_after : (o p : Ordering) → is_le (ordering_then o p) ≡ true → is_gt o ≡ false
upto_not_after Less p e = refl
upto_not_after Equal p e = refl
upto_not_after Greater p e = cc

tied_then : (o p : Ordering) → o ≡ Equal → is_le p ≡ true → is_le (ordering_then o p) ≡ true
tied_then Less p e le = refl
tied_then Equal p e le = le
tied_then Greater p e le = cc

not_tied : (o p : Ordering) → o ≡ Equal → is_le p ≡ false → is_le (ordering_then o p) ≡ true → ⊥
not_tied Less p e le up = cc
not_tied Equal p e le up = cc
not_tied Greater p e le up = cc

least : (n : ℕ) → is_le (nat_cmp 0 n) ≡ true
least n = grind (arith, nat_tests)

tied : (a b : List ℕ) → bytes_eq a b ≡ true → names a b ≡ Equal
tied a b same = by_answer (names a b) (is_eq-slice_cmp a b ∙ same) where
  by_answer : (o : Ordering) → is_eq o ≡ true → o ≡ Equal
  by_answer Less e = cc
  by_answer Equal e = refl
  by_answer Greater e = cc

turned : (a b : List ℕ) → bytes_eq a b ≡ true → bytes_eq b a ≡ true
turned a b same = (bytes_eq-Decides b a).1 (sym ((bytes_eq-Decides a b).0 same))

-- ---- where a connector's parts are

never : true ≡ false → ⊥
never e = cc

owner_is : (connector : List ℕ) (part : PartKey) → is_of connector part ≡ true → owner part ≡ connector
owner_is connector (Raw n) own = cc
owner_is connector (File a f) own = (bytes_eq-Decides a connector).0 own
owner_is connector (Seq a i) own = (bytes_eq-Decides a connector).0 own
owner_is connector (Sink a t) own = (bytes_eq-Decides a connector).0 own

module _ (connector : List ℕ) where
  -- none of them comes before the first
  own_from_first : (part : PartKey) → is_of connector part ≡ true → is_le (part_order (first_of connector) part) ≡ true
  own_from_first (Raw n) own = cc
  own_from_first (File a f) own = tied_then (names connector a) Less (tied connector a (turned a connector own)) refl
  own_from_first (Seq a i) own = tied_then (names connector a) (nat_cmp 0 i) (tied connector a (turned a connector own)) (least i)
  own_from_first (Sink a t) own = tied_then (names connector a) Less (tied connector a (turned a connector own)) refl

  named_apart : (a : List ℕ) → bytes_eq a connector ≡ false → names connector a ≡ Equal → ⊥
  named_apart a other same = never (sym (turned connector a (sym (is_eq-slice_cmp connector a) ∙ ap is_eq same)) ∙ other)

  -- another part that doesn't come before the first has a name behind theirs
  tied_other : (part : PartKey) → is_le (part_order (first_of connector) part) ≡ true → is_of connector part ≡ false → names connector (owner part) ≡ Equal → ⊥
  tied_other (Raw n) from other same = not_tied (names connector []) Greater same refl from
  tied_other (File a f) from other same = named_apart a other same
  tied_other (Seq a i) from other same = named_apart a other same
  tied_other (Sink a t) from other same = named_apart a other same

  module _ (part : PartKey) (from : is_le (part_order (first_of connector) part) ≡ true) (other : is_of connector part ≡ false) where
    behind : names connector (owner part) ≡ Less
    behind = by_answer (names connector (owner part)) refl where
      by_answer : (o : Ordering) → names connector (owner part) ≡ o → names connector (owner part) ≡ Less
      by_answer Less is = is
      by_answer Equal is = absurd (tied_other part from other is)
      by_answer Greater is = absurd (never (sym (ap is_gt is) ∙ upto_not_after (names connector (owner part)) _ from))

    -- so no part behind it is theirs
    later : (k : PartKey) → part_order part k ≡ Less → is_of connector k ≡ false
    later k below = by_own (is_of connector k) refl where
      after : names (owner part) connector ≡ Greater
      after = nat_list_cmp_total.antisymm (owner part) connector ∙ ap ordering_reverse behind

      by_own : (b : Bool) → is_of connector k ≡ b → is_of connector k ≡ false
      by_own false is = is
      by_own true is = absurd (never (sym (ap (λ (l : List ℕ). is_gt (names (owner part) l)) (owner_is connector k is) ∙ ap is_gt after)
          ∙ before_not_after (names (owner part) (owner k)) _ below))

    all_later : (ks : List PartKey) → AllByRecursion (λ y. part_order part y ≡ Less) ks → AllByRecursion (λ y. is_of connector y ≡ false) ks
    all_later [] below = tt
    all_later (k ∷ ks) below = (later k below.0, all_later ks below.1)

  -- ---- rows by rows

  skip : (ended own : Bool) (k : PartKey) (xs ys : List PartKey) → own ≡ false → xs ≡ ys → xs ≡ cond (ended && own) (k ∷ ys) ys
  skip true true k xs ys other same = cc
  skip false true k xs ys other same = cc
  skip true false k xs ys other same = same
  skip false false k xs ys other same = same

  step_own : (ended own : Bool) (k : PartKey) (xs ys : List PartKey) → own ≡ true → xs ≡ ys → cond own (cond ended (k ∷ xs) xs) [] ≡ cond (ended && own) (k ∷ ys) ys
  step_own true true k xs ys own same = ap (λ (l : List PartKey). k ∷ l) same
  step_own false true k xs ys own same = same
  step_own true false k xs ys own same = cc
  step_own false false k xs ys own same = cc

  step_other : (ended own : Bool) (k : PartKey) (xs ys : List PartKey) → own ≡ false → [] ≡ ys → cond own (cond ended (k ∷ xs) xs) [] ≡ cond (ended && own) (k ∷ ys) ys
  step_other true true k xs ys other none = cc
  step_other false true k xs ys other none = cc
  step_other true false k xs ys other none = none
  step_other false false k xs ys other none = none

  none_later : (es : List (PartKey × History)) → AllByRecursion (λ y. is_of connector y ≡ false) (keys_of es) → [] ≡ parts_in connector es
  none_later [] others = refl
  none_later (e ∷ es) others = skip (is_some e.1.end) (is_of connector e.0) e.0 [] (parts_in connector es) others.0 (none_later es others.1)

  -- the first of the rows from there on are just theirs
  pub beside : (es : List (PartKey × History)) → IsStrictlySortedBy part_order (keys_of es) → first_parts connector (rows_from connector es) ≡ parts_in connector es
  unfolding IsStrictlySortedBy
  beside [] sorted = refl
  beside (e ∷ es) sorted = from_first (is_le (part_order (first_of connector) e.0)) refl (beside es sorted.1) where
    others : is_le (part_order (first_of connector) e.0) ≡ true → is_of connector e.0 ≡ false → AllByRecursion (λ y. is_of connector y ≡ false) (keys_of es)
    others from other = all_later e.0 from other (keys_of es) sorted.0

    by_own : (b : Bool) → is_of connector e.0 ≡ b → is_le (part_order (first_of connector) e.0) ≡ true → first_parts connector (rows_from connector es) ≡ parts_in connector es
        → first_parts connector (e ∷ rows_from connector es) ≡ parts_in connector (e ∷ es)
    by_own true own from rest = step_own (is_some e.1.end) (is_of connector e.0) e.0 (first_parts connector (rows_from connector es)) (parts_in connector es) own rest
    by_own false other from rest = step_other (is_some e.1.end) (is_of connector e.0) e.0 (first_parts connector (rows_from connector es)) (parts_in connector es) other (none_later es (others from other))

    not_own : (b : Bool) → is_of connector e.0 ≡ b → is_le (part_order (first_of connector) e.0) ≡ false → is_of connector e.0 ≡ false
    not_own true own past = absurd (never (sym (own_from_first e.0 own) ∙ past))
    not_own false apart past = apart

    from_first : (b : Bool) → is_le (part_order (first_of connector) e.0) ≡ b → first_parts connector (rows_from connector es) ≡ parts_in connector es
        → first_parts connector (cond (b && true) (e ∷ rows_from connector es) (rows_from connector es)) ≡ parts_in connector (e ∷ es)
    from_first true from rest = by_own (is_of connector e.0) refl from rest
    from_first false past rest = skip (is_some e.1.end) (is_of connector e.0) e.0 (first_parts connector (rows_from connector es)) (parts_in connector es) (not_own (is_of connector e.0) refl past) rest
