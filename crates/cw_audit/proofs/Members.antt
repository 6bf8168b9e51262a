-- A list that rises by its members' texts has the members that were put into it, each text once.
use Rattle.std.proofs.Common.{◌≡◌, ◌⊎◌, inl, inr, ℕ, zero, suc, ◌<◌, Bool, true, false, cond, List, [], ◌∷◌, length, get_or, map, All, Contains, Option, Some, None, refl, sym, ap, subst, ◌∙◌, arith}
use Rattle.std.specs.List.{fold, filter, cons_option, AllByRecursion}
use Rattle.std.specs.List.Sorted.{IsStrictlySortedBy}
use Rattle.std.specs.Cmp.Lexicographic.{nat_list_cmp_total}
use Rattle.std.specs.Ordering.{match_ordering, ordering_reverse}
use Rattle.std.specs.declared.cmp.Ordering.{Ordering}
use Rattle.std.specs.declared.cmp.Ordering.TheVariants.{Less, Equal, Greater}
use Rattle.std.proofs.lemmas.Map.Lookups.{exact_bytes}
use Rattle.cw_types.specs.Order.{name_cmp}
use Rattle.cw_audit.specs.Rising.{placed, rising_by, ListsJust}

-- ---- membership

abbrev pub In : {A : Type 0} → A → List A → Type 0
In x [] = ⊥
In x (y ∷ ys) = (y ≡ x) ⊎ In x ys

module _ {A : Type 0} where
  pub in-at : (xs : List A) (x : A) (k : ℕ) → k < length xs → get_or xs k x ≡ x → In x xs
  in-at [] x k within is = absurd (omega arith)
  in-at (y ∷ ys) x zero within is = inl is
  in-at (y ∷ ys) x (suc k) within is = inr (in-at ys x k (omega arith) is)

  pub in-from_contains : (xs : List A) (x : A) → Contains xs x → In x xs
  in-from_contains xs x has = in-at xs x has.0 has.1 has.2

  pub contains-from_in : (xs : List A) (x : A) → In x xs → Contains xs x
  contains-from_in [] x none = absurd none
  contains-from_in (y ∷ ys) x (inl is) = (0, omega arith, is)
  contains-from_in (y ∷ ys) x (inr later) = let r = contains-from_in ys x later in (suc r.0, omega arith, r.2)

  in-place : (xs : List A) (k : ℕ) (d : A) → k < length xs → In (get_or xs k d) xs
  in-place [] k d within = absurd (omega arith)
  in-place (y ∷ ys) zero d within = inl refl
  in-place (y ∷ ys) (suc k) d within = inr (in-place ys k d (omega arith))

  pub all-from_in : (P : A → Type 0) (xs : List A) → ((x : A) → In x xs → P x) → All P xs
  all-from_in P xs each = λ k d within. each (get_or xs k d) (in-place xs k d within)

  -- with one more, where there is one
  pub in-option : (o : Option A) (xs : List A) (x : A) → In x (cons_option o xs) → (o ≡ Some x) ⊎ In x xs
  in-option None xs x has = inr has
  in-option (Some y) xs x (inl is) = inl (ap (λ (z : A). Some z) is)
  in-option (Some y) xs x (inr later) = inr later

  pub option-in : (o : Option A) (xs : List A) (x : A) → (o ≡ Some x) ⊎ In x xs → In x (cons_option o xs)
  option-in None xs x (inl is) = absurd (cc)
  option-in None xs x (inr later) = later
  option-in (Some y) xs x (inl is) = inl (cc)
  option-in (Some y) xs x (inr later) = inr later

  -- of those that pass a test
  module _ (test : A → Bool) where
    passes-in : (b : Bool) (y : A) (ys : List A) (x : A) → (y ≡ x → b ≡ true) → (y ≡ x) ⊎ In x (filter test ys) → In x (cond b (y ∷ filter test ys) (filter test ys))
    passes-in true y ys x own has = has
    passes-in false y ys x own (inl is) = absurd (let never : false ≡ true = own is in cc)
    passes-in false y ys x own (inr later) = later

    pub filter-in : (xs : List A) (x : A) → test x ≡ true → In x xs → In x (filter test xs)
    filter-in [] x passes none = none
    filter-in (y ∷ ys) x passes (inl is) = passes-in (test y) y ys x (λ same. ap test same ∙ passes) (inl is)
    filter-in (y ∷ ys) x passes (inr later) = passes-in (test y) y ys x (λ same. ap test same ∙ passes) (inr (filter-in ys x passes later))

    in-passed : (b : Bool) (y : A) (ys : List A) (x : A) → test y ≡ b → In x (cond b (y ∷ filter test ys) (filter test ys)) → ((y ≡ x) × (test x ≡ true)) ⊎ In x (filter test ys)
    in-passed true y ys x passes (inl is) = inl (is, sym (ap test is) ∙ passes)
    in-passed true y ys x passes (inr later) = inr later
    in-passed false y ys x passes has = inr has

    pub in-filter : (xs : List A) (x : A) → In x (filter test xs) → (test x ≡ true) × In x xs
    in-filter [] x none = absurd none
    in-filter (y ∷ ys) x has = elim (in-passed (test y) y ys x refl has) [ inl h ↦ (h.1, inl h.0) | inr later ↦ let r = in-filter ys x later in (r.0, inr r.1) ]

-- ---- the list

module _ {A : Type 0} (text : A → List ℕ) where
  -- nothing else is in it
  one-of : (x y z : A) (ys : List A) (r : Ordering) → (In z (placed text x ys) → (x ≡ z) ⊎ In z ys) →
      In z (match_ordering r (x ∷ y ∷ ys) (x ∷ ys) (y ∷ placed text x ys)) → (x ≡ z) ⊎ ((y ≡ z) ⊎ In z ys)
  one-of x y z ys Less below has = has
  one-of x y z ys Equal below (inl is) = inl is
  one-of x y z ys Equal below (inr later) = inr (inr later)
  one-of x y z ys Greater below (inl is) = inr (inl is)
  one-of x y z ys Greater below (inr later) = elim (below later) [ inl is ↦ inl is | inr has ↦ inr (inr has) ]

  placed-only : (x z : A) (ys : List A) → In z (placed text x ys) → (x ≡ z) ⊎ In z ys
  placed-only x z [] has = has
  placed-only x z (y ∷ ys) has = one-of x y z ys (name_cmp (text x) (text y)) (placed-only x z ys) has

  folded-only : (xs ys : List A) (z : A) → In z (fold (λ list x. placed text x list) ys xs) → In z xs ⊎ In z ys
  folded-only [] ys z has = inr has
  folded-only (x ∷ xs) ys z has = elim (folded-only xs (placed text x ys) z has)
      [ inl later ↦ inl (inr later) | inr placed_in ↦ elim (placed-only x z ys placed_in) [ inl is ↦ inl (inl is) | inr old ↦ inr old ] ]

  pub rising-only : (xs : List A) (z : A) → In z (rising_by text xs) → In z xs
  rising-only xs z has = elim (folded-only xs [] z has) [ inl put ↦ put | inr none ↦ absurd none ]

  -- each text is in it
  has-own : (x y : A) (ys : List A) (r : Ordering) → In (text x) (map text (placed text x ys)) → In (text x) (map text (match_ordering r (x ∷ y ∷ ys) (x ∷ ys) (y ∷ placed text x ys)))
  has-own x y ys Less below = inl refl
  has-own x y ys Equal below = inl refl
  has-own x y ys Greater below = inr below

  placed-has : (x : A) (ys : List A) → In (text x) (map text (placed text x ys))
  placed-has x [] = inl refl
  placed-has x (y ∷ ys) = has-own x y ys (name_cmp (text x) (text y)) (placed-has x ys)

  keeps-text : (x y : A) (ys : List A) (t : List ℕ) (r : Ordering) → (r ≡ Equal → text x ≡ text y) → (In t (map text ys) → In t (map text (placed text x ys))) →
      (text y ≡ t) ⊎ In t (map text ys) → In t (map text (match_ordering r (x ∷ y ∷ ys) (x ∷ ys) (y ∷ placed text x ys)))
  keeps-text x y ys t Less same below has = inr has
  keeps-text x y ys t Equal same below (inl is) = inl (same refl ∙ is)
  keeps-text x y ys t Equal same below (inr later) = inr later
  keeps-text x y ys t Greater same below (inl is) = inl is
  keeps-text x y ys t Greater same below (inr later) = inr (below later)

  placed-keeps : (x : A) (ys : List A) (t : List ℕ) → In t (map text ys) → In t (map text (placed text x ys))
  placed-keeps x [] t none = absurd none
  placed-keeps x (y ∷ ys) t has = keeps-text x y ys t (name_cmp (text x) (text y)) (exact_bytes (text x) (text y)) (placed-keeps x ys t) has

  folded-keeps : (xs ys : List A) (t : List ℕ) → In t (map text ys) → In t (map text (fold (λ list x. placed text x list) ys xs))
  folded-keeps [] ys t has = has
  folded-keeps (x ∷ xs) ys t has = folded-keeps xs (placed text x ys) t (placed-keeps x ys t has)

  folded-has : (xs ys : List A) (z : A) → In z xs → In (text z) (map text (fold (λ list x. placed text x list) ys xs))
  folded-has [] ys z none = absurd none
  folded-has (x ∷ xs) ys z (inl is) = folded-keeps xs (placed text x ys) (text z)
      (subst (λ (w : A). In (text w) (map text (placed text x ys))) is (placed-has x ys))
  folded-has (x ∷ xs) ys z (inr later) = folded-has xs (placed text x ys) z later

  -- it rises
  abbrev Below : List ℕ → List A → Type 0
  Below t ys = AllByRecursion (λ u. name_cmp t u ≡ Less) (map text ys)

  below-less : (t u : List ℕ) (ys : List A) → name_cmp t u ≡ Less → Below u ys → Below t ys
  below-less t u [] less below = tt
  below-less t u (y ∷ ys) less below = (nat_list_cmp_total.trans t u (text y) less below.0, below-less t u ys less below.1)

  below-order : (t : List ℕ) (x y : A) (ys : List A) (r : Ordering) → name_cmp t (text x) ≡ Less → name_cmp t (text y) ≡ Less → Below t ys → Below t (placed text x ys) →
      Below t (match_ordering r (x ∷ y ∷ ys) (x ∷ ys) (y ∷ placed text x ys))
  below-order t x y ys Less own first rest more = (own, (first, rest))
  below-order t x y ys Equal own first rest more = (own, rest)
  below-order t x y ys Greater own first rest more = (first, more)

  below-placed : (t : List ℕ) (x : A) (ys : List A) → name_cmp t (text x) ≡ Less → Below t ys → Below t (placed text x ys)
  below-placed t x [] own below = (own, tt)
  below-placed t x (y ∷ ys) own below = below-order t x y ys (name_cmp (text x) (text y)) own below.0 below.1 (below-placed t x ys own below.1)

  rises-order : (x y : A) (ys : List A) (r : Ordering) → name_cmp (text x) (text y) ≡ r → Below (text y) ys → IsStrictlySortedBy name_cmp (map text ys) →
      IsStrictlySortedBy name_cmp (map text (placed text x ys)) → IsStrictlySortedBy name_cmp (map text (match_ordering r (x ∷ y ∷ ys) (x ∷ ys) (y ∷ placed text x ys)))
  unfolding IsStrictlySortedBy
  rises-order x y ys Less is below rises more = ((is, below-less (text x) (text y) ys is below), (below, rises))
  rises-order x y ys Equal is below rises more = (subst (λ (t : List ℕ). Below t ys) (sym (exact_bytes (text x) (text y) is)) below, rises)
  rises-order x y ys Greater is below rises more =
      (below-placed (text y) x ys (nat_list_cmp_total.antisymm (text y) (text x) ∙ ap ordering_reverse is) below, more)

  rises-placed : (x : A) (ys : List A) → IsStrictlySortedBy name_cmp (map text ys) → IsStrictlySortedBy name_cmp (map text (placed text x ys))
  unfolding IsStrictlySortedBy
  rises-placed x [] rises = (tt, tt)
  rises-placed x (y ∷ ys) rises = rises-order x y ys (name_cmp (text x) (text y)) refl rises.0 rises.1 (rises-placed x ys rises.1)

  rises-folded : (xs ys : List A) → IsStrictlySortedBy name_cmp (map text ys) → IsStrictlySortedBy name_cmp (map text (fold (λ list x. placed text x list) ys xs))
  rises-folded [] ys rises = rises
  rises-folded (x ∷ xs) ys rises = rises-folded xs (placed text x ys) (rises-placed x ys rises)

  rises-none : IsStrictlySortedBy name_cmp (map text [])
  unfolding IsStrictlySortedBy
  rises-none = tt

  -- all in one
  pub lists-just : (P : A → Type 0) (xs : List A) → ((x : A) → In x xs → P x) → ((x : A) → P x → In x xs) → ListsJust text P (rising_by text xs)
  lists-just P xs only all = record {
    rising = rises-folded xs [] rises-none;
    only = all-from_in P (rising_by text xs) (λ x has. only x (rising-only xs x has));
    all = λ x is. contains-from_in (map text (rising_by text xs)) (text x) (folded-has xs [] x (all x is));
  }
