-- The bytes of a file among files in the order of their names.
use Rattle.std.proofs.Common.{◌≡◌, ℕ, zero, suc, ◌+◌, ◌<◌, ◌≤◌, List, [], ◌∷◌, length, get_or, true, false, Some, None, refl, sym, ap, ◌∙◌, arith, ◌⊎◌, inl, inr}
use Rattle.std.specs.declared.cmp.Ordering.{Ordering}
use Rattle.std.specs.declared.cmp.Ordering.TheVariants.{Less, Equal, Greater}
use Rattle.std.specs.Ordering.{is_eq, is_lt, ordering_reverse, ordering_index}
use Rattle.std.specs.Cmp.Lexicographic.{nat_list_cmp_total}
use Rattle.std.specs.List.{zip, AllByRecursion, AllZip}
use Rattle.std.specs.List.Sorted.{IsNonDecreasingBy, IsPartitionPoint}
use Rattle.std.specs.BTreeMap.{is_at}
use Rattle.std.proofs.lemmas.Map.Keys.{sorted_head, sorted_tail, Less-from_sorted}
use Rattle.std.proofs.lemmas.List.Elements.{All-from_recursion}
use Rattle.std.proofs.lemmas.List.Sorted.{searchable_from_sorted}
use Rattle.std.proofs.lemmas.Bool.{cases_lt}
use Rattle.cw_types.specs.Order.{name_cmp}
use Rattle.cw_io.specs.Shelf.{Files, names_of, bytes_of, AreRising}

-- names compare the other way round
pub flipped : (a b : List ℕ) (r : Ordering) → name_cmp a b ≡ r → name_cmp b a ≡ ordering_reverse r
flipped a b r is = nat_list_cmp_total.antisymm b a ∙ ap ordering_reverse is

-- a name compares with itself
own_reverse : (r : Ordering) → r ≡ ordering_reverse r → r ≡ Equal
own_reverse Less e = absurd (cc)
own_reverse Equal e = refl
own_reverse Greater e = absurd (cc)

pub same_name : (a : List ℕ) → name_cmp a a ≡ Equal
same_name a = own_reverse (name_cmp a a) (nat_list_cmp_total.antisymm a a)

-- a name that is above another isn't it
pub passed_over : (name other : List ℕ) → name_cmp other name ≡ Less → is_at (name_cmp name) other ≡ false
passed_over name other below = ap is_eq (flipped other name Less below)

-- a name at a place is found
pub bytes_of-found : (names contents : List (List ℕ)) (name : List ℕ) (i : ℕ) → AreRising names → length contents ≡ length names → i < length names
    → name_cmp (get_or names i []) name ≡ Equal → bytes_of name (zip names contents) ≡ Some (get_or contents i [])
bytes_of-found [] contents name i rising sizes within same = absurd (omega arith)
bytes_of-found (n ∷ names) [] name i rising sizes within same = absurd (omega arith)
bytes_of-found (n ∷ names) (b ∷ contents) name zero rising sizes within same =
    let hit : is_at (name_cmp name) n ≡ true = ap is_eq (flipped n name Equal same) in
    rw hit refl
bytes_of-found (n ∷ names) (b ∷ contents) name (suc i) rising sizes within same =
    let above : name_cmp n (get_or names i []) ≡ Less = All-from_recursion (λ y. name_cmp n y ≡ Less) names (sorted_head name_cmp n names rising) i [] (omega arith) in
    let over : name_cmp name n ≡ Greater = sym (nat_list_cmp_total.congr (get_or names i []) name n same) ∙ flipped n (get_or names i []) Less above in
    let miss : is_at (name_cmp name) n ≡ false = ap is_eq over in
    rw miss (bytes_of-found names contents name i (sorted_tail name_cmp n names rising) (omega arith) (omega arith) same)

-- a name that none is equal to is missing
pub bytes_of-missing : (names contents : List (List ℕ)) (name : List ℕ) → ((k : ℕ) → k < length names → name_cmp (get_or names k []) name ≡ Equal → ⊥)
    → bytes_of name (zip names contents) ≡ None
bytes_of-missing [] contents name none = refl
bytes_of-missing (n ∷ names) [] name none = refl
bytes_of-missing (n ∷ names) (b ∷ contents) name none =
    rw (miss (name_cmp name n) refl) (bytes_of-missing names contents name (λ k within. none (suc k) (omega arith)))
  where
    miss : (r : Ordering) → name_cmp name n ≡ r → is_eq r ≡ false
    miss Less is = refl
    miss Equal is = absurd (none 0 (omega arith) (flipped name n Equal is))
    miss Greater is = refl

-- names in order may be searched
pub searchable : (names : List (List ℕ)) (name : List ℕ) → AreRising names → IsNonDecreasingBy (λ y. ordering_index (name_cmp y name)) names
searchable names name rising =
    searchable_from_sorted nat_list_cmp_total (λ (y : List ℕ). y) names name
    (λ k d low within. ap is_lt (flipped (get_or names k d) (get_or names (k + 1) d) Less (Less-from_sorted name_cmp names k (k + 1) d rising (omega arith) within)))

-- what was loaded of each name is what the files hold
abbrev pub AreLoaded : Files → List (List ℕ) → List (List ℕ) → Type 0
AreLoaded held names contents = AllZip (λ name content. bytes_of name held ≡ Some content) names contents

behind_first : (n b : List ℕ) (held : Files) (names contents : List (List ℕ)) → AllByRecursion (λ y. name_cmp n y ≡ Less) names
    → AreLoaded ((n, b) ∷ held) names contents → AreLoaded held names contents
behind_first n b held [] [] above loaded = tt
behind_first n b held [] (c ∷ contents) above loaded = loaded
behind_first n b held (m ∷ names) [] above loaded = loaded
behind_first n b held (m ∷ names) (c ∷ contents) above loaded =
    let miss : is_at (name_cmp m) n ≡ false = passed_over m n above.0 in
    (sym (rw miss refl) ∙ loaded.0, behind_first n b held names contents above.1 loaded.1)

-- so all that was loaded is the files again
pub zip-loaded : (held : Files) (contents : List (List ℕ)) → AreRising (names_of held) → AreLoaded held (names_of held) contents → zip (names_of held) contents ≡ held
zip-loaded [] contents rising loaded = refl
zip-loaded ((n, b) ∷ held) [] rising loaded = absurd loaded
zip-loaded ((n, b) ∷ held) (c ∷ contents) rising loaded =
    let hit : is_at (name_cmp n) n ≡ true = ap is_eq (same_name n) in
    let found : bytes_of n ((n, b) ∷ held) ≡ Some b = rw hit refl in
    let own : c ≡ b = some_same c b (sym loaded.0 ∙ found) in
    ap (λ x. (n, x) ∷ zip (names_of held) contents) own
    ∙ ap (λ files. (n, b) ∷ files) (zip-loaded held contents (sorted_tail name_cmp n (names_of held) rising)
    (behind_first n b held (names_of held) contents (sorted_head name_cmp n (names_of held) rising) loaded.1))
  where
    some_same : (x y : List ℕ) → Some x ≡ Some y → x ≡ y
    some_same x y e = cc

-- a search that finds nothing: no name is equal
pub none_equal : (names : List (List ℕ)) (name : List ℕ) (i : ℕ) → AreRising names
    → (IsNonDecreasingBy (λ y. ordering_index (name_cmp y name)) names → IsPartitionPoint (λ y. name_cmp y name ≡ Less) (λ y. name_cmp y name ≡ Greater) names i)
    → (k : ℕ) → k < length names → name_cmp (get_or names k []) name ≡ Equal → ⊥
none_equal names name i rising search_says k within same = at (cases_lt k i)
  where
    at : (k < i) ⊎ (i ≤ k) → ⊥
    at (inl before) = let below : name_cmp (get_or names k []) name ≡ Less = (search_says (searchable names name rising)).0 k [] (omega arith) before in cc
    at (inr behind) = let above : name_cmp (get_or names k []) name ≡ Greater = (search_says (searchable names name rising)).1 k [] behind within in cc
