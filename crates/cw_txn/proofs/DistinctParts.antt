-- Spans or offsets of which no two name one part, one by one.
use Rattle.std.proofs.Common.{◌≡◌, ℕ, ◌+◌, ◌<◌, Bool, true, false, ◌||◌, List, [], ◌∷◌, ◌++◌, length, take, drop, map, slice_index_or, refl, sym, ap, subst, ◌∙◌}
use Rattle.std.specs.List.{IsDistinct, AllByRecursion, list_any}
use Rattle.std.specs.Cmp.{IsEquivalence}
use Rattle.std.proofs.lemmas.List.{map-append, take_more, get_or_default}
use Rattle.std.proofs.lemmas.Map.Keys.{IsDistinct-head, IsDistinct-tail, IsDistinct-push}
use Rattle.cw_types.specs.declared.ids.PartKey.{PartKey}
use Rattle.cw_types.specs.Same.{same_part}
use Rattle.cw_types.proofs.SameLemmas.{same_part-Decides, same_part-flip}
use Rattle.cw_types.proofs.Lists.{cut_at}

part_equivalence : IsEquivalence same_part
part_equivalence = record {
  refl = λ x. (same_part-Decides x x).1 refl;
  symm = same_part-flip;
  congr = λ x y z same. ap (λ (p : PartKey). same_part p z) ((same_part-Decides x y).0 same);
}

list_any-parts : {X : Type 0} (part_in : X → PartKey) (part : PartKey) (xs : List X) → list_any (same_part part) (map part_in xs) ≡ list_any (λ (x : X). same_part part (part_in x)) xs
list_any-parts part_in part [] = refl
list_any-parts part_in part (x ∷ xs) = ap (λ b. same_part part (part_in x) || b) (list_any-parts part_in part xs)

neither : (a b : Bool) → a ≡ false → b ≡ false → (a || b) ≡ false
neither true b first second = first
neither false b first second = second

at_middle : (P : PartKey → Type 0) (xs : List PartKey) (y : PartKey) (ys : List PartKey) → AllByRecursion P (xs ++ y ∷ ys) → P y
at_middle P [] y ys each = each.0
at_middle P (x ∷ xs) y ys each = at_middle P xs y ys each.1

-- a part of distinct ones is none of those before it
none_before : (xs : List PartKey) (y : PartKey) (ys : List PartKey) → IsDistinct same_part (xs ++ y ∷ ys) → list_any (same_part y) xs ≡ false
none_before [] y ys distinct = refl
none_before (x ∷ xs) y ys distinct = neither (same_part y x) (list_any (same_part y) xs)
    (same_part-flip y x ∙ at_middle (λ z. same_part x z ≡ false) xs y ys (IsDistinct-head same_part x (xs ++ y ∷ ys) distinct))
    (none_before xs y ys (IsDistinct-tail same_part x (xs ++ y ∷ ys) distinct))

-- no spans
pub none_distinct : IsDistinct same_part []
unfolding IsDistinct
none_distinct = tt

module _ {X : Type 0} (part_in : X → PartKey) (xs : List X) (at : ℕ) (d : X) (within : at < length xs) where
  abbrev here : X
  here = slice_index_or xs at d

  pub stay_distinct : IsDistinct same_part (map part_in (take at xs)) → list_any (λ (x : X). same_part (part_in here) (part_in x)) (take at xs) ≡ false → IsDistinct same_part (map part_in (take (at + 1) xs))
  stay_distinct distinct none = subst (IsDistinct same_part) (sym (ap (map part_in) (take_more xs at d within) ∙ map-append part_in (take at xs) (here ∷ [])))
      (IsDistinct-push part_equivalence (map part_in (take at xs)) (part_in here) distinct (list_any-parts part_in (part_in here) (take at xs) ∙ none))

  pub not_distinct : IsDistinct same_part (map part_in xs) → list_any (λ (x : X). same_part (part_in here) (part_in x)) (take at xs) ≡ false
  not_distinct distinct = sym (list_any-parts part_in (part_in here) (take at xs)) ∙ none_before (map part_in (take at xs)) (part_in here) (map part_in (drop (at + 1) xs))
      (subst (IsDistinct same_part) (ap (map part_in) (cut_at xs at here within (get_or_default xs at here d within)) ∙ map-append part_in (take at xs) (here ∷ drop (at + 1) xs)) distinct)
