-- A list in a strict order stays in it as elements are added, each in its place.
use Rattle.std.proofs.Common.{◌≡◌, List, [], ◌∷◌, refl, ap, ◌∙◌}
use Rattle.std.specs.List.{fold, AllByRecursion}
use Rattle.std.specs.List.Sorted.{IsStrictlySortedBy}
use Rattle.std.specs.Ordering.{match_ordering, ordering_reverse}
use Rattle.std.specs.declared.cmp.Ordering.{Ordering}
use Rattle.std.specs.declared.cmp.Ordering.TheVariants.{Less, Equal, Greater}
use Rattle.std.specs.Cmp.{IsTotalOrder}
use Rattle.std.specs.BTreeSet.{insert_key}

module _ {K : Type 0} (R : K → K → Ordering) (o : IsTotalOrder R) where
  abbrev pub Above : K → List K → Type 0
  Above x = AllByRecursion (λ y. R x y ≡ Less)

  pub greater : (x y : K) → R x y ≡ Greater → R y x ≡ Less
  greater x y is = o.antisymm y x ∙ ap ordering_reverse is

  pub above_less : (x y : K) (ys : List K) → R x y ≡ Less → Above y ys → Above x ys
  above_less x y [] less above = above
  above_less x y (z ∷ ys) less above = (o.trans x y z less above.0, above_less x y ys less above.1)

  above-insert_at : (y k x : K) (xs : List K) → R y k ≡ Less → Above y (x ∷ xs) → Above y (insert_key R xs k) → (r : Ordering)
      → Above y (match_ordering r (k ∷ x ∷ xs) (x ∷ xs) (x ∷ insert_key R xs k))
  above-insert_at y k x xs less above more Less = (less, above)
  above-insert_at y k x xs less above more Equal = above
  above-insert_at y k x xs less above more Greater = (above.0, more)

  above-insert : (y k : K) (xs : List K) → R y k ≡ Less → Above y xs → Above y (insert_key R xs k)
  above-insert y k [] less above = (less, above)
  above-insert y k (x ∷ xs) less above = above-insert_at y k x xs less above (above-insert y k xs less above.1) (R k x)

  rising-insert_at : (k x : K) (xs : List K) → Above x xs → IsStrictlySortedBy R xs → IsStrictlySortedBy R (insert_key R xs k) → (r : Ordering) → R k x ≡ r
      → IsStrictlySortedBy R (match_ordering r (k ∷ x ∷ xs) (x ∷ xs) (x ∷ insert_key R xs k))
  unfolding IsStrictlySortedBy
  rising-insert_at k x xs above rising more Less is = ((is, above_less k x xs is above), (above, rising))
  rising-insert_at k x xs above rising more Equal is = (above, rising)
  rising-insert_at k x xs above rising more Greater is = (above-insert x k xs (greater k x is) above, more)

  rising-insert : (k : K) (xs : List K) → IsStrictlySortedBy R xs → IsStrictlySortedBy R (insert_key R xs k)
  unfolding IsStrictlySortedBy
  rising-insert k [] rising = (tt, tt)
  rising-insert k (x ∷ xs) rising = rising-insert_at k x xs rising.0 rising.1 (rising-insert k xs rising.1) (R k x) refl

  pub rising-none : IsStrictlySortedBy R []
  unfolding IsStrictlySortedBy
  rising-none = tt

  pub rising-fold : (xs acc : List K) → IsStrictlySortedBy R acc → IsStrictlySortedBy R (fold (insert_key R) acc xs)
  rising-fold [] acc rising = rising
  rising-fold (x ∷ xs) acc rising = rising-fold xs (insert_key R acc x) (rising-insert x acc rising)
