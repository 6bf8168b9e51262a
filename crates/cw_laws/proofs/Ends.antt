-- The ends of parts, as a task's positions: one of them moves.
use Rattle.std.proofs.Common.{◌≡◌, ℕ, zero, suc, ◌<◌, ◌≤◌, ◌∷◌, [], true, false, List, Some, option_map, length, map, slice_index_or, slice_set, slice_get, refl, sym, subst, ◌∙◌, arith}
use Rattle.std.specs.List.{AllByRecursion, IsDistinct, zip}
use Rattle.std.proofs.lemmas.Map.Keys.{IsDistinct-head, IsDistinct-tail}
use Rattle.cw_types.specs.declared.ids.PartKey.{PartKey}
use Rattle.cw_types.specs.Same.{same_part}
use Rattle.cw_types.proofs.SameLemmas.{same_part-Decides, same_part-flip}
use Rattle.cw_laws.proofs.Lists.{each-at, each-weaker}

pub each-get : {X : Type 0} (P : X → Type 0) (xs : List X) (i : ℕ) (x : X) → slice_get xs i ≡ Some x → AllByRecursion P xs → P x
each-get P [] i x is each = cc
each-get P (y ∷ ys) zero x is each = let one : y ≡ x = cc in subst P one each.0
each-get P (y ∷ ys) (suc i) x is each = each-get P ys i x is each.1

pub map-agree : {X : Type 0} (f g : X → ℕ) (xs : List X) → AllByRecursion (λ x. f x ≡ g x) xs → map f xs ≡ map g xs
map-agree f g [] each = refl
map-agree f g (x ∷ xs) each = let here : f x ≡ g x = each.0 in let behind : map f xs ≡ map g xs = map-agree f g xs each.1 in cc

-- positions that are at the ends are not ahead of them
pub zip-at-ends : (end : PartKey → ℕ) (parts : List PartKey) (positions : List ℕ) → positions ≡ map end parts → AllByRecursion (λ (p : PartKey × ℕ). p.1 ≤ end p.0) (zip parts positions)
zip-at-ends end parts positions at = subst (λ ps. AllByRecursion (λ (p : PartKey × ℕ). p.1 ≤ end p.0) (zip parts ps)) (sym at) (at-most parts) where
  at-most : (parts : List PartKey) → AllByRecursion (λ (p : PartKey × ℕ). p.1 ≤ end p.0) (zip parts (map end parts))
  at-most [] = tt
  at-most (part ∷ parts) = (omega arith, at-most parts)

differs : (p q : PartKey) → same_part p q ≡ false → p ≡ q → ⊥
differs p q other same = let is : same_part p q ≡ true = (same_part-Decides p q).1 same in cc

-- the end of one of distinct parts moves, and those of the others stay
pub ends-set : (old new : PartKey → ℕ) (parts : List PartKey) (turn to : ℕ) (d : PartKey) → turn < length parts → IsDistinct same_part parts →
    new (slice_index_or parts turn d) ≡ to → ((q : PartKey) → same_part q (slice_index_or parts turn d) ≡ false → new q ≡ old q) →
    slice_set (map old parts) turn to ≡ map new parts
ends-set old new [] turn to d within distinct moved stays = absurd (omega arith)
ends-set old new (p ∷ parts) zero to d within distinct moved stays =
    let rest : map old parts ≡ map new parts = map-agree old new parts
    (each-weaker (λ q. same_part p q ≡ false) (λ q. old q ≡ new q) parts (λ q other. sym (stays q (same_part-flip q p ∙ other))) (IsDistinct-head same_part p parts distinct)) in
    cc
ends-set old new (p ∷ parts) (suc turn) to d within distinct moved stays =
    let other : same_part p (slice_index_or parts turn d) ≡ false = each-at (λ q. same_part p q ≡ false) parts turn d (omega arith) (IsDistinct-head same_part p parts distinct) in
    let here : new p ≡ old p = stays p other in
    let rest : slice_set (map old parts) turn to ≡ map new parts = ends-set old new parts turn to d (omega arith) (IsDistinct-tail same_part p parts distinct) moved stays in
    cc

-- a fact of each part and its position, where each part has another
pub zip-so : (Q : PartKey → Type 0) (P R : PartKey × ℕ → Type 0) (parts : List PartKey) (positions : List ℕ) → ((p : PartKey × ℕ) → Q p.0 → P p → R p) →
    AllByRecursion Q parts → AllByRecursion P (zip parts positions) → AllByRecursion R (zip parts positions)
zip-so Q P R [] positions so a b = tt
zip-so Q P R (part ∷ parts) [] so a b = tt
zip-so Q P R (part ∷ parts) (n ∷ positions) so a b = (so (part, n) a.0 b.0, zip-so Q P R parts positions so a.1 b.1)
