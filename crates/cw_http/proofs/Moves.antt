-- Bytes that were read in pieces.
use Rattle.std.proofs.Common.{◌≡◌, ℕ, ◌+◌, ◌≤◌, List, [], ◌++◌, length, take, Option, Some, None, refl, sym, ap, ◌∙◌, arith, append_assoc}
use Rattle.std.proofs.lemmas.List.{append-nil, take-append-le, take_all, take-take}
use Rattle.std.proofs.Math.Seq.{take-append-add, take-append_seam}
use Rattle.cw_io.specs.Told.{with_front}
use Rattle.cw_http.specs.Kept.{Moved}

with_front-nil : (left : Option (List ℕ)) → left ≡ with_front [] left
with_front-nil None = refl
with_front-nil (Some xs) = refl

with_front-append : (xs ys : List ℕ) (left : Option (List ℕ)) → with_front xs (with_front ys left) ≡ with_front (xs ++ ys) left
with_front-append xs ys None = refl
with_front-append xs ys (Some zs) = ap Some (sym (append_assoc xs ys zs))

-- nothing was read
pub moved_none : (kept kept_now : List ℕ) (left left_now : Option (List ℕ)) → kept_now ≡ kept → left_now ≡ left → Moved kept kept_now left left_now
moved_none kept kept_now left left_now same_kept same_left = record {
  piece = [];
  behind = same_kept ∙ sym (append-nil kept);
  taken = sym same_left ∙ with_front-nil left_now;
}

-- one piece and more
pub moved_then : (k0 k1 k2 : List ℕ) (l0 l1 l2 : Option (List ℕ)) → Moved k0 k1 l0 l1 → Moved k1 k2 l1 l2 → Moved k0 k2 l0 l2
moved_then k0 k1 k2 l0 l1 l2 a b = record {
  piece = a.piece ++ b.piece;
  behind = b.behind ∙ ap (λ k. k ++ b.piece) a.behind ∙ append_assoc k0 a.piece b.piece;
  taken = a.taken ∙ ap (with_front a.piece) b.taken ∙ with_front-append a.piece b.piece l2;
}

-- all bytes stay
pub moved_whole : (k0 k1 : List ℕ) (l0 l1 : Option (List ℕ)) → Moved k0 k1 l0 l1 → with_front k0 l0 ≡ with_front k1 l1
moved_whole k0 k1 l0 l1 a =
    ap (with_front k0) a.taken ∙ with_front-append k0 a.piece l1 ∙ ap (λ k. with_front k l1) (sym a.behind)

-- what is kept behind a read into the place that was made for it
pub piece_kept : (kept whole into post tail : List ℕ) (l n k most : ℕ) → take l whole ≡ kept → l ≡ length kept → n ≤ length into → k ≡ l + n → k ≤ most
    → take k (take most ((take l whole ++ (into ++ post)) ++ tail)) ≡ kept ++ take n into
piece_kept kept whole into post tail l n k most front size fits at within =
    take-take k most ((take l whole ++ (into ++ post)) ++ tail) within
    ∙ ap (λ xs. take k ((xs ++ (into ++ post)) ++ tail)) front
    ∙ ap (take k) (append_assoc kept (into ++ post) tail ∙ ap (λ xs. kept ++ xs) (append_assoc into post tail))
    ∙ ap (λ m. take m (kept ++ (into ++ (post ++ tail)))) (at ∙ ap (λ m. m + n) size)
    ∙ take-append-add kept (into ++ (post ++ tail)) n
    ∙ ap (λ xs. kept ++ xs) (take-append-le n into (post ++ tail) fits)

-- what was kept stands in front of the place that was made
pub front_kept : (kept zeros : List ℕ) (l m : ℕ) → l ≡ length kept → l ≤ m → take l (take m kept ++ zeros) ≡ kept
front_kept kept zeros l m size enough =
    ap (λ xs. take l (xs ++ zeros)) (take_all m kept (omega arith)) ∙ ap (λ k. take k (kept ++ zeros)) size ∙ take-append_seam kept zeros
