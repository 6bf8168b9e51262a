-- Where all records stand before the point, those stay that are the last one of their key.
use Rattle.std.proofs.Common.{◌≡◌, ℕ, ◌+◌, ◌≤◌, ◌<◌, Bool, false, not, cond, ◌==◌, ◌||◌, leb, max, List, [], ◌∷◌, ◌++◌, length, take, map, refl, ap, ◌∙◌, arith}
use Rattle.std.specs.List.{filter, AllByRecursion}
use Rattle.std.proofs.lemmas.Bool.Decides.{nat_tests}
use Rattle.std.proofs.lemmas.List.{take_all}
use Rattle.cw_bytes.specs.declared.applied.Applied.{Applied}
use Rattle.cw_bytes.specs.Frames.{joined, next_after, staying, is_last}
use Rattle.cw_bytes.proofs.Compacted.{ends, next_after-ends}
use Rattle.cw_compact.specs.Lasts.{stays}

-- all offsets are below a number
abbrev AreBelow : ℕ → List Applied → Type 0
AreBelow n records = AllByRecursion (λ r. r.offset < n) records

low_ends : (low : ℕ) (records : List Applied) → low ≤ ends low records
low_ends low [] = omega arith
low_ends low (r ∷ records) = let rest : max low (r.offset + 1) ≤ ends (max low (r.offset + 1)) records = low_ends (max low (r.offset + 1)) records in omega (arith, rest)

below_ends : (low n : ℕ) (records : List Applied) → ends low records ≤ n → AreBelow n records
below_ends low n [] end = tt
below_ends low n (r ∷ records) end = let rest : max low (r.offset + 1) ≤ ends (max low (r.offset + 1)) records = low_ends (max low (r.offset + 1)) records in
    (omega (arith, rest, end), below_ends (max low (r.offset + 1)) n records end)

all_below : (records : List Applied) → AreBelow (next_after records) records
all_below records = let e : next_after records ≡ ends 0 records = next_after-ends records in
    below_ends 0 (next_after records) records (omega (arith, e))

below_front : (n : ℕ) (front back : List Applied) → AreBelow n (front ++ back) → AreBelow n front
below_front n [] back all = tt
below_front n (r ∷ front) back all = (all.0, below_front n front back all.1)

below_back : (n : ℕ) (front back : List Applied) → AreBelow n (front ++ back) → AreBelow n back
below_back n [] back all = all
below_back n (r ∷ front) back all = below_back n front back all.1

not_reached : (n offset : ℕ) → offset < n → leb n offset ≡ false
not_reached n offset less = grind (arith, nat_tests)

module _ (n : ℕ) (test : Applied → Bool) where
  one_frame : (records : List Applied) → AreBelow n records → filter (λ r. leb n r.offset || test r) records ≡ filter test records
  one_frame [] all = refl
  one_frame (r ∷ records) all =
      ap (λ (b : Bool). cond (b || test r) (r ∷ filter (λ q. leb n q.offset || test q) records) (filter (λ q. leb n q.offset || test q) records)) (not_reached n r.offset all.0)
      ∙ ap (λ (l : List Applied). cond (test r) (r ∷ l) l) (one_frame records all.1)

  each_frame : (frames : List (List Applied)) → AreBelow n (joined frames) → map (filter (λ r. leb n r.offset || test r)) frames ≡ map (filter test) frames
  each_frame [] all = refl
  each_frame (frame ∷ frames) all =
      ap (λ (l : List Applied). l ∷ map (filter (λ r. leb n r.offset || test r)) frames) (one_frame frame (below_front n frame (joined frames) all))
      ∙ ap (λ (l : List (List Applied)). filter test frame ∷ l) (each_frame frames (below_back n frame (joined frames) all))

pub all_before : (frames : List (List Applied)) → staying (stays (take (length (joined frames)) (joined frames))) frames ≡ staying (is_last (joined frames)) frames
all_before frames =
    ap (λ (l : List Applied). staying (stays l) frames) (take_all (length (joined frames)) (joined frames) (omega arith))
    ∙ ap (filter (λ (f : List Applied). not (length f == 0))) (each_frame (next_after (joined frames)) (is_last (joined frames)) frames (all_below (joined frames)))
