-- The offset behind records whose offsets rise.
use Rattle.std.proofs.Common.{◌≡◌, ℕ, ◌+◌, max, true, nat_le, nat_lt, List, [], ◌∷◌, ◌++◌, map, refl, ap, ◌∙◌, arith}
use Rattle.std.specs.List.{fold}
use Rattle.std.proofs.lemmas.List.{map-append}
use Rattle.std.proofs.lemmas.List.Sums.{fold-append}
use Rattle.std.proofs.lemmas.Bool.Decides.{nat_tests}
use Rattle.cw_bytes.specs.declared.applied.Applied.{Applied}
use Rattle.cw_bytes.specs.Frames.{next_after}

next_after-append : (records : List Applied) (r : Applied) → next_after (records ++ r ∷ []) ≡ max (next_after records) (r.offset + 1)
next_after-append records r =
    ap (fold (λ end offset. max end (offset + 1)) 0) (map-append (λ (a : Applied). a.offset) records (r ∷ []))
    ∙ fold-append (λ end offset. max end (offset + 1)) 0 (map (λ (a : Applied). a.offset) records) (r.offset ∷ [])

pub test_above : (end last offset : ℕ) → end ≡ last + 1 → nat_lt last offset ≡ nat_le end offset
test_above end last offset is = grind (arith, nat_tests)

pub test_first : (end offset : ℕ) → end ≡ 0 → true ≡ nat_le end offset
test_first end offset is = grind (arith, nat_tests)
