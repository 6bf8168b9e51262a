use Rattle.std.proofs.Common.{◌≡◌, ℕ, ◌-◌, ◌*◌, ◌%◌, ◌^◌, ◌<◌, List, [], ◌∷◌, ◌++◌, length, map, nat_eq, ◌==◌, ◌||◌, true, false, Some, decimal, refl, sym, ap, ◌∙◌, append_assoc, arith}
use Rattle.std.specs.List.{AllByRecursion, flat_map, list_any, IsDistinct}
use Rattle.std.proofs.lemmas.List.{append-nil}
use Rattle.std.proofs.lemmas.Bool.Decides.{nat_tests}
use Rattle.cw_types.specs.Decimal.{number_of}
use Rattle.cw_types.proofs.Decimals.{number_again}
use Rattle.cw_script.specs.declared.directive.PartEnd.{PartEnd}
use Rattle.cw_script.specs.Words.{joined}
use Rattle.cw_script.specs.Pairs.{is_pair_count, pairs_onto, pairs_of, ArePairs}
use Rattle.cw_script.specs.Spelling.{pair_words, pair_text, PairFits, IsWord}
use Rattle.cw_script.proofs.WordsAgain.{decimal_is_word}

-- pairs behind a word, each behind a space
pub joined-pairs : (w : List ℕ) (pairs : List PartEnd) → joined (w ∷ flat_map pair_words pairs) ≡ w ++ flat_map pair_text pairs
joined-pairs w [] = sym (append-nil w)
joined-pairs w (p ∷ ps) = ap (λ ys. w ++ 32 ∷ (decimal p.part ++ 32 ∷ ys)) (joined-pairs (decimal p.to) ps)
    ∙ ap (λ ys. w ++ 32 ∷ ys) (sym (append_assoc (decimal p.part) (32 ∷ decimal p.to) (flat_map pair_text ps)))

pub again_32 : (n : ℕ) → n < 2 ^ 32 → number_of (2 ^ 32 - 1) (decimal n) ≡ Some n
again_32 n h = number_again (2 ^ 32 - 1) n (omega (arith, h)) (omega (arith, h))

pub again_64 : (n : ℕ) → n < 2 ^ 64 → number_of (2 ^ 64 - 1) (decimal n) ≡ Some n
again_64 n h = number_again (2 ^ 64 - 1) n h (omega (arith, h))

pub pairs_are_words : (pairs : List PartEnd) → AllByRecursion PairFits pairs → AllByRecursion IsWord (flat_map pair_words pairs)
pairs_are_words [] h = tt
pairs_are_words (p ∷ ps) h = (decimal_is_word p.part (omega (arith, h.0.part)), (decimal_is_word p.to h.0.to, pairs_are_words ps h.1))

length-pairs : (pairs : List PartEnd) → length (flat_map pair_words pairs) ≡ 2 * length pairs
length-pairs [] = refl
length-pairs (p ∷ ps) = omega (arith, length-pairs ps)

even : (n : ℕ) → (2 * n) % 2 ≡ 0
even n = omega arith

pub pairs_count : (pairs : List PartEnd) → ArePairs pairs → is_pair_count (length (flat_map pair_words pairs)) ≡ true
pairs_count pairs h = rw (length-pairs pairs) (grind (arith, nat_tests, even (length pairs), h.some, h.few))

-- no pair found has the part
abbrev IsNew : List PartEnd → PartEnd → Type 0
IsNew found p = list_any (λ q. q.part == p.part) found ≡ false

new_push : (found : List PartEnd) (p r : PartEnd) → IsNew found r → nat_eq p.part r.part ≡ false → IsNew (found ++ p ∷ []) r
new_push [] p r h differs = rw differs refl
new_push (q ∷ qs) p r h differs = elim (q.part == r.part) as (λ b. (b || list_any (λ q. q.part == r.part) qs) ≡ false → (b || list_any (λ q. q.part == r.part) (qs ++ p ∷ [])) ≡ false)
    [ true ↦ λ e. e | false ↦ λ e. new_push qs p r e differs ] h

new_push_all : (found : List PartEnd) (p : PartEnd) (ps : List PartEnd) → AllByRecursion (IsNew found) ps → AllByRecursion (λ y. nat_eq p.part y ≡ false) (map (λ r. r.part) ps)
    → AllByRecursion (IsNew (found ++ p ∷ [])) ps
new_push_all found p [] new differs = tt
new_push_all found p (r ∷ rs) new differs = (new_push found p r new.0 differs.0, new_push_all found p rs new.1 differs.1)

-- pairs that are spelled behind others are read behind them
pairs_onto_again : (found pairs : List PartEnd) → AllByRecursion PairFits pairs → AllByRecursion (IsNew found) pairs → IsDistinct nat_eq (map (λ p. p.part) pairs)
    → pairs_onto (Some found) (flat_map pair_words pairs) ≡ Some (found ++ pairs)
unfolding IsDistinct
pairs_onto_again found [] fits new distinct = ap Some (sym (append-nil found))
pairs_onto_again found (p ∷ ps) fits new distinct =
    rw (again_32 p.part fits.0.part, again_64 p.to fits.0.to, new.0)
    (pairs_onto_again (found ++ p ∷ []) ps fits.1 (new_push_all found p ps new.1 distinct.0) distinct.1 ∙ ap Some (append_assoc found (p ∷ []) ps))

all_new : (pairs : List PartEnd) → AllByRecursion (IsNew []) pairs
all_new [] = tt
all_new (p ∷ ps) = (refl, all_new ps)

pub pairs_again : (pairs : List PartEnd) → AllByRecursion PairFits pairs → ArePairs pairs → pairs_of (flat_map pair_words pairs) ≡ Some pairs
pairs_again pairs fits named = pairs_onto_again [] pairs fits (all_new pairs) named.distinct
