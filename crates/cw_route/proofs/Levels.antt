use Rattle.std.proofs.Common.{◌≡◌, ℕ, zero, suc, ◌-◌, ◌+◌, ◌<◌, List, [], ◌∷◌, ◌++◌, length, length-append, drop, nat_eq, Bool, true, false, ◌&&◌, cond, ltb, refl, ap, ◌∙◌, arith}
use Rattle.std.proofs.lemmas.Bool.Decides.{nat_tests}
use Rattle.std.proofs.lemmas.List.{drop_at}
use Rattle.std.specs.Str.{bytes_eq}
use Rattle.matchit.specs.Seek.{segment, has_slash, cuts}
use Rattle.cw_route.proofs.Spells.{no_slash_after}

and_false : (b : Bool) → (b && false) ≡ false
and_false true = refl
and_false false = refl

-- a text with no slash doesn't end with one
last_at : (c : ℕ) → has_slash (c ∷ []) ≡ false → nat_eq 47 c ≡ false
last_at c h = at (nat_eq c 47) refl h
  where
    at : (b : Bool) → nat_eq c 47 ≡ b → cond b true false ≡ false → nat_eq 47 c ≡ false
    at true same e = cc
    at false same e = grind (arith, nat_tests, same)

no_end : (n : List ℕ) (k : ℕ) → has_slash n ≡ false → suc k ≡ length n → bytes_eq (47 ∷ []) (drop k n) ≡ false
no_end [] k h e = absurd (omega arith)
no_end (c ∷ []) zero h e = rw (last_at c h) refl
no_end (c ∷ []) (suc k) h e = absurd (omega arith)
no_end (c ∷ d ∷ cs) zero h e = absurd (omega arith)
no_end (c ∷ d ∷ cs) (suc k) h e = no_end (d ∷ cs) k (no_slash_after c (d ∷ cs) h) (omega arith)

pub no_cut : (n : List ℕ) → 0 < length n → has_slash n ≡ false → cuts n (47 ∷ []) ≡ false
no_cut n some h =
    let k : ℕ = length n - 1 in
    let e : suc k ≡ length n = omega arith in
    rw (no_end n k h e) (and_false (ltb 1 (length n)))

segment_step : (c : ℕ) (cs rest : List ℕ) (b : Bool) → nat_eq c 47 ≡ b → cond b true (has_slash cs) ≡ false → segment (cs ++ 47 ∷ rest) ≡ cs ++ 47 ∷ [] → segment (c ∷ (cs ++ 47 ∷ rest)) ≡ c ∷ (cs ++ 47 ∷ [])
segment_step c cs rest true same h inner = cc
segment_step c cs rest false same h inner = rw (same, inner) refl

-- a segment goes up to and with its slash
pub segment_to : (n rest : List ℕ) → has_slash n ≡ false → segment (n ++ 47 ∷ rest) ≡ n ++ 47 ∷ []
segment_to [] rest h = refl
segment_to (c ∷ cs) rest h = segment_step c cs rest (nat_eq c 47) refl h (segment_to cs rest (no_slash_after c cs h))

pub cut_there : (n : List ℕ) → 0 < length n → cuts (n ++ 47 ∷ []) (47 ∷ []) ≡ true
cut_there n some =
    let size : length (n ++ 47 ∷ []) ≡ length n + 1 = length-append n (47 ∷ []) in
    let long : ltb 1 (length (n ++ 47 ∷ [])) ≡ true = grind (arith, nat_tests, size) in
    let back : length (n ++ 47 ∷ []) - 1 ≡ length n = omega (arith, size) in
    let last : drop (length (n ++ 47 ∷ []) - 1) (n ++ 47 ∷ []) ≡ 47 ∷ [] = ap (λ k. drop k (n ++ 47 ∷ [])) back ∙ drop_at n (47 ∷ []) (length n) refl in
    rw (long, last) refl
