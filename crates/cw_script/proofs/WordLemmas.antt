use Rattle.std.proofs.Common.{◌≡◌, ℕ, zero, suc, ◌+◌, ◌-◌, ◌<◌, ◌≤◌, List, [], ◌∷◌, length, get_or, take, drop, add-one, length-drop, nat_eq, ◌==◌, rules, Bool, true, false, cond, refl, ap, ◌∙◌, arith}
use Rattle.std.proofs.lemmas.List.{take_all}
use Rattle.std.specs.List.{onto_first}
use Rattle.cw_script.specs.Words.{words, joined}

not_true : (b : Bool) → (b ≡ true → ⊥) → b ≡ false
not_true true h = absurd (h refl)
not_true false h = refl

-- with no space the line is one word
pub words_none : (xs : List ℕ) → ((j : ℕ) → 0 ≤ j → j < length xs → nat_eq (get_or xs j 0) 32 ≡ true → ⊥) → words xs ≡ xs ∷ []
words_none [] h = refl
words_none (c ∷ cs) h = rw (not_true (nat_eq c 32) (h 0 (omega arith) (omega arith)), words_none cs (λ j low within. h (suc j) (omega arith) (omega arith))) refl

-- where the first space stands at k, the first word is what stands before it
words_at : (xs : List ℕ) (k : ℕ) → k < length xs → ((j : ℕ) → 0 ≤ j → j < k → nat_eq (get_or xs j 0) 32 ≡ true → ⊥) → nat_eq (get_or xs k 0) 32 ≡ true
    → words xs ≡ take k xs ∷ words (drop (suc k) xs)
words_at [] k within before here = absurd (omega arith)
words_at (c ∷ cs) zero within before here = rw here refl
words_at (c ∷ cs) (suc k) within before here =
    rw (not_true (nat_eq c 32) (before 0 (omega arith) (omega arith)), words_at cs k (omega arith) (λ j low below. before (suc j) (omega arith) (omega arith)) here) refl

-- the same with the lengths that code gives
pub words_cut : (xs : List ℕ) (k : ℕ) → k < length xs → ((j : ℕ) → 0 ≤ j → j < k → nat_eq (get_or xs j 0) 32 ≡ true → ⊥) → nat_eq (get_or xs k 0) 32 ≡ true
    → words xs ≡ take k xs ∷ words (take (length xs - (k + 1)) (drop (k + 1) xs))
words_cut xs k within before here =
    let whole : take (length xs - (k + 1)) (drop (k + 1) xs) ≡ drop (k + 1) xs = take_all _ _ (omega (arith, length-drop (k + 1) xs)) in
    words_at xs k within before here ∙ rw (whole, add-one) refl

joined-onto_first : (c : ℕ) (ws : List (List ℕ)) → joined (onto_first c ws) ≡ c ∷ joined ws
joined-onto_first c [] = refl
joined-onto_first c (w ∷ []) = refl
joined-onto_first c (w ∷ v ∷ ws) = refl

-- a text has a first word
words_some : (xs : List ℕ) → (w : List ℕ) × (ws : List (List ℕ)) × (words xs ≡ w ∷ ws)
words_some [] = ([], [], refl)
words_some (c ∷ cs) = elim (c == 32) as (λ b. (w : List ℕ) × (ws : List (List ℕ)) × (cond b ([] ∷ words cs) (onto_first c (words cs)) ≡ w ∷ ws))
    [ true ↦ ([], words cs, refl) | false ↦ let more = words_some cs in (c ∷ more.0, more.1, ap (onto_first c) more.2) ]

-- an empty word in front is a space in front
joined-empty : (ws : List (List ℕ)) (w : List ℕ) (vs : List (List ℕ)) → ws ≡ w ∷ vs → joined ([] ∷ ws) ≡ 32 ∷ joined ws
joined-empty ws w vs e = rw e refl

-- the words of a text give it back
pub joined-words : (xs : List ℕ) → joined (words xs) ≡ xs
joined-words [] = refl
joined-words (c ∷ cs) = elim (c == 32) as (λ b. c == 32 ≡ b → joined (cond b ([] ∷ words cs) (onto_first c (words cs))) ≡ c ∷ cs) [
  | true ↦ λ is. let some = words_some cs in joined-empty (words cs) some.0 some.1 some.2 ∙ ap (λ ys. 32 ∷ ys) (joined-words cs) ∙ ap (λ b. b ∷ cs) (search (rules, is))
  | false ↦ λ is. joined-onto_first c (words cs) ∙ ap (λ ys. c ∷ ys) (joined-words cs)
] refl
