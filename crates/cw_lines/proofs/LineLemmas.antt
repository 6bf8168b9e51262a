-- How a text falls into lines.
use Rattle.std.proofs.Common.{◌≡◌, ℕ, ◌+◌, zero, suc, ◌<◌, ◌≤◌, List, [], ◌∷◌, ◌++◌, length, get_or, take, drop, nat_eq, Bool, true, false, cond, refl, ap, ◌∙◌, arith, eqb-true, zero-add, add-one}
use Rattle.std.proofs.lemmas.List.Sums.{sum_by-append, sum_by-cons}
use Rattle.std.specs.List.{onto_first}
use Rattle.cw_lines.specs.Lines.{lines_of, line_ends, is_line}
use Rattle.cw_lines.specs.Plays.{line_behind}

-- both sides of a test that must fail
pub both : (b x : Bool) → cond b false x ≡ true → (b ≡ false) × (x ≡ true)
both true x e = cc
both false x e = (refl, e)

not_true : (b : Bool) → (b ≡ true → ⊥) → b ≡ false
not_true true h = absurd (h refl)
not_true false h = refl

pub is_line-append : (xs ys : List ℕ) → is_line xs ≡ true → is_line ys ≡ true → is_line (xs ++ ys) ≡ true
unfolding is_line
is_line-append [] ys front back = back
is_line-append (c ∷ cs) ys front back =
    let parts = both (nat_eq c 10) (is_line cs) front in
    rw parts.0 (is_line-append cs ys parts.1 back)

pub line_ends-none : line_ends [] ≡ 0
unfolding line_ends
line_ends-none = refl

pub line_ends-one : line_ends (10 ∷ []) ≡ 1
unfolding line_ends
line_ends-one = refl

pub line_ends-append : (xs ys : List ℕ) → line_ends (xs ++ ys) ≡ line_ends xs + line_ends ys
unfolding line_ends
line_ends-append xs ys = sum_by-append (λ x. cond (nat_eq x 10) 1 0) xs ys

-- a line has no line end
pub line_ends-line : (xs : List ℕ) → is_line xs ≡ true → line_ends xs ≡ 0
unfolding is_line line_ends
line_ends-line [] whole = refl
line_ends-line (c ∷ cs) whole =
    let parts = both (nat_eq c 10) (is_line cs) whole in
    sum_by-cons (λ x. cond (nat_eq x 10) 1 0) c cs ∙ rw parts.0 (zero-add _ ∙ line_ends-line cs parts.1)

-- and with one behind it, one
pub line_ends-ended : (xs : List ℕ) → is_line xs ≡ true → line_ends (xs ++ 10 ∷ []) ≡ 1
line_ends-ended xs whole = omega (arith, line_ends-append xs (10 ∷ []), line_ends-line xs whole, line_ends-one)

-- a text in which no byte is a line end
pub is_line-none : (xs : List ℕ) → ((j : ℕ) → 0 ≤ j → j < length xs → nat_eq (get_or xs j 0) 10 ≡ true → ⊥) → is_line xs ≡ true
unfolding is_line
is_line-none [] none = refl
is_line-none (c ∷ cs) none =
    rw (not_true (nat_eq c 10) (none 0 (omega arith) (omega arith))) (is_line-none cs (λ j low within. none (suc j) (omega arith) (omega arith)))

-- the bytes before the first line end
pub is_line-take : (xs : List ℕ) (k : ℕ) → k ≤ length xs → ((j : ℕ) → 0 ≤ j → j < k → nat_eq (get_or xs j 0) 10 ≡ true → ⊥) → is_line (take k xs) ≡ true
unfolding is_line
is_line-take xs zero within none = refl
is_line-take [] (suc k) within none = refl
is_line-take (c ∷ cs) (suc k) within none =
    rw (not_true (nat_eq c 10) (none 0 (omega arith) (omega arith))) (is_line-take cs k (omega arith) (λ j low below. none (suc j) (omega arith) (omega arith)))

-- a text is cut at a line end
pub cut_at : (xs : List ℕ) (k : ℕ) → k < length xs → nat_eq (get_or xs k 0) 10 ≡ true → xs ≡ take k xs ++ 10 ∷ drop (suc k) xs
cut_at [] k within here = absurd (omega arith)
cut_at (c ∷ cs) zero within here = ap (λ b. b ∷ cs) (eqb-true c 10 here)
cut_at (c ∷ cs) (suc k) within here = ap (λ l. c ∷ l) (cut_at cs k (omega arith) here)

pub lines_of-line : (l more : List ℕ) → is_line l ≡ true → lines_of (l ++ 10 ∷ more) ≡ l ∷ lines_of more
unfolding is_line lines_of
lines_of-line [] more whole = refl
lines_of-line (c ∷ cs) more whole =
    let parts = both (nat_eq c 10) (is_line cs) whole in
    rw (parts.0, lines_of-line cs more parts.1) refl

pub lines_of-alone : (l : List ℕ) → is_line l ≡ true → lines_of l ≡ l ∷ []
unfolding is_line lines_of
lines_of-alone [] whole = refl
lines_of-alone (c ∷ cs) whole =
    let parts = both (nat_eq c 10) (is_line cs) whole in
    rw (parts.0, lines_of-alone cs parts.1) refl

-- the first of these lines begins with that text
pub record Begins (l : List ℕ) (ls : List (List ℕ)) : Type 0 where
  pub tail : List ℕ
  pub others : List (List ℕ)
  pub first : ls ≡ (l ++ tail) ∷ others

onto_any : (c : ℕ) (ls : List (List ℕ)) → Begins [] (onto_first c ls)
onto_any c [] = record { tail = c ∷ []; others = []; first = refl }
onto_any c (l ∷ ls) = record { tail = c ∷ l; others = ls; first = refl }

either : (b : Bool) (xs ys : List (List ℕ)) → Begins [] xs → Begins [] ys → Begins [] (cond b xs ys)
either true xs ys front back = front
either false xs ys front back = back

-- there is always a first line
pub begins_any : (xs : List ℕ) → Begins [] (lines_of xs)
unfolding lines_of
begins_any [] = record { tail = []; others = []; first = refl }
begins_any (c ∷ cs) = either (nat_eq c 10) ([] ∷ lines_of cs) (onto_first c (lines_of cs)) (record { tail = []; others = lines_of cs; first = refl }) (onto_any c (lines_of cs))

pub begins : (l more : List ℕ) → is_line l ≡ true → Begins l (lines_of (l ++ more))
unfolding is_line lines_of
begins [] more whole = begins_any more
begins (c ∷ cs) more whole =
    let parts = both (nat_eq c 10) (is_line cs) whole in
    let behind = begins cs more parts.1 in
    record { tail = behind.tail; others = behind.others; first = ap (λ b. cond b ([] ∷ lines_of (cs ++ more)) (onto_first c (lines_of (cs ++ more)))) parts.0 ∙ ap (onto_first c) behind.first }

-- the lines behind a line
pub line_behind-more : (l more : List ℕ) (k : ℕ) → is_line l ≡ true → line_behind (k + 1) (l ++ 10 ∷ more) ≡ line_behind k more
line_behind-more l more k whole = rw (lines_of-line l more whole, add-one) refl

-- the first line
pub line_behind-none : (l : List ℕ) (ls : List (List ℕ)) (bytes : List ℕ) → lines_of bytes ≡ l ∷ ls → line_behind 0 bytes ≡ l
line_behind-none l ls bytes first = rw first refl
