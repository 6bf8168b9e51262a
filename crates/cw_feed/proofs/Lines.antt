-- The whole lines of bytes that come in parts.
use Rattle.std.proofs.Common.{◌≡◌, ℕ, zero, suc, ◌+◌, ◌-◌, ◌<◌, ◌≤◌, List, [], ◌∷◌, ◌++◌, length, get_or, take, drop, nat_eq, Bool, true, false, cond, refl, sym, ap, ◌∙◌, arith}
use Rattle.std.proofs.lemmas.Bool.{false_from_ne_true}
use Rattle.std.proofs.lemmas.List.{take-append-drop, drop-append-le, drop-drop, drop_all, append-nil, length-drop}
use Rattle.cw_feed.specs.Cut.{lengths_behind, line_lengths, LineEndsIn, NoLineEndsIn}

-- no line ends at these bytes
abbrev pub NoneEnds : List ℕ → Type 0
NoneEnds xs = (j : ℕ) → j < length xs → nat_eq (get_or xs j 0) 10 ≡ true → ⊥

rest_of : (x : ℕ) (xs : List ℕ) → NoneEnds (x ∷ xs) → NoneEnds xs
rest_of x xs none = λ j below. none (suc j) (omega arith)

first_of : (x : ℕ) (xs : List ℕ) → NoneEnds (x ∷ xs) → nat_eq x 10 ≡ false
first_of x xs none = false_from_ne_true (nat_eq x 10) (none 0 (omega arith))

-- a line that ends at a byte
pub lengths_behind-found : (n : ℕ) (xs : List ℕ) (k : ℕ) (more : List ℕ) → k < length xs → nat_eq (get_or xs k 0) 10 ≡ true
    → ((j : ℕ) → j < k → nat_eq (get_or xs j 0) 10 ≡ true → ⊥)
    → lengths_behind n (xs ++ more) ≡ (n + suc k) ∷ lengths_behind 0 (drop (suc k) xs ++ more)
unfolding lengths_behind
lengths_behind-found n [] k more within here before = absurd (omega arith)
lengths_behind-found n (x ∷ xs) zero more within here before = rw here refl
lengths_behind-found n (x ∷ xs) (suc k) more within here before =
    rw (false_from_ne_true (nat_eq x 10) (before 0 (omega arith)))
    (lengths_behind-found (n + 1) xs k more (omega arith) here (λ j below. before (suc j) (omega arith))
    ∙ ap (λ m. m ∷ lengths_behind 0 (drop (suc k) xs ++ more)) (omega arith))

-- where no line ends there is no whole line
pub lengths_behind-none : (n : ℕ) (xs : List ℕ) → NoneEnds xs → lengths_behind n xs ≡ []
unfolding lengths_behind
lengths_behind-none n [] none = refl
lengths_behind-none n (x ∷ xs) none = rw (first_of x xs none) (lengths_behind-none (n + 1) xs (rest_of x xs none))

long_by : (b : Bool) (n m : ℕ) (lengths after later : List ℕ) → (later ≡ m ∷ lengths → n + 1 < m) → cond b ((n + 1) ∷ after) later ≡ m ∷ lengths → n < m
long_by true n m lengths after later next is = let same : n + 1 ≡ m = cc in omega arith
long_by false n m lengths after later next is = let longer : n + 1 < m = next is in omega arith

-- a line is longer than what stands before
pub longer : (n : ℕ) (bytes : List ℕ) (m : ℕ) (lengths : List ℕ) → lengths_behind n bytes ≡ m ∷ lengths → n < m
unfolding lengths_behind
longer n [] m lengths is = absurd (cc)
longer n (x ∷ xs) m lengths is = long_by (nat_eq x 10) n m lengths (lengths_behind 0 xs) (lengths_behind (n + 1) xs) (λ e. longer (n + 1) xs m lengths e) is

-- a line that doesn't end in the first bytes is longer than these
pub longer_behind : (n : ℕ) (xs more : List ℕ) (m : ℕ) (lengths : List ℕ) → NoneEnds xs → lengths_behind n (xs ++ more) ≡ m ∷ lengths → n + length xs < m
unfolding lengths_behind
longer_behind n [] more m lengths none is = let at : n < m = longer n more m lengths is in omega arith
longer_behind n (x ∷ xs) more m lengths none is =
    let at : n + 1 + length xs < m = longer_behind (n + 1) xs more m lengths (rest_of x xs none) (rw (first_of x xs none) at is) in omega arith

-- what a search for the first line end finds
pub ends_at : (part : List ℕ) (k : ℕ) → k < length part → nat_eq (get_or part k 0) 10 ≡ true
    → ((j : ℕ) → j < k → nat_eq (get_or part j 0) 10 ≡ true → ⊥) → LineEndsIn part (suc k)
ends_at part k within here before = record {
  some = omega arith;
  within = omega arith;
  first = λ more. lengths_behind-found 0 part k more within here before ∙ ap (λ m. m ∷ lengths_behind 0 (drop (suc k) part ++ more)) (omega arith);
}

pub ends_nowhere : (part : List ℕ) → NoneEnds part → NoLineEndsIn part
ends_nowhere part none = record {
  none = lengths_behind-none 0 part none;
  later = λ more n lengths is. let at : 0 + length part < n = longer_behind 0 part more n lengths none is in omega arith;
}

-- bytes from a place on, of which the first part is in view
pub drop-split : (most to : ℕ) (rest : List ℕ) → to ≤ length (take most rest) → drop to rest ≡ drop to (take most rest) ++ drop most rest
drop-split most to rest within = ap (λ xs. drop to xs) (sym (take-append-drop most rest)) ∙ drop-append-le to (take most rest) (drop most rest) within

-- the line from a place on that ends in view
pub line_lengths-ends : (most to line : ℕ) (rest : List ℕ) → to ≤ length (take most rest) → LineEndsIn (drop to (take most rest)) line
    → line_lengths (drop to rest) ≡ line ∷ line_lengths (drop (to + line) rest)
line_lengths-ends most to line rest within ends =
    let inside : line ≤ length (drop to (take most rest)) = ends.within in
    let further : to + line ≤ length (take most rest) = omega (arith, length-drop to (take most rest)) in
    ap line_lengths (drop-split most to rest within)
    ∙ ends.first (drop most rest)
    ∙ ap (λ xs. line ∷ line_lengths (xs ++ drop most rest)) (drop-drop line to (take most rest))
    ∙ ap (λ xs. line ∷ line_lengths xs) (sym (drop-split most (to + line) rest further))

-- where no line ends in view, the line from a place on is longer than the view
pub longer_than_view : (most to : ℕ) (rest : List ℕ) (n : ℕ) (lengths : List ℕ) → to ≤ length (take most rest) → NoLineEndsIn (drop to (take most rest))
    → line_lengths (drop to rest) ≡ n ∷ lengths → length (take most rest) - to < n
longer_than_view most to rest n lengths within none is =
    let at : length (drop to (take most rest)) < n = none.later (drop most rest) n lengths (ap line_lengths (sym (drop-split most to rest within)) ∙ is) in
    omega (arith, length-drop to (take most rest))

-- and where the view is all that there is, there is no whole line
pub no_more_lines : (most to : ℕ) (rest : List ℕ) → length rest ≤ most → to ≤ length (take most rest) → NoLineEndsIn (drop to (take most rest)) → line_lengths (drop to rest) ≡ []
no_more_lines most to rest all within none =
    ap line_lengths (drop-split most to rest within ∙ ap (λ xs. drop to (take most rest) ++ xs) (drop_all most rest all) ∙ append-nil (drop to (take most rest)))
    ∙ none.none
