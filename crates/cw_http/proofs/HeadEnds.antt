-- Where a head ends: it stays there, whatever bytes follow.
use Rattle.std.proofs.Common.{◌≡◌, ℕ, ◌+◌, ◌-◌, ◌<◌, ◌≤◌, ◌==◌, suc, Bool, true, false, List, [], ◌∷◌, ◌++◌, length, take, drop, get_or, Option, Some, None, if◌then◌else◌, min, unwrap_or, ⊎_elim, refl, sym, ap, ◌∙◌, arith, length-drop}
use Rattle.std.proofs.lemmas.List.{take_all, take-append-le}
use Rattle.std.proofs.Math.Seq.{drop-cons, take-append-add}
use Rattle.std.specs.Option.{option_map}
use Rattle.std.proofs.lemmas.Bool.{cases_lt}
use Rattle.cw_http.specs.HeadEnd.{empty_line, first_of_two, head_length}

-- lengths behind k + 1 bytes
pub map-add : (k : ℕ) (o : Option ℕ) → option_map (λ n. k + n) (option_map suc o) ≡ option_map (λ n. (k + 1) + n) o
map-add k None = refl
map-add k (Some n) = ap Some (omega arith)

-- a byte that is no LF
pub head_length-other : (c : ℕ) (cs : List ℕ) → (c == 10) ≡ false → head_length (c ∷ cs) ≡ option_map suc (head_length cs)
head_length-other c cs other = ap (λ b. option_map suc (if b then first_of_two (empty_line cs) (head_length cs) else head_length cs)) other

-- a LF that no empty line follows
pub head_length-open : (c : ℕ) (cs : List ℕ) → (c == 10) ≡ true → empty_line cs ≡ None → head_length (c ∷ cs) ≡ option_map suc (head_length cs)
head_length-open c cs lf open_line =
    ap (λ b. option_map suc (if b then first_of_two (empty_line cs) (head_length cs) else head_length cs)) lf
    ∙ ap (λ o. option_map suc (first_of_two o (head_length cs))) open_line

-- a LF that an empty line follows
pub head_length-closed : (c : ℕ) (cs : List ℕ) (n : ℕ) → (c == 10) ≡ true → empty_line cs ≡ Some n → head_length (c ∷ cs) ≡ Some (suc n)
head_length-closed c cs n lf line =
    ap (λ b. option_map suc (if b then first_of_two (empty_line cs) (head_length cs) else head_length cs)) lf
    ∙ ap (λ o. option_map suc (first_of_two o (head_length cs))) line

-- bytes at a place, of which the first is no end of a head
pub head_length-more : (bytes : List ℕ) (at : ℕ) → at < length bytes
    → head_length (get_or bytes at 0 ∷ drop (at + 1) bytes) ≡ option_map suc (head_length (drop (at + 1) bytes))
    → option_map (λ n. at + n) (head_length (drop at bytes)) ≡ head_length bytes
    → option_map (λ n. (at + 1) + n) (head_length (drop (at + 1) bytes)) ≡ head_length bytes
head_length-more bytes at within first invariant =
    let next : suc at ≡ at + 1 = omega arith in
    let cut : drop at bytes ≡ get_or bytes at 0 ∷ drop (at + 1) bytes = drop-cons bytes at 0 within ∙ ap (λ n. get_or bytes at 0 ∷ drop n bytes) next in
    sym (map-add at (head_length (drop (at + 1) bytes)))
    ∙ ap (option_map (λ n. at + n)) (sym first)
    ∙ ap (λ xs. option_map (λ n. at + n) (head_length xs)) (sym cut)
    ∙ invariant

-- the slice behind a place
pub slice-behind : (bytes : List ℕ) (at : ℕ) → take (length bytes - at) (drop at bytes) ≡ drop at bytes
slice-behind bytes at = take_all (length bytes - at) (drop at bytes) (omega (arith, length-drop at bytes))

-- bytes that follow change no empty line
empty_line-short : (b : Bool) (next : Option ℕ) (n : ℕ) → (if b then Some 1 else None) ≡ Some n → (if b then Some 1 else next) ≡ Some n
empty_line-short true next n e = e
empty_line-short false next n e = cc

pub empty_line-append : (xs ys : List ℕ) (n : ℕ) → empty_line xs ≡ Some n → empty_line (xs ++ ys) ≡ Some n
empty_line-append [] ys n line = cc
empty_line-append (c ∷ []) [] n line = line
empty_line-append (c ∷ []) (y ∷ ys) n line = empty_line-short (c == 10) (if c == 13 then (if y == 10 then Some 2 else None) else None) n line
empty_line-append (c ∷ d ∷ cs) ys n line = line

-- where a head ends further on, two bytes are there to tell whether an empty line begins
no_head_in : (b : Bool) (n : ℕ) → option_map suc (if b then first_of_two None None else None) ≡ Some n → ⊥
no_head_in true n e = cc
no_head_in false n e = cc

empty_line-known : (cs ys : List ℕ) (n : ℕ) → head_length cs ≡ Some n → empty_line (cs ++ ys) ≡ empty_line cs
empty_line-known [] ys n found = cc
empty_line-known (c ∷ []) ys n found = absurd (no_head_in (c == 10) n found)
empty_line-known (c ∷ d ∷ cs) ys n found = refl

-- one byte of a head, whose rest is found with what follows as without
found_on : (b : Bool) (line line_on rest rest_on : Option ℕ) (n : ℕ)
    → ((k : ℕ) → line ≡ Some k → line_on ≡ Some k) → ((k : ℕ) → rest ≡ Some k → rest_on ≡ Some k) → ((k : ℕ) → rest ≡ Some k → line_on ≡ line)
    → option_map suc (if b then first_of_two line rest else rest) ≡ Some n
    → option_map suc (if b then first_of_two line_on rest_on else rest_on) ≡ Some n
found_on false line line_on None rest_on n lines rests known e = cc
found_on false line line_on (Some m) rest_on n lines rests known e = ap (option_map suc) (rests m refl) ∙ e
found_on true (Some k) line_on rest rest_on n lines rests known e = ap (λ o. option_map suc (first_of_two o rest_on)) (lines k refl) ∙ e
found_on true None line_on None rest_on n lines rests known e = cc
found_on true None line_on (Some m) rest_on n lines rests known e =
    ap (λ o. option_map suc (first_of_two o rest_on)) (known m refl) ∙ ap (option_map suc) (rests m refl) ∙ e

-- nor the length of a head
pub head_length-append : (xs ys : List ℕ) (n : ℕ) → head_length xs ≡ Some n → head_length (xs ++ ys) ≡ Some n
head_length-append [] ys n found = cc
head_length-append (c ∷ cs) ys n found =
    found_on (c == 10) (empty_line cs) (empty_line (cs ++ ys)) (head_length cs) (head_length (cs ++ ys)) n
    (λ k line. empty_line-append cs ys k line) (λ k rest. head_length-append cs ys k rest) (λ k rest. empty_line-known cs ys k rest) found

-- an empty line and a head are within the bytes that they are found in
some_is : (m n : ℕ) → Some m ≡ Some n → m ≡ n
some_is m n e = ap (λ o. unwrap_or o 0) e

empty_line-one : (b : Bool) (n m : ℕ) → (if b then Some 1 else None) ≡ Some n → n ≤ m + 1
empty_line-one true n m e = omega (arith, some_is 1 n e)
empty_line-one false n m e = cc

empty_line-two : (a b c : Bool) (n m : ℕ) → (if a then Some 1 else if b then (if c then Some 2 else None) else None) ≡ Some n → n ≤ m + 2
empty_line-two true b c n m e = omega (arith, some_is 1 n e)
empty_line-two false true true n m e = omega (arith, some_is 2 n e)
empty_line-two false true false n m e = cc
empty_line-two false false c n m e = cc

pub empty_line-within : (xs : List ℕ) (n : ℕ) → empty_line xs ≡ Some n → n ≤ length xs
empty_line-within [] n line = cc
empty_line-within (c ∷ []) n line = empty_line-one (c == 10) n 0 line
empty_line-within (c ∷ d ∷ cs) n line = omega (arith, empty_line-two (c == 10) (c == 13) (d == 10) n (length cs) line)

found_within : (b : Bool) (line rest : Option ℕ) (most n : ℕ) → ((k : ℕ) → line ≡ Some k → k ≤ most) → ((k : ℕ) → rest ≡ Some k → k ≤ most)
    → option_map suc (if b then first_of_two line rest else rest) ≡ Some n → n ≤ suc most
found_within false line None most n lines rests e = cc
found_within false line (Some m) most n lines rests e = omega (arith, rests m refl, some_is (suc m) n e)
found_within true (Some k) rest most n lines rests e = omega (arith, lines k refl, some_is (suc k) n e)
found_within true None None most n lines rests e = cc
found_within true None (Some m) most n lines rests e = omega (arith, rests m refl, some_is (suc m) n e)

pub head_length-within : (xs : List ℕ) (n : ℕ) → head_length xs ≡ Some n → n ≤ length xs
head_length-within [] n found = cc
head_length-within (c ∷ cs) n found =
    omega (
      arith,
      found_within (c == 10) (empty_line cs) (head_length cs) (length cs) n
          (λ k line. empty_line-within cs k line) (λ k rest. head_length-within cs k rest) found,
    )

-- a head that is found in the first bytes of what is kept is found in the first bytes of all
pub head_length-kept : (limit : ℕ) (kept rest : List ℕ) (n : ℕ) → head_length (take limit kept) ≡ Some n → head_length (take limit (kept ++ rest)) ≡ Some n
head_length-kept limit kept rest n found =
    ⊎_elim (λ less. let fits : limit ≤ length kept = omega arith in ap head_length (take-append-le limit kept rest fits) ∙ found)
    (λ more. let whole : take limit kept ≡ kept = take_all limit kept more in
    let split : limit ≡ length kept + (limit - length kept) = omega arith in
    ap (λ k. head_length (take k (kept ++ rest))) split
    ∙ ap head_length (take-append-add kept rest (limit - length kept))
    ∙ head_length-append kept (take (limit - length kept) rest) n (ap head_length (sym whole) ∙ found))
    (cases_lt limit (length kept))

-- the first bytes, as a slice
pub take-min : (xs : List ℕ) (k limit : ℕ) → k ≡ min (length xs) limit → take k xs ≡ take limit xs
take-min xs k limit is =
    ⊎_elim (λ less. let same : k ≡ limit = omega arith in ap (λ n. take n xs) same)
    (λ more. let all : length xs ≤ k = omega arith in take_all k xs all ∙ sym (take_all limit xs more))
    (cases_lt limit (length xs))
