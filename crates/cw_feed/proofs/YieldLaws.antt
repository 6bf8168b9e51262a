-- A yield is there exactly where it should be, is one, and two one behind the other are one.
use Rattle.std.proofs.Common.{◌≡◌, ◌≢◌, ℕ, zero, suc, ◌+◌, ◌-◌, ◌<◌, ◌≤◌, List, [], ◌∷◌, ◌++◌, length, get_or, take, drop, map, refl, sym, ap, subst, ◌∙◌, arith, ◌⊎◌, inl, inr, length-append}
use Rattle.std.specs.List.{All, range_with_len}
use Rattle.std.proofs.lemmas.Bool.{cases_eq, cases_lt}
use Rattle.std.proofs.lemmas.List.{map-append, drop-drop}
use Rattle.std.proofs.lemmas.List.Elements.{All-nil, All-cons, All-head, All-tail}
use Rattle.std.proofs.Math.Seq.{take-add}
use Rattle.cw_feed.specs.Yield.{IsLine, joined, AreLinesOf, EndsLine, between, record_text, records_between}
use Rattle.cw_feed.proofs.Joined.{no_lines, AreLinesOf-append, EndsLine-between}

-- bytes that end a line, as lines
pub record Lines (bytes : List ℕ) : Type 0 where
  pub lines : List (List ℕ)
  pub are : AreLinesOf bytes lines

line_end : (x : ℕ) (xs : List ℕ) → x ≡ 10 → Lines xs → Lines (x ∷ xs)
unfolding joined
line_end x xs is later = record {
  lines = [] ∷ later.lines;
  are = record { whole = ap (λ byte. byte ∷ xs) is ∙ ap (λ l. 10 ∷ l) later.are.whole; each = All-cons IsLine [] later.lines (All-nil (λ byte. byte ≢ 10)) later.are.each };
}

onto_line : (x : ℕ) (xs : List ℕ) (lines : List (List ℕ)) → x ≢ 10 → 0 < length xs → AreLinesOf xs lines → Lines (x ∷ xs)
unfolding joined
onto_line x xs [] other some are = absurd (omega (arith, ap length are.whole))
onto_line x xs (line ∷ lines) other some are = record {
  lines = (x ∷ line) ∷ lines;
  are = record {
    whole = ap (λ l. x ∷ l) are.whole;
    each = All-cons IsLine (x ∷ line) lines (All-cons (λ byte. byte ≢ 10) x line other (All-head IsLine line lines are.each)) (All-tail IsLine line lines are.each);
  };
}

-- bytes whose last one ends a line
LastEnds : List ℕ → Type 0
LastEnds bytes = 0 < length bytes → get_or bytes (length bytes - 1) 0 ≡ 10

last_of_rest : (x : ℕ) (xs : List ℕ) → LastEnds (x ∷ xs) → LastEnds xs
unfolding LastEnds
last_of_rest x xs last some =
    let place : suc (length xs) - 1 ≡ suc (length xs - 1) = omega arith in
    sym (ap (λ i. get_or (x ∷ xs) i 0) place) ∙ last (omega arith)

more_behind : (x : ℕ) (xs : List ℕ) → LastEnds (x ∷ xs) → x ≢ 10 → 0 < length xs
unfolding LastEnds
more_behind x [] last other = absurd (other (last (omega arith)))
more_behind x (y ∷ xs) last other = omega arith

lines_exist : (bytes : List ℕ) → LastEnds bytes → Lines bytes
lines_exist [] last = record { lines = []; are = no_lines [] refl }
lines_exist (x ∷ xs) last = judged (cases_eq x 10) (lines_exist xs (last_of_rest x xs last))
  where
    judged : (x ≡ 10) ⊎ (x ≢ 10) → Lines xs → Lines (x ∷ xs)
    judged (inl is) later = line_end x xs is later
    judged (inr other) later = onto_line x xs later.lines other (more_behind x xs last other) later.are

pub feed_yields : (bytes : List ℕ) (from to : ℕ) → EndsLine bytes from to → Lines (between bytes from to)
unfolding LastEnds
feed_yields bytes from to ends = judged (cases_lt from to)
  where
    judged : (from < to) ⊎ (to ≤ from) → Lines (between bytes from to)
    judged (inl further) = lines_exist (between bytes from to) (λ some. (EndsLine-between bytes from to ends further).ended some)
    judged (inr same) =
        let none : to - from ≡ 0 = omega arith in
        record { lines = []; are = no_lines (between bytes from to) (ap (λ n. take n (drop from bytes)) none) }

-- a line and what stands behind its end
pub record SameSplit (l m a b : List ℕ) : Type 0 where
  pub line : l ≡ m
  pub rest : a ≡ b

first_same : (x y : ℕ) (xs ys : List ℕ) → x ∷ xs ≡ y ∷ ys → (x ≡ y) × (xs ≡ ys)
first_same x y xs ys e = (cc, cc)

split_same : (l m a b : List ℕ) → IsLine l → IsLine m → l ++ 10 ∷ a ≡ m ++ 10 ∷ b → SameSplit l m a b
split_same [] [] a b plain other e = record { line = refl; rest = (first_same 10 10 a b e).1 }
split_same [] (y ∷ m) a b plain other e = absurd (All-head (λ byte. byte ≢ 10) y m other (sym (first_same 10 y a (m ++ 10 ∷ b) e).0))
split_same (x ∷ l) [] a b plain other e = absurd (All-head (λ byte. byte ≢ 10) x l plain (first_same x 10 (l ++ 10 ∷ a) b e).0)
split_same (x ∷ l) (y ∷ m) a b plain other e =
    let parts = first_same x y (l ++ 10 ∷ a) (m ++ 10 ∷ b) e in
    let later : SameSplit l m a b = split_same l m a b (All-tail (λ byte. byte ≢ 10) x l plain) (All-tail (λ byte. byte ≢ 10) y m other) parts.1 in
    record { line = ap (λ byte. byte ∷ l) parts.0 ∙ ap (λ xs. y ∷ xs) later.line; rest = later.rest }

lines_same : (ls ms : List (List ℕ)) → All IsLine ls → All IsLine ms → joined ls ≡ joined ms → ls ≡ ms
unfolding joined
lines_same [] [] plain other e = refl
lines_same [] (m ∷ ms) plain other e = absurd (omega (arith, ap length e, length-append m (10 ∷ joined ms)))
lines_same (l ∷ ls) [] plain other e = absurd (omega (arith, ap length e, length-append l (10 ∷ joined ls)))
lines_same (l ∷ ls) (m ∷ ms) plain other e =
    let split : SameSplit l m (joined ls) (joined ms) = split_same l m (joined ls) (joined ms) (All-head IsLine l ls plain) (All-head IsLine m ms other) e in
    ap (λ line. line ∷ ls) split.line ∙ ap (λ lines. m ∷ lines) (lines_same ls ms (All-tail IsLine l ls plain) (All-tail IsLine m ms other) split.rest)

pub AreLinesOf-one : (bytes : List ℕ) (ls ms : List (List ℕ)) → AreLinesOf bytes ls → AreLinesOf bytes ms → ls ≡ ms
AreLinesOf-one bytes ls ms first second = lines_same ls ms first.each second.each (sym first.whole ∙ second.whole)

-- two spans one behind the other
pub EndsLine-joined : (bytes : List ℕ) (from middle to : ℕ) → EndsLine bytes from middle → EndsLine bytes middle to → EndsLine bytes from to
EndsLine-joined bytes from middle to first second = judged (cases_lt middle to)
  where
    judged : (middle < to) ⊎ (to ≤ middle) → EndsLine bytes from to
    judged (inl more) = record { ordered = omega (arith, first.ordered); within = λ further. second.within more; ended = λ further. second.ended more }
    judged (inr none) = let same : middle ≡ to = omega (arith, second.ordered) in subst (EndsLine bytes from) same first

between-joined : (bytes : List ℕ) (from middle to : ℕ) → from ≤ middle → middle ≤ to → between bytes from middle ++ between bytes middle to ≡ between bytes from to
between-joined bytes from middle to low high =
    let place : from + (middle - from) ≡ middle = omega arith in
    let size : (middle - from) + (to - middle) ≡ to - from = omega arith in
    ap (λ at. take (middle - from) (drop from bytes) ++ take (to - middle) (drop at bytes)) (sym place)
    ∙ ap (λ xs. take (middle - from) (drop from bytes) ++ take (to - middle) xs) (sym (drop-drop (middle - from) from bytes))
    ∙ sym (take-add (middle - from) (to - middle) (drop from bytes))
    ∙ ap (λ n. take n (drop from bytes)) size

pub lines-joined : (bytes : List ℕ) (from middle to : ℕ) (lines more : List (List ℕ)) → EndsLine bytes from middle → EndsLine bytes middle to
    → AreLinesOf (between bytes from middle) lines → AreLinesOf (between bytes middle to) more → AreLinesOf (between bytes from to) (lines ++ more)
lines-joined bytes from middle to lines more first second are others =
    subst (λ (xs : List ℕ). AreLinesOf xs (lines ++ more)) (between-joined bytes from middle to first.ordered second.ordered)
    (AreLinesOf-append (between bytes from middle) (between bytes middle to) lines more are others)

range-joined : (a n k : ℕ) → range_with_len a n ++ range_with_len (a + n) k ≡ range_with_len a (n + k)
range-joined a zero k = ap (λ at. range_with_len at k) (at_zero a) ∙ ap (range_with_len a) (zero_before k)
  where
    at_zero : (a : ℕ) → a + zero ≡ a
    at_zero a = omega arith

    zero_before : (k : ℕ) → k ≡ zero + k
    zero_before k = omega arith
range-joined a (suc n) k =
    let place : a + suc n ≡ a + 1 + n = omega arith in
    let size : suc (n + k) ≡ suc n + k = omega arith in
    ap (λ at. a ∷ (range_with_len (a + 1) n ++ range_with_len at k)) place
    ∙ ap (λ xs. a ∷ xs) (range-joined (a + 1) n k)
    ∙ ap (range_with_len a) size

pub records-joined : (index from middle to : ℕ) → from ≤ middle → middle ≤ to
    → records_between index from middle ++ records_between index middle to ≡ records_between index from to
records-joined index from middle to low high =
    let place : middle ≡ from + (middle - from) = omega arith in
    let size : (middle - from) + (to - middle) ≡ to - from = omega arith in
    sym (map-append (record_text index) (range_with_len from (middle - from)) (range_with_len middle (to - middle)))
    ∙ ap (λ at. map (record_text index) (range_with_len from (middle - from) ++ range_with_len at (to - middle))) place
    ∙ ap (map (record_text index)) (range-joined from (middle - from) (to - middle))
    ∙ ap (λ n. map (record_text index) (range_with_len from n)) size
