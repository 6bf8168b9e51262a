-- Bytes that are lines, each with its end.
use Rattle.std.proofs.Common.{◌≡◌, ◌≢◌, ℕ, suc, ◌+◌, ◌-◌, ◌<◌, ◌≤◌, List, [], ◌∷◌, ◌++◌, length, get_or, take, drop, nat_eq, true, refl, sym, ap, subst, ◌∙◌, arith, append_assoc, ◌⊎◌, inl, inr}
use Rattle.std.proofs.lemmas.Bool.{eq-eqb, eqb-true, cases_lt}
use Rattle.std.proofs.lemmas.List.{length-take, length-drop, get_or-take, get_or-drop, drop_more}
use Rattle.std.proofs.lemmas.List.Elements.{All-nil, All-cons, All-append}
use Rattle.std.proofs.Math.Seq.{take-add}
use Rattle.cw_feed.specs.Yield.{IsLine, joined, AreLinesOf, EndsLine, between}

pub joined-append : (xs ys : List (List ℕ)) → joined (xs ++ ys) ≡ joined xs ++ joined ys
unfolding joined
joined-append [] ys = refl
joined-append (x ∷ xs) ys = ap (λ l. x ++ 10 ∷ l) (joined-append xs ys) ∙ sym (append_assoc x (10 ∷ joined xs) (joined ys))

pub joined-one : (line : List ℕ) → joined (line ∷ []) ≡ line ++ 10 ∷ []
unfolding joined
joined-one line = refl

pub joined-none : joined [] ≡ []
unfolding joined
joined-none = refl

-- no bytes are no lines
pub no_lines : (bytes : List ℕ) → bytes ≡ [] → AreLinesOf bytes []
no_lines bytes none = record { whole = none ∙ sym joined-none; each = All-nil IsLine }

-- lines of bytes and of more bytes
pub AreLinesOf-append : (xs ys : List ℕ) (lines more : List (List ℕ)) → AreLinesOf xs lines → AreLinesOf ys more → AreLinesOf (xs ++ ys) (lines ++ more)
AreLinesOf-append xs ys lines more first second = record {
  whole = ap (λ l. l ++ ys) first.whole ∙ ap (λ l. joined lines ++ l) second.whole ∙ sym (joined-append lines more);
  each = All-append IsLine lines more first.each second.each;
}

-- bytes in which none ends a line
pub IsLine-from_none : (xs : List ℕ) → ((j : ℕ) → j < length xs → nat_eq (get_or xs j 0) 10 ≡ true → ⊥) → IsLine xs
IsLine-from_none [] none = All-nil (λ byte. byte ≢ 10)
IsLine-from_none (x ∷ xs) none =
    All-cons (λ byte. byte ≢ 10) x xs (λ is. none 0 (omega arith) (eq-eqb x 10 is)) (IsLine-from_none xs (λ j below. none (suc j) (omega arith)))

-- a line that is found from a place on
module _ (bytes : List ℕ) (at line : ℕ) (below : line < length (drop at bytes)) (here : nat_eq (get_or (drop at bytes) line 0) 10 ≡ true)
    (before : (j : ℕ) → j < line → nat_eq (get_or (drop at bytes) j 0) 10 ≡ true → ⊥) where
  found_line : IsLine (take line (drop at bytes))
  found_line =
      IsLine-from_none (take line (drop at bytes))
      (λ j within is.
      let low : j < line = omega (arith, length-take line (drop at bytes)) in
      before j low (ap (λ byte. nat_eq byte 10) (sym (get_or-take line (drop at bytes) j 0 low)) ∙ is))

  -- the bytes up to its end
  take-line : take (at + (line + 1)) bytes ≡ take at bytes ++ (take line (drop at bytes) ++ 10 ∷ [])
  take-line =
      take-add at (line + 1) bytes
      ∙ ap (λ xs. take at bytes ++ xs)
      (take-add line 1 (drop at bytes)
      ∙ ap (λ xs. take line (drop at bytes) ++ take 1 xs) (drop_more (drop at bytes) line 0 below)
      ∙ ap (λ byte. take line (drop at bytes) ++ byte ∷ []) (eqb-true (get_or (drop at bytes) line 0) 10 here))

  pub one_line_more : (lines : List (List ℕ)) → AreLinesOf (take at bytes) lines → AreLinesOf (take (at + (line + 1)) bytes) (lines ++ take line (drop at bytes) ∷ [])
  one_line_more lines so_far =
      subst (λ (xs : List ℕ). AreLinesOf xs (lines ++ take line (drop at bytes) ∷ [])) (sym take-line)
      (AreLinesOf-append (take at bytes) (take line (drop at bytes) ++ 10 ∷ []) lines (take line (drop at bytes) ∷ []) so_far
      (record { whole = sym (joined-one (take line (drop at bytes))); each = All-cons IsLine (take line (drop at bytes)) [] found_line (All-nil IsLine) }))

-- where no line ends from a place on, and the last byte ends one, it is the end
pub at_the_end : (bytes : List ℕ) (at : ℕ) → EndsLine bytes 0 (length bytes) → at ≤ length bytes
    → ((j : ℕ) → j < length (drop at bytes) → nat_eq (get_or (drop at bytes) j 0) 10 ≡ true → ⊥) → at ≡ length bytes
at_the_end bytes at ends within none = judged (cases_lt at (length bytes))
  where
    judged : (at < length bytes) ⊎ (length bytes ≤ at) → at ≡ length bytes
    judged (inr done) = omega arith
    judged (inl before) =
        let last : ℕ = length bytes - 1 - at in
        let place : at + last ≡ length bytes - 1 = omega arith in
        let is : get_or (drop at bytes) last 0 ≡ 10 = get_or-drop at bytes last 0 ∙ ap (λ i. get_or bytes i 0) place ∙ ends.ended (omega arith) in
        absurd (none last (omega (arith, length-drop at bytes)) (eq-eqb (get_or (drop at bytes) last 0) 10 is))

-- the bytes between two positions end a line where the feed does
pub EndsLine-between : (bytes : List ℕ) (from to : ℕ) → EndsLine bytes from to → from < to → EndsLine (between bytes from to) 0 (length (between bytes from to))
EndsLine-between bytes from to ends further = record {
  ordered = omega arith;
  within = λ some. omega arith;
  ended = λ some.
      let size : length (between bytes from to) ≡ to - from = omega (arith, length-take (to - from) (drop from bytes), length-drop from bytes, ends.within further) in
      let place : from + (to - from - 1) ≡ to - 1 = omega arith in
      ap (λ n. get_or (between bytes from to) (n - 1) 0) size
      ∙ get_or-take (to - from) (drop from bytes) (to - from - 1) 0 (omega arith)
      ∙ get_or-drop from bytes (to - from - 1) 0
      ∙ ap (λ i. get_or bytes i 0) place
      ∙ ends.ended further;
}
