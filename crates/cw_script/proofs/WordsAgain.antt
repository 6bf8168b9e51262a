use Rattle.std.proofs.Common.{◌≡◌, ℕ, ◌^◌, ◌<◌, ◌≤◌, suc, List, [], ◌∷◌, ◌++◌, length, get_or, nat_eq, Bool, true, false, not, ◌&&◌, decimal, refl, ap, ◌∙◌, arith}
use Rattle.std.specs.List.{AllByRecursion, list_all, position_or_len}
use Rattle.std.specs.Char.{is_ascii_digit}
use Rattle.std.proofs.lemmas.Fmt.{digits_decimal}
use Rattle.std.proofs.lemmas.Bool.Decides.{nat_tests}
use Rattle.std.proofs.lemmas.List.Sums.{fails_before_first}
use Rattle.cw_types.proofs.Decimals.{own}
use Rattle.cw_types.specs.Name.{is_name_byte, IsName}
use Rattle.cw_script.specs.Words.{words, joined}
use Rattle.cw_script.specs.Spelling.{IsWord}

pub words_one : (xs : List ℕ) → IsWord xs → words xs ≡ xs ∷ []
words_one [] h = refl
words_one (c ∷ cs) h = rw (h.0, words_one cs h.1) refl

pub words_step : (xs ys : List ℕ) → IsWord xs → words (xs ++ 32 ∷ ys) ≡ xs ∷ words ys
words_step [] ys h = refl
words_step (c ∷ cs) ys h = rw (h.0, words_step cs ys h.1) refl

-- words that are joined are words again
pub words-joined : (w : List ℕ) (ws : List (List ℕ)) → IsWord w → AllByRecursion IsWord ws → words (joined (w ∷ ws)) ≡ w ∷ ws
words-joined w [] h hs = words_one w h
words-joined w (v ∷ ws) h hs = words_step w (joined (v ∷ ws)) h ∙ ap (λ vs. w ∷ vs) (words-joined v ws hs.0 hs.1)

digit_is_no_space : (b : ℕ) → is_ascii_digit b ≡ true → nat_eq b 32 ≡ false
digit_is_no_space b e = grind (arith, nat_tests)

and_both : (a b : Bool) → (a && b) ≡ true → (a ≡ true) × (b ≡ true)
and_both true b e = (refl, e)
and_both false b e = absurd (cc)

digits_are_word : (ds : List ℕ) → list_all is_ascii_digit ds ≡ true → IsWord ds
digits_are_word [] e = tt
digits_are_word (d ∷ ds) e = let both = and_both (is_ascii_digit d) (list_all is_ascii_digit ds) e in (digit_is_no_space d both.0, digits_are_word ds both.1)

pub decimal_is_word : (n : ℕ) → n < 2 ^ 64 → IsWord (decimal n)
decimal_is_word n h = digits_are_word (decimal n) (digits_decimal own n h)

word_by_places : (xs : List ℕ) → ((k : ℕ) → k < length xs → nat_eq (get_or xs k 0) 32 ≡ false) → IsWord xs
word_by_places [] h = tt
word_by_places (x ∷ xs) h = (h 0 (omega arith), word_by_places xs (λ k within. h (suc k) (omega arith)))

name_byte_is_no_space : (b : ℕ) → not (is_name_byte b) ≡ false → nat_eq b 32 ≡ false
name_byte_is_no_space b e = grind (arith, nat_tests)

name_bytes : (xs : List ℕ) → IsName xs → length xs ≤ position_or_len (λ b. not (is_name_byte b)) xs
name_bytes xs e = grind (arith, nat_tests)

pub name_is_word : (xs : List ℕ) → IsName xs → IsWord xs
name_is_word xs e = word_by_places xs (λ k within.
    name_byte_is_no_space (get_or xs k 0) (fails_before_first (λ b. not (is_name_byte b)) xs k 0 (omega (arith, name_bytes xs e))))
