use Rattle.std.proofs.Common.{◌≡◌, ℕ, zero, suc, ◌+◌, ◌-◌, ◌*◌, ◌^◌, ◌<◌, ◌≤◌, List, [], ◌∷◌, length, get_or, true, Some, None, sym, ap, ◌∙◌, arith, rules, decimal}
use Rattle.std.specs.List.{list_all}
use Rattle.std.specs.Char.{is_ascii_digit}
use Rattle.std.proofs.lemmas.Str.Parse.{IsNumeralModel, numerals_by_fold}
use Rattle.std.proofs.lemmas.Fmt.{digits_decimal, digits_value-decimal, decimal-digits_value, decimal_nonempty, first_decimal, decimal_digit}
use Rattle.std.proofs.lemmas.Bool.Decides.{nat_tests}
use Rattle.cw_types.specs.Decimal.{read_on, is_numeral, number_of}

pub read_on_grows : (n : ℕ) (ds : List ℕ) → n ≤ read_on n ds
read_on_grows n [] = omega arith
read_on_grows n (c ∷ cs) = omega (arith, read_on_grows (10 * n + (c - 48)) cs)

pub own : IsNumeralModel (λ ds. list_all is_ascii_digit ds ≡ true) (read_on 0)
own = numerals_by_fold _ (search rules) read_on (search rules)

numeral_parts : (text : List ℕ) → is_numeral text ≡ true → (list_all is_ascii_digit text ≡ true) × (0 < length text) × (get_or text 0 0 ≡ 48 → length text ≡ 1)
numeral_parts text e = grind (arith, nat_tests)

numeral_from : (text : List ℕ) → list_all is_ascii_digit text ≡ true → 0 < length text → (get_or text 0 0 ≡ 48 → length text ≡ 1) → is_numeral text ≡ true
numeral_from text e some lead = grind (arith, nat_tests)

number_parts : (most n : ℕ) (text : List ℕ) → number_of most text ≡ Some n → (is_numeral text ≡ true) × (read_on 0 text ≤ most) × (read_on 0 text ≡ n)
number_parts most n text e = grind (arith, nat_tests)

number_from : (most n : ℕ) (text : List ℕ) → is_numeral text ≡ true → read_on 0 text ≡ n → n ≤ most → number_of most text ≡ Some n
number_from most n text e is below = grind (arith, nat_tests)

pub number_only : (most n : ℕ) (text : List ℕ) → most < 2 ^ 64 → number_of most text ≡ Some n → (text ≡ decimal n) × (n ≤ most)
number_only most n text small e =
    let parts = number_parts most n text e in
    let digits = numeral_parts text parts.0 in
    (sym (decimal-digits_value own text digits.0 digits.1 digits.2 (omega (arith, parts.1))) ∙ ap decimal parts.2, omega (arith, parts.1, parts.2))

alone : (n : ℕ) → n < 2 ^ 64 → get_or (decimal n) 0 0 ≡ 48 → length (decimal n) ≡ 1
alone zero h e = ap length (decimal_digit 0 (omega arith))
alone (suc k) h e = absurd (omega (arith, first_decimal (suc k) (omega arith) h, e))

decimal_is_numeral : (n : ℕ) → n < 2 ^ 64 → is_numeral (decimal n) ≡ true
decimal_is_numeral n h = numeral_from (decimal n) (digits_decimal own n h) (decimal_nonempty n h) (alone n h)

pub number_again : (most n : ℕ) → n < 2 ^ 64 → n ≤ most → number_of most (decimal n) ≡ Some n
number_again most n h below = number_from most n (decimal n) (decimal_is_numeral n h) (digits_value-decimal own n h) below

past_none : (most : ℕ) (text : List ℕ) → most < read_on 0 text → None ≡ number_of most text
past_none most text past = grind (arith, nat_tests)

-- a number that was passed on the way is too large
pub number_past : (most value digit n : ℕ) (text rest : List ℕ) → most < 2 ^ 64 → (10 * value + (digit - 48) < 2 ^ 64 → ⊥) → read_on value (digit ∷ rest) ≡ read_on 0 text → None ≡ number_of most text
number_past most value digit n text rest small over e =
    let grown : 10 * value + (digit - 48) ≤ read_on (10 * value + (digit - 48)) rest = read_on_grows _ rest in
    let past : most < read_on 0 text = omega (arith, over, grown, e) in
    past_none most text past
