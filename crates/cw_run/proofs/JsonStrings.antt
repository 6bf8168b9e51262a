-- The strings of a JSON text in UTF-8 are UTF-8 (RFC 8259).
use Rattle.std.proofs.Common.{◌≡◌, inl, inr, ℕ, zero, suc, ◌+◌, ◌-◌, ◌*◌, ◌/◌, ◌%◌, ◌<◌, ◌≤◌, ◌==◌, ◌&&◌, ◌||◌, ◌∷◌, ◌++◌, [], Bool, true, false, cond, List, Option, Some, None, IsUtf8, nat_le, nat_lt, length, get_or, option_and_then, refl, sym, subst, ap, ◌∙◌, arith, append-nil, ltb-true, ltb-false, length-append}
use Rattle.std.specs.Char.{digit_value, is_digit, encode_utf8}
use Rattle.std.proofs.lemmas.Bool.{and_parts, cases_lt, eqb-true, le-ltb, lt-ltb, le-leb}
use Rattle.std.proofs.lemmas.Str.{IsUtf8-append, IsUtf8-nil, IsUtf8-encode, IsUtf8-drop, IsCharBoundary-after_ascii, encode_ascii, inside_one}
use Rattle.cw_laws.proofs.TaskParts.{then_some}
use Rattle.cw_laws.proofs.ReadContent.{digit-small}
use borrow.Author.Tests.{leb-true, leb-false}
use lib.Utf8.{scalar, scalars, encode, encodes, low_scalar}
use Rattle.json.specs.Text.{code_unit, short_escape, is_high_surrogate, is_low_surrogate, surrogate_pair, Within, plain, after_backslash, after_u, after_high, prepend, content}

-- ---- bytes and characters

pub ascii-first : (x : ℕ) (xs : List ℕ) → x < 128 → IsUtf8 xs → IsUtf8 (x ∷ xs)
ascii-first x xs small u = IsUtf8-append (x ∷ []) xs (subst IsUtf8 (encode_ascii x small) (IsUtf8-encode x (low_scalar x (omega arith)))) u

-- behind a character of one byte
pub ascii-behind : (x : ℕ) (xs : List ℕ) → x < 128 → IsUtf8 (x ∷ xs) → IsUtf8 xs
ascii-behind x xs small u = IsUtf8-drop (x ∷ xs) 1 u (IsCharBoundary-after_ascii (x ∷ xs) 0 u (omega arith) small)

encode-some : (c : ℕ) → 1 ≤ length (encode c)
unfolding encode
encode-some c = at (nat_lt c 128) (nat_lt c 2048) (nat_lt c 65536) where
  at : (x y z : Bool) → 1 ≤ length (cond x (c ∷ []) (cond y ((192 + c / 64) ∷ (128 + c % 64) ∷ []) (cond z ((224 + c / 4096) ∷ (128 + c / 64 % 64) ∷ (128 + c % 64) ∷ []) ((240 + c / 262144) ∷ (128 + c / 4096 % 64) ∷ (128 + c / 64 % 64) ∷ (128 + c % 64) ∷ []))))
  at true y z = omega arith
  at false true z = omega arith
  at false false true = omega arith
  at false false false = omega arith

-- a character of more bytes: each is none of ASCII
pub record IsLong (x : ℕ) (xs : List ℕ) : Type 0 where
  pub char : ℕ
  pub rest : List ℕ
  pub is : x ∷ xs ≡ encode char ++ rest
  pub one : IsUtf8 (encode char)
  pub utf8 : IsUtf8 rest
  pub high : (k : ℕ) → k < length (encode char) → 128 ≤ get_or (encode char) k 0

long-first : (x : ℕ) (xs : List ℕ) → 128 ≤ x → IsUtf8 (x ∷ xs) → IsLong x xs
long-first x xs big (([], (ok, is))) = absurd (cc)
long-first x xs big ((c ∷ cs, (ok, is))) =
    let parts = and_parts (scalar c) (scalars cs) ok in
    let large : 128 ≤ c = elim (cases_lt c 128) [
      | inl small ↦ absurd (let same : x ≡ c = ap (λ (l : List ℕ). get_or l 0 0) (sym is ∙ ap (λ (l : List ℕ). l ++ encodes cs) (encode_ascii c small)) in omega (arith, same, big, small))
      | inr h ↦ h
    ] in
    record {
      char = c;
      rest = encodes cs;
      is = sym is;
      one = IsUtf8-encode c parts.0;
      utf8 = (cs, (parts.1, refl));
      high = λ k below. elim (cases_lt (get_or (encode c) k 0) 128) [
        | inl low ↦ absurd (omega (arith, large, low, inside_one c [] (encode c) k (sym (append-nil (encode c))) below low))
        | inr h ↦ h
      ];
    }

-- ---- the content of a string

-- bytes that are none of ASCII stand for themselves
content-high : (ys rest : List ℕ) → ((k : ℕ) → k < length ys → 128 ≤ get_or ys k 0) → content plain (ys ++ rest) ≡ prepend ys (content plain rest)
unfolding content
content-high [] rest high = at (content plain rest) where
  at : (o : Option (List ℕ)) → o ≡ prepend [] o
  at None = refl
  at (Some s) = refl
content-high (y ∷ ys) rest high =
    let big : 128 ≤ y = high 0 (omega arith) in
    let quote : (y == 34) ≡ false = none y 34 big (omega arith) in
    let backslash : (y == 92) ≡ false = none y 92 big (omega arith) in
    let control : nat_lt y 32 ≡ false = not-below y 32 (omega (arith, big)) in
    rw (quote, backslash, control, content-high ys rest (λ k below. high (suc k) (omega (arith, below)))) (twice y ys (content plain rest)) where
      none : (x n : ℕ) → 128 ≤ x → n < 128 → (x == n) ≡ false
      none x n big small = at (x == n) refl where
        at : (b : Bool) → (x == n) ≡ b → b ≡ false
        at true same = absurd (omega (arith, eqb-true x n same, big, small))
        at false is = refl

      not-below : (x n : ℕ) → n ≤ x → nat_lt x n ≡ false
      not-below x n above = at (nat_lt x n) refl where
        at : (b : Bool) → nat_lt x n ≡ b → b ≡ false
        at true below = absurd (omega (arith, above, ltb-true x n below))
        at false is = refl

      twice : (y : ℕ) (ys : List ℕ) (o : Option (List ℕ)) → prepend (y ∷ []) (prepend ys o) ≡ prepend (y ∷ ys) o
      twice y ys None = refl
      twice y ys (Some s) = refl

-- ---- escapes

-- four digits, and the number that they spell
pub record AreDigits (a b c d u : ℕ) : Type 0 where
  pub first : a < 128
  pub second : b < 128
  pub third : c < 128
  pub fourth : d < 128
  pub fits : u < 65536

unit-digits : (a b c d u : ℕ) → code_unit a b c d ≡ Some u → AreDigits a b c d u
unfolding code_unit
unit-digits a b c d u is = at (is_digit a 16) (is_digit b 16) (is_digit c 16) (is_digit d 16) refl refl refl refl is where
  value : ℕ
  value = digit_value a * 4096 + digit_value b * 256 + digit_value c * 16 + digit_value d

  at : (p q r t : Bool) → is_digit a 16 ≡ p → is_digit b 16 ≡ q → is_digit c 16 ≡ r → is_digit d 16 ≡ t → cond (p && q && r && t) (Some value) None ≡ Some u → AreDigits a b c d u
  at true true true true p q r t is =
      let same : value ≡ u = cc in
      let a_fits : digit_value a < 16 = ltb-true (digit_value a) 16 p in
      let b_fits : digit_value b < 16 = ltb-true (digit_value b) 16 q in
      let c_fits : digit_value c < 16 = ltb-true (digit_value c) 16 r in
      let d_fits : digit_value d < 16 = ltb-true (digit_value d) 16 t in
      record { first = digit-small a p; second = digit-small b q; third = digit-small c r; fourth = digit-small d t; fits = omega (arith, same, a_fits, b_fits, c_fits, d_fits) }
  at false q r t a b c d is = absurd (cc)
  at true false r t a b c d is = absurd (cc)
  at true true false t a b c d is = absurd (cc)
  at true true true false a b c d is = absurd (cc)

-- a short escape is one byte of ASCII for another
short-small : (x c : ℕ) → short_escape x ≡ Some c → (x < 128) × (c < 128)
unfolding short_escape
short-small x c is = first (x == 34) (x == 92) (x == 47) refl refl refl is where
  one : (n m : ℕ) → n < 128 → m < 128 → (x == n) ≡ true → Some m ≡ Some c → (x < 128) × (c < 128)
  one n m small fits same is = let equal : m ≡ c = cc in (omega (arith, eqb-true x n same, small), omega (arith, equal, fits))

  rest : (p q r t u : Bool) → (x == 98) ≡ p → (x == 102) ≡ q → (x == 110) ≡ r → (x == 114) ≡ t → (x == 116) ≡ u →
      cond p (Some 8) (cond q (Some 12) (cond r (Some 10) (cond t (Some 13) (cond u (Some 9) None)))) ≡ Some c → (x < 128) × (c < 128)
  rest true q r t u a b d e g is = one 98 8 (omega arith) (omega arith) a is
  rest false true r t u a b d e g is = one 102 12 (omega arith) (omega arith) b is
  rest false false true t u a b d e g is = one 110 10 (omega arith) (omega arith) d is
  rest false false false true u a b d e g is = one 114 13 (omega arith) (omega arith) e is
  rest false false false false true a b d e g is = one 116 9 (omega arith) (omega arith) g is
  rest false false false false false a b d e g is = absurd (cc)

  itself : (n : ℕ) → n < 128 → (x == n) ≡ true → Some x ≡ Some c → (x < 128) × (c < 128)
  itself n small same is = let equal : x ≡ c = cc in (omega (arith, eqb-true x n same, small), omega (arith, eqb-true x n same, small, equal))

  first : (p q r : Bool) → (x == 34) ≡ p → (x == 92) ≡ q → (x == 47) ≡ r →
      cond (p || q || r) (Some x) (cond (x == 98) (Some 8) (cond (x == 102) (Some 12) (cond (x == 110) (Some 10) (cond (x == 114) (Some 13) (cond (x == 116) (Some 9) None))))) ≡ Some c →
      (x < 128) × (c < 128)
  first true q r a b d is = itself 34 (omega arith) a is
  first false true r a b d is = itself 92 (omega arith) b is
  first false false true a b d is = itself 47 (omega arith) d is
  first false false false a b d is = rest (x == 98) (x == 102) (x == 110) (x == 114) (x == 116) refl refl refl refl refl is

-- ---- all of a string

-- what is in front of something that is there
prepended : (bytes s : List ℕ) (o : Option (List ℕ)) → prepend bytes o ≡ Some s → (rest : List ℕ) × (o ≡ Some rest) × (bytes ++ rest ≡ s)
prepended bytes s None is = absurd (cc)
prepended bytes s (Some rest) is = (rest, refl, cc)

-- a first half of a pair is a high surrogate
abbrev Good : Within → Type 0
Good plain = Unit {0}
Good after_backslash = Unit {0}
Good after_u = Unit {0}
Good (after_high h) = is_high_surrogate h ≡ true

abbrev Reads : ℕ → Type 0
Reads n = (w : Within) (xs : List ℕ) → length xs ≤ n → Good w → IsUtf8 xs → (s : List ℕ) → content w xs ≡ Some s → IsUtf8 s

-- a unit that is no surrogate, and a pair of them, are characters
unit-scalar : (u : ℕ) → u < 65536 → is_high_surrogate u ≡ false → is_low_surrogate u ≡ false → scalar u ≡ true
unit-scalar u fits high low = at (nat_lt u 55296) refl where
  outside : (a b c : ℕ) → (nat_le a u && nat_lt u b) ≡ false → a ≤ u → b ≤ u
  outside a b c is above = elim (cases_lt u b) [ inl below ↦ absurd (inside below (nat_le a u) (nat_lt u b) refl refl is) | inr h ↦ h ] where
    inside : u < b → (p q : Bool) → nat_le a u ≡ p → nat_lt u b ≡ q → (p && q) ≡ false → ⊥
    inside below true true p q is = absurd (let never : true ≡ false = is in cc)
    inside below false q p r is = absurd (omega (arith, above, leb-false a u p))
    inside below true false p r is = absurd (omega (arith, below, ltb-false u b r))

  at : (b : Bool) → nat_lt u 55296 ≡ b → cond b true (nat_le 57344 u && nat_lt u 1114112) ≡ true
  at true below = refl
  at false above =
      let one : 56320 ≤ u = outside 55296 56320 0 high (ltb-false u 55296 above) in
      let two : 57344 ≤ u = outside 56320 57344 0 low one in
      let first : nat_le 57344 u ≡ true = le-leb 57344 u two in
      let second : nat_lt u 1114112 ≡ true = lt-ltb u 1114112 (omega (arith, fits)) in
      rw (first, second) refl

pair-scalar : (h l : ℕ) → is_high_surrogate h ≡ true → is_low_surrogate l ≡ true → scalar (surrogate_pair h l) ≡ true
pair-scalar h l high low =
    let a = and-both (nat_le 55296 h) (nat_lt h 56320) high in
    let b = and-both (nat_le 56320 l) (nat_lt l 57344) low in
    let h_above : 55296 ≤ h = leb-true 55296 h a.0 in
    let h_below : h < 56320 = ltb-true h 56320 a.1 in
    let l_above : 56320 ≤ l = leb-true 56320 l b.0 in
    let l_below : l < 57344 = ltb-true l 57344 b.1 in
    let c : ℕ = surrogate_pair h l in
    let above : 65536 ≤ c = omega arith in
    let below : c < 1114112 = omega (arith, h_above, h_below, l_above, l_below) in
    let no : nat_lt c 55296 ≡ false = le-ltb c 55296 (omega (arith, above)) in
    let first : nat_le 57344 c ≡ true = le-leb 57344 c (omega (arith, above)) in
    let second : nat_lt c 1114112 ≡ true = lt-ltb c 1114112 below in
    rw (no, first, second) refl where
      and-both : (p q : Bool) → (p && q) ≡ true → (p ≡ true) × (q ≡ true)
      and-both true q is = (refl, is)
      and-both false q is = absurd (cc)

module _ (n : ℕ) (reads : Reads n) where
  -- a byte that stands for itself
  ascii-read : (x : ℕ) (xs : List ℕ) → length xs ≤ n → x < 128 → IsUtf8 (x ∷ xs) → (s : List ℕ) → prepend (x ∷ []) (content plain xs) ≡ Some s → IsUtf8 s
  ascii-read x xs short small u s is =
      let rest = prepended (x ∷ []) s (content plain xs) is in
      subst IsUtf8 rest.2 (ascii-first x rest.0 small (reads plain xs short tt (ascii-behind x xs small u) rest.0 rest.1))

  long-read : (x : ℕ) (xs : List ℕ) → length xs ≤ n → 128 ≤ x → IsUtf8 (x ∷ xs) → (s : List ℕ) → content plain (x ∷ xs) ≡ Some s → IsUtf8 s
  long-read x xs short big u s is =
      let long : IsLong x xs = long-first x xs big u in
      let all : content plain (encode long.char ++ long.rest) ≡ Some s = subst (λ l. content plain l ≡ Some s) long.is is in
      let rest = prepended (encode long.char) s (content plain long.rest) (sym (content-high (encode long.char) long.rest long.high) ∙ all) in
      let size : suc (length xs) ≡ length (encode long.char) + length long.rest = ap length long.is ∙ length-append (encode long.char) long.rest in
      subst IsUtf8 rest.2 (IsUtf8-append (encode long.char) rest.0 long.one
      (reads plain long.rest (omega (arith, short, size, encode-some long.char)) tt long.utf8 rest.0 rest.1))

  plain-read : (x : ℕ) (xs : List ℕ) → length xs ≤ n → IsUtf8 (x ∷ xs) → (s : List ℕ) → content plain (x ∷ xs) ≡ Some s → IsUtf8 s
  unfolding content
  plain-read x xs short u s is = elim (cases_lt x 128) [
    | inr big ↦ long-read x xs short big u s is
    | inl small ↦ at small (x == 34) (x == 92) (nat_lt x 32) refl is
  ] where
    at : x < 128 → (a b c : Bool) → (x == 92) ≡ b → cond a (Some []) (cond b (content after_backslash xs) (cond c None (prepend (x ∷ []) (content plain xs)))) ≡ Some s → IsUtf8 s
    at small true b c is found = let none : [] ≡ s = cc in subst IsUtf8 none IsUtf8-nil
    at small false true c is found = reads after_backslash xs short tt (ascii-behind x xs small u) s found
    at small false false true is found = absurd (cc)
    at small false false false is found = ascii-read x xs short small u s found

  -- behind a backslash
  backslash-read : (x : ℕ) (xs : List ℕ) → length xs ≤ n → IsUtf8 (x ∷ xs) → (s : List ℕ) → content after_backslash (x ∷ xs) ≡ Some s → IsUtf8 s
  unfolding content
  backslash-read x xs short u s is = at (x == 117) refl is where
    at : (b : Bool) → (x == 117) ≡ b → cond b (content after_u xs) (option_and_then (λ c. prepend (c ∷ []) (content plain xs)) (short_escape x)) ≡ Some s → IsUtf8 s
    at true same found = reads after_u xs short tt (ascii-behind x xs (omega (arith, eqb-true x 117 same)) u) s found
    at false other found =
        let it = then_some (λ c. prepend (c ∷ []) (content plain xs)) (short_escape x) s found in
        let small = short-small x it.0 it.1 in
        let rest = prepended (it.0 ∷ []) s (content plain xs) it.2 in
        subst IsUtf8 rest.2 (ascii-first it.0 rest.0 small.1 (reads plain xs short tt (ascii-behind x xs small.0 u) rest.0 rest.1))

  -- four digits
  behind-digits : (a b c d v : ℕ) (xs : List ℕ) → AreDigits a b c d v → IsUtf8 (a ∷ b ∷ c ∷ d ∷ xs) → IsUtf8 xs
  behind-digits a b c d v xs digits u = ascii-behind d xs digits.fourth (ascii-behind c (d ∷ xs) digits.third (ascii-behind b (c ∷ d ∷ xs) digits.second (ascii-behind a (b ∷ c ∷ d ∷ xs) digits.first u)))

  unit-read : (a b c d : ℕ) (xs : List ℕ) → length xs ≤ n → IsUtf8 (a ∷ b ∷ c ∷ d ∷ xs) → (s : List ℕ) → content after_u (a ∷ b ∷ c ∷ d ∷ xs) ≡ Some s → IsUtf8 s
  unfolding content
  unit-read a b c d xs short u s is = of it.0 (unit-digits a b c d it.0 it.1) (is_high_surrogate it.0) (is_low_surrogate it.0) refl refl it.2 where
    it : (v : ℕ) × (code_unit a b c d ≡ Some v) × (cond (is_high_surrogate v) (content (after_high v) xs) (cond (is_low_surrogate v) None (prepend (encode_utf8 v) (content plain xs))) ≡ Some s)
    it = then_some (λ v. cond (is_high_surrogate v) (content (after_high v) xs) (cond (is_low_surrogate v) None (prepend (encode_utf8 v) (content plain xs)))) (code_unit a b c d) s is

    of : (v : ℕ) → AreDigits a b c d v → (high low : Bool) → is_high_surrogate v ≡ high → is_low_surrogate v ≡ low →
        cond high (content (after_high v) xs) (cond low None (prepend (encode_utf8 v) (content plain xs))) ≡ Some s → IsUtf8 s
    of v digits true low p q found = reads (after_high v) xs short p (behind-digits a b c d v xs digits u) s found
    of v digits false true p q found = absurd (cc)
    of v digits false false p q found =
        let rest = prepended (encode_utf8 v) s (content plain xs) found in
        subst IsUtf8 rest.2 (IsUtf8-append (encode_utf8 v) rest.0 (IsUtf8-encode v (unit-scalar v digits.fits p q))
        (reads plain xs short tt (behind-digits a b c d v xs digits u) rest.0 rest.1))

  -- the second half of a pair
  pair-read : (h x y a b c d : ℕ) (xs : List ℕ) → length xs ≤ n → is_high_surrogate h ≡ true → IsUtf8 (x ∷ y ∷ a ∷ b ∷ c ∷ d ∷ xs) → (s : List ℕ) →
      content (after_high h) (x ∷ y ∷ a ∷ b ∷ c ∷ d ∷ xs) ≡ Some s → IsUtf8 s
  unfolding content
  pair-read h x y a b c d xs short high u s is = at (x == 92) (y == 117) refl refl is where
    of : x < 128 → y < 128 → (v : ℕ) → AreDigits a b c d v → (low : Bool) → is_low_surrogate v ≡ low → cond low (prepend (encode_utf8 (surrogate_pair h v)) (content plain xs)) None ≡ Some s → IsUtf8 s
    of x_small y_small v digits false p found = absurd (cc)
    of x_small y_small v digits true p found =
        let rest = prepended (encode_utf8 (surrogate_pair h v)) s (content plain xs) found in
        let behind : IsUtf8 (a ∷ b ∷ c ∷ d ∷ xs) = ascii-behind y (a ∷ b ∷ c ∷ d ∷ xs) y_small (ascii-behind x (y ∷ a ∷ b ∷ c ∷ d ∷ xs) x_small u) in
        subst IsUtf8 rest.2 (IsUtf8-append (encode_utf8 (surrogate_pair h v)) rest.0 (IsUtf8-encode (surrogate_pair h v) (pair-scalar h v high p))
        (reads plain xs short tt (behind-digits a b c d v xs digits behind) rest.0 rest.1))

    at : (p q : Bool) → (x == 92) ≡ p → (y == 117) ≡ q →
        cond (p && q) (option_and_then (λ l. cond (is_low_surrogate l) (prepend (encode_utf8 (surrogate_pair h l)) (content plain xs)) None) (code_unit a b c d)) None ≡ Some s → IsUtf8 s
    at false q p r found = absurd (cc)
    at true false p r found = absurd (cc)
    at true true p r found =
        let it = then_some (λ l. cond (is_low_surrogate l) (prepend (encode_utf8 (surrogate_pair h l)) (content plain xs)) None) (code_unit a b c d) s found in
        of (omega (arith, eqb-true x 92 p)) (omega (arith, eqb-true y 117 r)) it.0 (unit-digits a b c d it.0 it.1) (is_low_surrogate it.0) refl it.2

-- a string in UTF-8 has a content in UTF-8
content-reads : (n : ℕ) → Reads n
unfolding content
content-reads n plain [] short good u s is = absurd (cc)
content-reads n after_backslash [] short good u s is = absurd (cc)
content-reads n after_u [] short good u s is = absurd (cc)
content-reads n after_u (a ∷ []) short good u s is = absurd (cc)
content-reads n after_u (a ∷ b ∷ []) short good u s is = absurd (cc)
content-reads n after_u (a ∷ b ∷ c ∷ []) short good u s is = absurd (cc)
content-reads n (after_high h) [] short good u s is = absurd (cc)
content-reads n (after_high h) (x ∷ []) short good u s is = absurd (cc)
content-reads n (after_high h) (x ∷ y ∷ []) short good u s is = absurd (cc)
content-reads n (after_high h) (x ∷ y ∷ a ∷ []) short good u s is = absurd (cc)
content-reads n (after_high h) (x ∷ y ∷ a ∷ b ∷ []) short good u s is = absurd (cc)
content-reads n (after_high h) (x ∷ y ∷ a ∷ b ∷ c ∷ []) short good u s is = absurd (cc)
content-reads zero plain (x ∷ xs) short good u s is = absurd (omega (arith, short))
content-reads zero after_backslash (x ∷ xs) short good u s is = absurd (omega (arith, short))
content-reads zero after_u (a ∷ b ∷ c ∷ d ∷ xs) short good u s is = absurd (omega (arith, short))
content-reads zero (after_high h) (x ∷ y ∷ a ∷ b ∷ c ∷ d ∷ xs) short good u s is = absurd (omega (arith, short))
content-reads (suc n) plain (x ∷ xs) short good u s is = plain-read n (content-reads n) x xs (omega (arith, short)) u s is
content-reads (suc n) after_backslash (x ∷ xs) short good u s is = backslash-read n (content-reads n) x xs (omega (arith, short)) u s is
content-reads (suc n) after_u (a ∷ b ∷ c ∷ d ∷ xs) short good u s is = unit-read n (content-reads n) a b c d xs (omega (arith, short)) u s is
content-reads (suc n) (after_high h) (x ∷ y ∷ a ∷ b ∷ c ∷ d ∷ xs) short good u s is = pair-read n (content-reads n) h x y a b c d xs (omega (arith, short)) good u s is

pub content-utf8 : (xs s : List ℕ) → IsUtf8 xs → content plain xs ≡ Some s → IsUtf8 s
content-utf8 xs s u is = content-reads (length xs) plain xs (omega arith) tt u s is
