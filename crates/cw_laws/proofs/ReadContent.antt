-- The content of a string in a text that is UTF-8 is UTF-8.
use Rattle.std.proofs.Common.{◌≡◌, ℕ, zero, suc, ◌+◌, ◌*◌, ◌≤◌, ◌<◌, ◌==◌, ◌&&◌, ◌||◌, Bool, true, false, cond, nat_lt, List, [], ◌∷◌, ◌++◌, length, get_or, Option, Some, None, refl, sym, subst, ◌∙◌, append_assoc, arith, append-nil, length-append}
use Rattle.std.specs.Bool.{⊤}
use Rattle.std.specs.Option.{option_and_then}
use Rattle.std.specs.Char.{IsScalar, is_digit, digit_value, encode_utf8}
use Rattle.std.specs.Str.{IsUtf8}
use Rattle.std.proofs.Math.Seq.{take-append_seam, drop-append-add, get_or-append_seam}
use Rattle.std.proofs.lemmas.Bool.Decides.{nat_tests}
use Rattle.std.proofs.lemmas.Str.{IsUtf8-append, IsUtf8-take, IsUtf8-drop, IsUtf8-encode, IsUtf8-from_ascii, IsCharBoundary-before_ascii, IsCharBoundary-after_ascii}
use Rattle.json.specs.Ascii as ascii
use Rattle.json.specs.Text.{Within, plain, after_backslash, after_u, after_high, content, prepend, code_unit, short_escape, is_high_surrogate, is_low_surrogate, surrogate_pair}

-- ---- a text is cut at a byte below 128

module _ (pre : List ℕ) (x : ℕ) (xs : List ℕ) (small : x < 128) (utf8 : IsUtf8 (pre ++ x ∷ xs)) where
  within : length pre < length (pre ++ x ∷ xs)
  within = omega (arith, length-append pre (x ∷ xs))

  here : get_or (pre ++ x ∷ xs) (length pre) 0 < 128
  here = omega (arith, small, get_or-append_seam pre x xs 0)

  pub cut-before : IsUtf8 pre
  cut-before = subst IsUtf8 (take-append_seam pre (x ∷ xs)) (IsUtf8-take (pre ++ x ∷ xs) (length pre) utf8 (IsCharBoundary-before_ascii (pre ++ x ∷ xs) (length pre) within here))

  pub cut-behind : IsUtf8 xs
  cut-behind = subst IsUtf8 (drop-append-add pre (x ∷ xs) 1) (IsUtf8-drop (pre ++ x ∷ xs) (length pre + 1) utf8 (IsCharBoundary-after_ascii (pre ++ x ∷ xs) (length pre) utf8 within here))

-- ---- escapes

same-byte : (a b : ℕ) → (a == b) ≡ true → a ≡ b
same-byte a b e = grind (arith, nat_tests)

pub digit-small : (c : ℕ) → is_digit c 16 ≡ true → c < 128
digit-small c e = grind (arith, nat_tests)

digit-value : (c : ℕ) → is_digit c 16 ≡ true → digit_value c < 16
digit-value c e = grind (arith, nat_tests)

both : (a b : Bool) → (a && b) ≡ true → (a ≡ true) × (b ≡ true)
both true b e = (refl, e)
both false b e = absurd (cc)

record IsUnit (a b c d u : ℕ) : Type 0 where
  a_small : a < 128
  b_small : b < 128
  c_small : c < 128
  d_small : d < 128
  below : u < 65536

unit-of : (a b c d u : ℕ) → code_unit a b c d ≡ Some u → IsUnit a b c d u
unfolding code_unit
unit-of a b c d u e = by (is_digit a 16 && is_digit b 16 && is_digit c 16 && is_digit d 16) refl e
  where
    by : (t : Bool) → (is_digit a 16 && is_digit b 16 && is_digit c 16 && is_digit d 16) ≡ t
        → cond t (Some (digit_value a * 4096 + digit_value b * 256 + digit_value c * 16 + digit_value d)) None ≡ Some u → IsUnit a b c d u
    by true digits e =
        let abc : ((is_digit a 16 && is_digit b 16 && is_digit c 16) ≡ true) × (is_digit d 16 ≡ true) = both (is_digit a 16 && is_digit b 16 && is_digit c 16) (is_digit d 16) digits in
        let ab : ((is_digit a 16 && is_digit b 16) ≡ true) × (is_digit c 16 ≡ true) = both (is_digit a 16 && is_digit b 16) (is_digit c 16) abc.0 in
        let one : (is_digit a 16 ≡ true) × (is_digit b 16 ≡ true) = both (is_digit a 16) (is_digit b 16) ab.0 in
        let is : digit_value a * 4096 + digit_value b * 256 + digit_value c * 16 + digit_value d ≡ u = cc in
        let va : digit_value a < 16 = digit-value a one.0 in
        let vb : digit_value b < 16 = digit-value b one.1 in
        let vc : digit_value c < 16 = digit-value c ab.1 in
        let vd : digit_value d < 16 = digit-value d abc.1 in
        record { a_small = digit-small a one.0; b_small = digit-small b one.1; c_small = digit-small c ab.1; d_small = digit-small d abc.1; below = omega (arith, is, va, vb, vc, vd) }
    by false digits e = absurd (cc)

record AreSmall (x c : ℕ) : Type 0 where
  byte : x < 128
  stands_for : c < 128

some-small : (x c k : ℕ) (b : Bool) (rest : Option ℕ) → (b ≡ true → AreSmall x k) → (rest ≡ Some c → AreSmall x c) → cond b (Some k) rest ≡ Some c → AreSmall x c
some-small x c k true rest here later e = let same : k ≡ c = cc in subst (AreSmall x) same (here refl)
some-small x c k false rest here later e = later e

byte-small : (x n k : ℕ) → n < 128 → k < 128 → (x == n) ≡ true → AreSmall x k
byte-small x n k below stands e = let same : x ≡ n = same-byte x n e in record { byte = omega (arith, same, below); stands_for = stands }

escape-small : (x c : ℕ) → short_escape x ≡ Some c → AreSmall x c
unfolding short_escape
escape-small x c e =
    some-small x c x ((x == ascii.quote) || (x == ascii.backslash) || (x == ascii.slash)) _ itself
    (some-small x c ascii.backspace (x == ascii.lower_b) _ (byte-small x ascii.lower_b ascii.backspace (omega arith) (omega arith))
    (some-small x c ascii.form_feed (x == ascii.lower_f) _ (byte-small x ascii.lower_f ascii.form_feed (omega arith) (omega arith))
    (some-small x c ascii.line_feed (x == ascii.lower_n) _ (byte-small x ascii.lower_n ascii.line_feed (omega arith) (omega arith))
    (some-small x c ascii.carriage_return (x == ascii.lower_r) _ (byte-small x ascii.lower_r ascii.carriage_return (omega arith) (omega arith))
    (some-small x c ascii.tab (x == ascii.lower_t) None (byte-small x ascii.lower_t ascii.tab (omega arith) (omega arith)) (λ none. absurd (cc))))))) e
  where
    itself : ((x == ascii.quote) || (x == ascii.backslash) || (x == ascii.slash)) ≡ true → AreSmall x x
    itself e = let small : x < 128 = grind (arith, nat_tests) in record { byte = small; stands_for = small }

-- ---- the content

one-byte : (c : ℕ) → c < 128 → IsUtf8 (c ∷ [])
one-byte c small = IsUtf8-from_ascii (c ∷ []) first
  where
    first : (i : ℕ) → get_or (c ∷ []) i 0 < 128
    first zero = small
    first (suc i) = omega arith

unit-scalar : (u : ℕ) → u < 65536 → is_high_surrogate u ≡ false → is_low_surrogate u ≡ false → IsScalar u
unit-scalar u below high low = grind (arith, nat_tests)

pair-scalar : (h l : ℕ) → is_high_surrogate h ≡ true → is_low_surrogate l ≡ true → IsScalar (surrogate_pair h l)
pair-scalar h l high low =
    let above : 0xd800 ≤ h = grind (arith, nat_tests) in
    let below : h < 0xdc00 = grind (arith, nat_tests) in
    let from : 0xdc00 ≤ l = grind (arith, nat_tests) in
    let to : l < 0xe000 = grind (arith, nat_tests) in
    grind (arith, nat_tests)

-- what stands before: bytes of a character that isn't complete, in plain text alone
abbrev MayStandBefore : Within → List ℕ → Type 0
MayStandBefore plain pre = ⊤
MayStandBefore after_backslash pre = pre ≡ []
MayStandBefore after_u pre = pre ≡ []
MayStandBefore (after_high h) pre = (pre ≡ []) × (is_high_surrogate h ≡ true)

prepended : (bytes : List ℕ) (o : Option (List ℕ)) (s : List ℕ) → prepend bytes o ≡ Some s → (t : List ℕ) × (o ≡ Some t) × (bytes ++ t ≡ s)
prepended bytes None s e = absurd (cc)
prepended bytes (Some t) s e = (t, refl, cc)

-- what is known of the content from a place on
abbrev Content : List ℕ → List ℕ → Within → Type 0
Content pre xs w = (s : List ℕ) → content w xs ≡ Some s → IsUtf8 (pre ++ s)

chosen : (b : Bool) (x y : Option (List ℕ)) (s : List ℕ) (P : Type 0) → (b ≡ true → x ≡ Some s → P) → (b ≡ false → y ≡ Some s → P) → cond b x y ≡ Some s → P
chosen true x y s P first second e = first refl e
chosen false x y s P first second e = second refl e

plain-content : (pre : List ℕ) (x : ℕ) (xs : List ℕ) → IsUtf8 (pre ++ x ∷ xs) → (IsUtf8 xs → Content [] xs after_backslash) → Content (pre ++ x ∷ []) xs plain → Content pre (x ∷ xs) plain
unfolding content
plain-content pre x xs utf8 escaped on s =
    chosen (x == ascii.quote) (Some []) _ s (IsUtf8 (pre ++ s))
    (λ quote is.
    let same : x ≡ 34 = same-byte x 34 quote in
    let small : x < 128 = omega (arith, same) in
    let none : [] ≡ s = cc in
    subst (λ l. IsUtf8 (pre ++ l)) none (subst IsUtf8 (sym (append-nil pre)) (cut-before pre x xs small utf8)))
    (λ other. chosen (x == ascii.backslash) (content after_backslash xs) _ s (IsUtf8 (pre ++ s))
    (λ slash is.
    let same : x ≡ 92 = same-byte x 92 slash in
    let small : x < 128 = omega (arith, same) in
    IsUtf8-append pre s (cut-before pre x xs small utf8) (escaped (cut-behind pre x xs small utf8) s is))
    (λ no_slash. chosen (nat_lt x ascii.space) None (prepend (x ∷ []) (content plain xs)) s (IsUtf8 (pre ++ s))
    (λ control none. absurd (cc))
    (λ printed is.
    let rest : (t : List ℕ) × (content plain xs ≡ Some t) × (x ∷ t ≡ s) = prepended (x ∷ []) (content plain xs) s is in
    subst (λ l. IsUtf8 (pre ++ l)) rest.2 (subst IsUtf8 (append_assoc pre (x ∷ []) rest.0) (on rest.0 rest.1)))))

backslash-content : (x : ℕ) (xs : List ℕ) → IsUtf8 (x ∷ xs) → (IsUtf8 xs → Content [] xs after_u) → (IsUtf8 xs → Content [] xs plain) → Content [] (x ∷ xs) after_backslash
unfolding content
backslash-content x xs utf8 unit on s =
    chosen (x == ascii.lower_u) (content after_u xs) _ s (IsUtf8 s)
    (λ u is.
    let same : x ≡ 117 = same-byte x 117 u in
    let small : x < 128 = omega (arith, same) in
    unit (cut-behind [] x xs small utf8) s is)
    (λ other is. by (short_escape x) refl is)
  where
    by : (o : Option ℕ) → short_escape x ≡ o → option_and_then (λ c. prepend (c ∷ []) (content plain xs)) o ≡ Some s → IsUtf8 s
    by None none e = absurd (cc)
    by (Some c) is e =
        let small : AreSmall x c = escape-small x c is in
        let rest : (t : List ℕ) × (content plain xs ≡ Some t) × (c ∷ t ≡ s) = prepended (c ∷ []) (content plain xs) s e in
        subst IsUtf8 rest.2 (IsUtf8-append (c ∷ []) rest.0 (one-byte c small.stands_for) (on (cut-behind [] x xs small.byte utf8) rest.0 rest.1))

-- four bytes below 128
behind-four : (a b c d : ℕ) (xs : List ℕ) → a < 128 → b < 128 → c < 128 → d < 128 → IsUtf8 (a ∷ b ∷ c ∷ d ∷ xs) → IsUtf8 xs
behind-four a b c d xs sa sb sc sd utf8 = cut-behind [] d xs sd (cut-behind [] c (d ∷ xs) sc (cut-behind [] b (c ∷ d ∷ xs) sb (cut-behind [] a (b ∷ c ∷ d ∷ xs) sa utf8)))

unit-content : (a b c d : ℕ) (xs : List ℕ) → IsUtf8 (a ∷ b ∷ c ∷ d ∷ xs) → (IsUtf8 xs → (h : ℕ) → is_high_surrogate h ≡ true → Content [] xs (after_high h)) → (IsUtf8 xs → Content [] xs plain) →
    Content [] (a ∷ b ∷ c ∷ d ∷ xs) after_u
unfolding content
unit-content a b c d xs utf8 high on s e = by (code_unit a b c d) refl e
  where
    by : (o : Option ℕ) → code_unit a b c d ≡ o
        → option_and_then (λ u. cond (is_high_surrogate u) (content (after_high u) xs) (cond (is_low_surrogate u) None (prepend (encode_utf8 u) (content plain xs)))) o ≡ Some s → IsUtf8 s
    by None none e = absurd (cc)
    by (Some u) is e =
        let unit : IsUnit a b c d u = unit-of a b c d u is in
        let rest : IsUtf8 xs = behind-four a b c d xs unit.a_small unit.b_small unit.c_small unit.d_small utf8 in
        chosen (is_high_surrogate u) (content (after_high u) xs) _ s (IsUtf8 s)
        (λ is_high e. high rest u is_high s e)
        (λ not_high. chosen (is_low_surrogate u) None (prepend (encode_utf8 u) (content plain xs)) s (IsUtf8 s)
        (λ is_low none. absurd (cc))
        (λ not_low e.
        let behind : (t : List ℕ) × (content plain xs ≡ Some t) × (encode_utf8 u ++ t ≡ s) = prepended (encode_utf8 u) (content plain xs) s e in
        subst IsUtf8 behind.2 (IsUtf8-append (encode_utf8 u) behind.0 (IsUtf8-encode u (unit-scalar u unit.below not_high not_low)) (on rest behind.0 behind.1)))) e

pair-content : (h s u a b c d : ℕ) (xs : List ℕ) → is_high_surrogate h ≡ true → IsUtf8 (s ∷ u ∷ a ∷ b ∷ c ∷ d ∷ xs) → (IsUtf8 xs → Content [] xs plain) → Content [] (s ∷ u ∷ a ∷ b ∷ c ∷ d ∷ xs) (after_high h)
unfolding content
pair-content h s u a b c d xs high utf8 on out =
    chosen ((s == ascii.backslash) && (u == ascii.lower_u)) _ None out (IsUtf8 out)
    (λ escape e. by (both (s == ascii.backslash) (u == ascii.lower_u) escape) (code_unit a b c d) refl e)
    (λ other none. absurd (cc))
  where
    by : ((s == ascii.backslash) ≡ true) × ((u == ascii.lower_u) ≡ true) → (o : Option ℕ) → code_unit a b c d ≡ o
        → option_and_then (λ l. cond (is_low_surrogate l) (prepend (encode_utf8 (surrogate_pair h l)) (content plain xs)) None) o ≡ Some out → IsUtf8 out
    by escape None none e = absurd (cc)
    by escape (Some l) is e =
        let unit : IsUnit a b c d l = unit-of a b c d l is in
        let slash : s ≡ 92 = same-byte s 92 escape.0 in
        let letter : u ≡ 117 = same-byte u 117 escape.1 in
        let first : s < 128 = omega (arith, slash) in
        let second : u < 128 = omega (arith, letter) in
        let rest : IsUtf8 xs = behind-four a b c d xs unit.a_small unit.b_small unit.c_small unit.d_small
        (cut-behind [] u (a ∷ b ∷ c ∷ d ∷ xs) second (cut-behind [] s (u ∷ a ∷ b ∷ c ∷ d ∷ xs) first utf8)) in
        chosen (is_low_surrogate l) (prepend (encode_utf8 (surrogate_pair h l)) (content plain xs)) None out (IsUtf8 out)
        (λ low e.
        let behind : (t : List ℕ) × (content plain xs ≡ Some t) × (encode_utf8 (surrogate_pair h l) ++ t ≡ out) = prepended (encode_utf8 (surrogate_pair h l)) (content plain xs) out e in
        subst IsUtf8 behind.2 (IsUtf8-append (encode_utf8 (surrogate_pair h l)) behind.0 (IsUtf8-encode (surrogate_pair h l) (pair-scalar h l high low)) (on rest behind.0 behind.1)))
        (λ high none. absurd (cc)) e

no-content : (w : Within) → content w [] ≡ None
unfolding content
no-content plain = refl
no-content after_backslash = refl
no-content after_u = refl
no-content (after_high h) = refl

nothing : (pre xs : List ℕ) (w : Within) → content w xs ≡ None → Content pre xs w
nothing pre xs w none s is = absurd (let never : None ≡ Some s = sym none ∙ is in cc)

unit-short : (a b c : ℕ) → (content after_u (a ∷ []) ≡ None) × (content after_u (a ∷ b ∷ []) ≡ None) × (content after_u (a ∷ b ∷ c ∷ []) ≡ None)
unfolding content
unit-short a b c = (refl, refl, refl)

abbrev AreNone : ℕ → ℕ → ℕ → ℕ → ℕ → ℕ → Type 0
AreNone h s u a b c = (content (after_high h) (s ∷ []) ≡ None) × (content (after_high h) (s ∷ u ∷ []) ≡ None) × (content (after_high h) (s ∷ u ∷ a ∷ []) ≡ None)
    × (content (after_high h) (s ∷ u ∷ a ∷ b ∷ []) ≡ None) × (content (after_high h) (s ∷ u ∷ a ∷ b ∷ c ∷ []) ≡ None)

pair-short : (h s u a b c : ℕ) → AreNone h s u a b c
unfolding content
pair-short h s u a b c = (refl, refl, refl, refl, refl)

abbrev Before : List ℕ → List ℕ → Within → Type 0
Before pre xs w = MayStandBefore w pre → IsUtf8 (pre ++ xs) → Content pre xs w

at-start : (pre xs : List ℕ) (w : Within) → pre ≡ [] → (IsUtf8 xs → Content [] xs w) → IsUtf8 (pre ++ xs) → Content pre xs w
at-start pre xs w none on utf8 s is =
    subst (λ l. IsUtf8 (l ++ s)) (sym none) (on (subst (λ l. IsUtf8 (l ++ xs)) none utf8) s is)

-- what a string holds is UTF-8
pub content-utf8 : (xs pre : List ℕ) (w : Within) → Before pre xs w
content-utf8 [] pre w before utf8 = nothing pre [] w (no-content w)
content-utf8 (x ∷ xs) pre plain before utf8 =
    plain-content pre x xs utf8 (λ u. content-utf8 xs [] after_backslash refl u) (content-utf8 xs (pre ++ x ∷ []) plain tt (subst IsUtf8 (sym (append_assoc pre (x ∷ []) xs)) utf8))
content-utf8 (x ∷ xs) pre after_backslash before utf8 =
    at-start pre (x ∷ xs) after_backslash before (λ u. backslash-content x xs u (λ v. content-utf8 xs [] after_u refl v) (λ v. content-utf8 xs [] plain tt v)) utf8
content-utf8 (a ∷ []) pre after_u before utf8 = nothing pre (a ∷ []) after_u (unit-short a 0 0).0
content-utf8 (a ∷ b ∷ []) pre after_u before utf8 = nothing pre (a ∷ b ∷ []) after_u (unit-short a b 0).1
content-utf8 (a ∷ b ∷ c ∷ []) pre after_u before utf8 = nothing pre (a ∷ b ∷ c ∷ []) after_u (unit-short a b c).2
content-utf8 (a ∷ b ∷ c ∷ d ∷ xs) pre after_u before utf8 =
    at-start pre (a ∷ b ∷ c ∷ d ∷ xs) after_u before
    (λ u. unit-content a b c d xs u (λ v h high. content-utf8 xs [] (after_high h) (refl, high) v) (λ v. content-utf8 xs [] plain tt v)) utf8
content-utf8 (s ∷ []) pre (after_high h) before utf8 = nothing pre (s ∷ []) (after_high h) (pair-short h s 0 0 0 0).0
content-utf8 (s ∷ u ∷ []) pre (after_high h) before utf8 = nothing pre (s ∷ u ∷ []) (after_high h) (pair-short h s u 0 0 0).1
content-utf8 (s ∷ u ∷ a ∷ []) pre (after_high h) before utf8 = nothing pre (s ∷ u ∷ a ∷ []) (after_high h) (pair-short h s u a 0 0).2
content-utf8 (s ∷ u ∷ a ∷ b ∷ []) pre (after_high h) before utf8 = nothing pre (s ∷ u ∷ a ∷ b ∷ []) (after_high h) (pair-short h s u a b 0).3
content-utf8 (s ∷ u ∷ a ∷ b ∷ c ∷ []) pre (after_high h) before utf8 = nothing pre (s ∷ u ∷ a ∷ b ∷ c ∷ []) (after_high h) (pair-short h s u a b c).4
content-utf8 (s ∷ u ∷ a ∷ b ∷ c ∷ d ∷ xs) pre (after_high h) before utf8 =
    at-start pre (s ∷ u ∷ a ∷ b ∷ c ∷ d ∷ xs) (after_high h) before.0 (λ all. pair-content h s u a b c d xs before.1 all (λ v. content-utf8 xs [] plain tt v)) utf8
