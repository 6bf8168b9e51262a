-- Each string among the tokens of a text that is UTF-8 is UTF-8, and so is each in the JSON that it is read as.
use Rattle.std.proofs.Common.{◌≡◌, ℕ, ◌<◌, ◌==◌, ◌&&◌, Bool, true, false, cond, List, [], ◌∷◌, ◌++◌, length, take, drop, Option, Some, None, nat_eq, refl, sym, subst, append_assoc, ◌-◌, arith}
use Rattle.std.specs.Bool.{⊤}
use Rattle.std.specs.List.{AllByRecursion, starts_with}
use Rattle.std.specs.Str.{IsUtf8}
use Rattle.std.proofs.lemmas.Bool.Decides.{nat_tests}
use Rattle.json.specs.Ascii as ascii
use Rattle.json.specs.Token.{Token}
use Rattle.json.specs.Token as tok
use Rattle.json.specs.Text.{content, plain}
use Rattle.json.specs.Word.{is_operator, is_space, word, literal, number_before, ends_word, after_number, head}
use Rattle.json.specs.Lex.{Lexeme, token, comma, colon, Class, quote, backslash, operator, space, other, class, operator_lexeme, string_token, Mode, between, in_word, in_string, in_escape, lex_byte, lex, Place, fresh, after_value, after_comma, after_key, begins_colon, may_begin, may_close, if_allowed, place_token, punctuate, tokens}
use Rattle.cw_laws.proofs.ReadContent.{cut-behind, content-utf8}

-- ---- tokens

abbrev pub IsTextToken : Token → Type 0
IsTextToken tok.begin_object = ⊤
IsTextToken tok.end_object = ⊤
IsTextToken tok.begin_array = ⊤
IsTextToken tok.end_array = ⊤
IsTextToken (tok.key s) = IsUtf8 s
IsTextToken (tok.string s) = IsUtf8 s
IsTextToken (tok.number s) = ⊤
IsTextToken (tok.boolean b) = ⊤
IsTextToken tok.null = ⊤
IsTextToken tok.bad = ⊤

abbrev IsTextLexeme : Lexeme → Type 0
IsTextLexeme (token t) = IsTextToken t
IsTextLexeme comma = ⊤
IsTextLexeme colon = ⊤

either : {A : Type 0} (P : A → Type 0) (b : Bool) (x y : A) → P x → P y → P (cond b x y)
either P true x y first second = first
either P false x y first second = second

operator-text : (x : ℕ) → IsTextLexeme (operator_lexeme x)
operator-text x =
    either IsTextLexeme (x == ascii.open_brace) (token tok.begin_object) _ tt
    (either IsTextLexeme (x == ascii.close_brace) (token tok.end_object) _ tt
    (either IsTextLexeme (x == ascii.open_bracket) (token tok.begin_array) _ tt
    (either IsTextLexeme (x == ascii.close_bracket) (token tok.end_array) _ tt
    (either IsTextLexeme (x == ascii.comma) comma colon tt tt))))

number-text : (t : List ℕ) (o : Option (List ℕ)) → IsTextToken (number_before t o)
number-text t None = tt
number-text t (Some rest) = either IsTextToken (ends_word rest) (tok.number (take (length t - length rest) t)) tok.bad tt tt

literal-text : (name : List ℕ) (k : Token) (t : List ℕ) → IsTextToken k → IsTextToken (literal name k t)
literal-text name k t text = either IsTextToken (starts_with nat_eq t name && ends_word (drop (length name) t)) k tok.bad text tt

word-text : (t : List ℕ) → IsTextToken (word t)
unfolding word
word-text t =
    either IsTextToken (head t == ascii.lower_t) (literal ascii.true_text (tok.boolean true) t) _ (literal-text ascii.true_text (tok.boolean true) t tt)
    (either IsTextToken (head t == ascii.lower_f) (literal ascii.false_text (tok.boolean false) t) _ (literal-text ascii.false_text (tok.boolean false) t tt)
    (either IsTextToken (head t == ascii.lower_n) (literal ascii.null_text tok.null t) _ (literal-text ascii.null_text tok.null t tt) (number-text t (after_number t))))

quote-is : (x : ℕ) → class x ≡ quote → x ≡ 34
quote-is x e = by (x == ascii.quote) (x == ascii.backslash) (is_operator x) (is_space x) refl e
  where
    by : (q b o s : Bool) → (x == ascii.quote) ≡ q → cond q quote (cond b backslash (cond o operator (cond s space other))) ≡ quote → x ≡ 34
    by true b o s is e = grind (arith, nat_tests)
    by false true o s is e = absurd (cc)
    by false false true s is e = absurd (cc)
    by false false false true is e = absurd (cc)
    by false false false false is e = absurd (cc)

string-text : (o : Option (List ℕ)) → ((s : List ℕ) → o ≡ Some s → IsUtf8 s) → IsTextToken (string_token o)
string-text None text = tt
string-text (Some s) text = text s refl

abbrev AreTextLexemes : List Lexeme → Type 0
AreTextLexemes = AllByRecursion IsTextLexeme

byte-text : (pre : List ℕ) (x : ℕ) (xs : List ℕ) → IsUtf8 (pre ++ x ∷ xs) → (k : Mode → List Lexeme) → ((next : Mode) → AreTextLexemes (k next)) → (m : Mode) (c : Class) → class x ≡ c →
    AreTextLexemes (lex_byte m c x xs k)
byte-text pre x xs utf8 k each between quote is =
    let same : x ≡ 34 = quote-is x is in
    let small : x < 128 = omega (arith, same) in
    (string-text (content plain xs) (content-utf8 xs [] plain tt (cut-behind pre x xs small utf8)), each in_string)
byte-text pre x xs utf8 k each between backslash is = (tt, each in_word)
byte-text pre x xs utf8 k each between operator is = (operator-text x, each between)
byte-text pre x xs utf8 k each between space is = each between
byte-text pre x xs utf8 k each between other is = (word-text (x ∷ xs), each in_word)
byte-text pre x xs utf8 k each in_word quote is = each in_word
byte-text pre x xs utf8 k each in_word backslash is = each in_word
byte-text pre x xs utf8 k each in_word operator is = (operator-text x, each between)
byte-text pre x xs utf8 k each in_word space is = each between
byte-text pre x xs utf8 k each in_word other is = each in_word
byte-text pre x xs utf8 k each in_string quote is = each between
byte-text pre x xs utf8 k each in_string backslash is = each in_escape
byte-text pre x xs utf8 k each in_string operator is = each in_string
byte-text pre x xs utf8 k each in_string space is = each in_string
byte-text pre x xs utf8 k each in_string other is = each in_string
byte-text pre x xs utf8 k each in_escape c is = each in_string

lex-text : (m : Mode) (pre xs : List ℕ) → IsUtf8 (pre ++ xs) → AreTextLexemes (lex m xs)
unfolding lex
lex-text m pre [] utf8 = tt
lex-text m pre (x ∷ xs) utf8 =
    byte-text pre x xs utf8 (λ next. lex next xs) (λ next. lex-text next (pre ++ x ∷ []) xs (subst IsUtf8 (sym (append_assoc pre (x ∷ []) xs)) utf8)) m (class x) refl

-- ---- commas and colons

abbrev pub AreTextTokens : List Token → Type 0
AreTextTokens = AllByRecursion IsTextToken

allowed-text : (b : Bool) (t : Token) (k : Place → List Token) (next : Place) → IsTextToken t → AreTextTokens (k next) → AreTextTokens (if_allowed b t k next)
allowed-text true t k next text rest = (text, rest)
allowed-text false t k next text rest = (tt, tt)

place-text : (p : Place) (t : Token) (b : Bool) (k : Place → List Token) → IsTextToken t → ((next : Place) → AreTextTokens (k next)) → AreTextTokens (place_token p t b k)
place-text p tok.begin_object b k text rest = allowed-text (may_begin p) tok.begin_object k fresh tt (rest fresh)
place-text p tok.end_object b k text rest = allowed-text (may_close p) tok.end_object k after_value tt (rest after_value)
place-text p tok.begin_array b k text rest = allowed-text (may_begin p) tok.begin_array k fresh tt (rest fresh)
place-text p tok.end_array b k text rest = allowed-text (may_close p) tok.end_array k after_value tt (rest after_value)
place-text p (tok.key s) b k text rest = (tt, tt)
place-text p (tok.string s) true k text rest = allowed-text (may_begin p) (tok.key s) k after_key text (rest after_key)
place-text p (tok.string s) false k text rest = allowed-text (may_begin p) (tok.string s) k after_value text (rest after_value)
place-text p (tok.number s) b k text rest = allowed-text (may_begin p) (tok.number s) k after_value tt (rest after_value)
place-text p (tok.boolean c) b k text rest = allowed-text (may_begin p) (tok.boolean c) k after_value tt (rest after_value)
place-text p tok.null b k text rest = allowed-text (may_begin p) tok.null k after_value tt (rest after_value)
place-text p tok.bad b k text rest = (tt, tt)

punctuate-text : (p : Place) (ls : List Lexeme) → AreTextLexemes ls → AreTextTokens (punctuate p ls)
unfolding punctuate
punctuate-text fresh [] each = tt
punctuate-text after_value [] each = tt
punctuate-text after_comma [] each = (tt, tt)
punctuate-text after_key [] each = (tt, tt)
punctuate-text fresh (token t ∷ ls) each = place-text fresh t (begins_colon ls) (λ next. punctuate next ls) each.0 (λ next. punctuate-text next ls each.1)
punctuate-text after_value (token t ∷ ls) each = place-text after_value t (begins_colon ls) (λ next. punctuate next ls) each.0 (λ next. punctuate-text next ls each.1)
punctuate-text after_comma (token t ∷ ls) each = place-text after_comma t (begins_colon ls) (λ next. punctuate next ls) each.0 (λ next. punctuate-text next ls each.1)
punctuate-text after_key (token t ∷ ls) each = place-text after_key t (begins_colon ls) (λ next. punctuate next ls) each.0 (λ next. punctuate-text next ls each.1)
punctuate-text fresh (comma ∷ ls) each = (tt, tt)
punctuate-text after_value (comma ∷ ls) each = punctuate-text after_comma ls each.1
punctuate-text after_comma (comma ∷ ls) each = (tt, tt)
punctuate-text after_key (comma ∷ ls) each = (tt, tt)
punctuate-text fresh (colon ∷ ls) each = (tt, tt)
punctuate-text after_value (colon ∷ ls) each = (tt, tt)
punctuate-text after_comma (colon ∷ ls) each = (tt, tt)
punctuate-text after_key (colon ∷ ls) each = punctuate-text fresh ls each.1

pub tokens-text : (text : List ℕ) → IsUtf8 text → AreTextTokens (tokens text)
tokens-text text utf8 = punctuate-text fresh (lex between text) (lex-text between [] text utf8)
