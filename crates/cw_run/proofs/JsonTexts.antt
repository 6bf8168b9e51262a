-- What is read of a JSON text in UTF-8 has texts in UTF-8, and objects whose keys rise.
use Rattle.std.proofs.Common.{◌≡◌, ℕ, zero, suc, ◌+◌, ◌<◌, ◌==◌, ◌&&◌, ◌∷◌, ◌++◌, [], Bool, true, false, cond, List, Option, Some, None, IsUtf8, nat_eq, length, drop, get_or, option_and_then, refl, sym, subst, ap, ◌∙◌, arith, append_assoc}
use Rattle.std.specs.List.{AllByRecursion, starts_with}
use Rattle.std.proofs.lemmas.Bool.{eqb-true}
use Rattle.std.proofs.lemmas.Str.{IsUtf8-drop, IsCharBoundary-after_ascii}
use Rattle.json.specs.Token.{Token, begin_object, end_object, begin_array, end_array, key, string, number, boolean, null, bad}
use Rattle.json.specs.Ascii as ascii
use Rattle.json.specs.Text.{content, plain}
use Rattle.json.specs.Word.{is_operator, is_space, head, number_before, after_number, ends_word, word}
use Rattle.json.specs.Lex.{Lexeme, token, comma, colon, Class, quote, backslash, operator, space, other, class, operator_lexeme, string_token, Mode, between, in_word, in_string, in_escape, lex_byte, lex, Place, fresh, after_value, after_comma, after_key, begins_colon, may_begin, may_close, if_allowed, place_token, punctuate, tokens}
use Rattle.json.specs.Json as json
use Rattle.serde_json.specs.Read.{max_depth}
use Rattle.cw_run.proofs.JsonStrings.{content-utf8}
use Rattle.cw_run.proofs.Altering.{made}
use Rattle.cw_laws.proofs.TaskParts.{then_some}

-- ---- tokens

-- a token's text
abbrev pub IsText : Token → Type 0
IsText (key s) = IsUtf8 s
IsText (string s) = IsUtf8 s
IsText _ = Unit {0}

abbrev AreTokens : List Token → Type 0
AreTokens = AllByRecursion IsText

abbrev IsLexeme : Lexeme → Type 0
IsLexeme (token t) = IsText t
IsLexeme comma = Unit {0}
IsLexeme colon = Unit {0}

-- either of two
either-lexeme : (b : Bool) (x y : Lexeme) → IsLexeme x → IsLexeme y → IsLexeme (cond b x y)
either-lexeme true x y one two = one
either-lexeme false x y one two = two

either-text : (b : Bool) (x y : Token) → IsText x → IsText y → IsText (cond b x y)
either-text true x y one two = one
either-text false x y one two = two

operator-text : (x : ℕ) → IsLexeme (operator_lexeme x)
operator-text x =
    either-lexeme (x == ascii.open_brace) _ _ tt (either-lexeme (x == ascii.close_brace) _ _ tt (either-lexeme (x == ascii.open_bracket) _ _ tt
    (either-lexeme (x == ascii.close_bracket) _ _ tt (either-lexeme (x == ascii.comma) _ _ tt tt))))

number-text : (t : List ℕ) (o : Option (List ℕ)) → IsText (number_before t o)
number-text t None = tt
number-text t (Some rest) = either-text (ends_word rest) _ bad tt tt

word-text : (t : List ℕ) → IsText (word t)
unfolding word
word-text t =
    either-text (head t == ascii.lower_t) _ _ (either-text (starts_with nat_eq t ascii.true_text && ends_word (drop (length ascii.true_text) t)) (boolean true) bad tt tt)
    (either-text (head t == ascii.lower_f) _ _ (either-text (starts_with nat_eq t ascii.false_text && ends_word (drop (length ascii.false_text) t)) (boolean false) bad tt tt)
    (either-text (head t == ascii.lower_n) _ _ (either-text (starts_with nat_eq t ascii.null_text && ends_word (drop (length ascii.null_text) t)) null bad tt tt)
    (number-text t (after_number t))))

-- the text behind a byte of ASCII
behind-byte : (front : List ℕ) (x : ℕ) (xs : List ℕ) → x < 128 → IsUtf8 (front ++ x ∷ xs) → IsUtf8 xs
behind-byte front x xs small u =
    let whole : List ℕ = front ++ x ∷ xs in
    let there : get_or whole (length front) 0 ≡ x = at-front front in
    let within : length front < length whole = omega (arith, size front) in
    let behind : drop (length front + 1) whole ≡ xs = dropped front in
    subst IsUtf8 behind (IsUtf8-drop whole (length front + 1) u (IsCharBoundary-after_ascii whole (length front) u within (omega (arith, there, small)))) where
      at-front : (ys : List ℕ) → get_or (ys ++ x ∷ xs) (length ys) 0 ≡ x
      at-front [] = refl
      at-front (y ∷ ys) = at-front ys

      size : (ys : List ℕ) → length (ys ++ x ∷ xs) ≡ length ys + suc (length xs)
      size [] = omega arith
      size (y ∷ ys) = omega (arith, size ys)

      dropped : (ys : List ℕ) → drop (length ys + 1) (ys ++ x ∷ xs) ≡ xs
      dropped [] = refl
      dropped (y ∷ ys) = ap (λ n. drop n (y ∷ (ys ++ x ∷ xs))) (next (length ys)) ∙ dropped ys where
        next : (n : ℕ) → suc n + 1 ≡ suc (n + 1)
        next n = omega arith

-- a byte of a class
quote-small : (x : ℕ) → class x ≡ quote → x < 128
quote-small x is = at (x == ascii.quote) refl is where
  rest : (b c d : Bool) → cond b backslash (cond c operator (cond d space other)) ≡ quote → ⊥
  rest true c d is = cc
  rest false true d is = cc
  rest false false true is = cc
  rest false false false is = cc

  at : (b : Bool) → (x == ascii.quote) ≡ b → cond b quote (cond (x == ascii.backslash) backslash (cond (is_operator x) operator (cond (is_space x) space other))) ≡ quote → x < 128
  at true same is = omega (arith, eqb-true x ascii.quote same)
  at false no_quote is = absurd (rest (x == ascii.backslash) (is_operator x) (is_space x) is)

string-text : (xs : List ℕ) → IsUtf8 xs → IsText (string_token (content plain xs))
string-text xs u = at (content plain xs) refl where
  at : (o : Option (List ℕ)) → content plain xs ≡ o → IsText (string_token o)
  at None none = tt
  at (Some s) there = content-utf8 xs s u there

byte-texts : (m : Mode) (c : Class) (x : ℕ) (xs : List ℕ) (k : Mode → List Lexeme) → ((n : Mode) → AllByRecursion IsLexeme (k n)) → (c ≡ quote → IsUtf8 xs) → AllByRecursion IsLexeme (lex_byte m c x xs k)
byte-texts between quote x xs k each u = (string-text xs (u refl), each in_string)
byte-texts between backslash x xs k each u = (tt, each in_word)
byte-texts between operator x xs k each u = (operator-text x, each between)
byte-texts between space x xs k each u = each between
byte-texts between other x xs k each u = (word-text (x ∷ xs), each in_word)
byte-texts in_word quote x xs k each u = each in_word
byte-texts in_word backslash x xs k each u = each in_word
byte-texts in_word operator x xs k each u = (operator-text x, each between)
byte-texts in_word space x xs k each u = each between
byte-texts in_word other x xs k each u = each in_word
byte-texts in_string quote x xs k each u = each between
byte-texts in_string backslash x xs k each u = each in_escape
byte-texts in_string operator x xs k each u = each in_string
byte-texts in_string space x xs k each u = each in_string
byte-texts in_string other x xs k each u = each in_string
byte-texts in_escape c x xs k each u = each in_string

lex-texts : (m : Mode) (front xs : List ℕ) → IsUtf8 (front ++ xs) → AllByRecursion IsLexeme (lex m xs)
unfolding lex
lex-texts m front [] u = tt
lex-texts m front (x ∷ xs) u =
    let next : IsUtf8 ((front ++ x ∷ []) ++ xs) = subst IsUtf8 (sym (append_assoc front (x ∷ []) xs)) u in
    byte-texts m (class x) x xs (λ n. lex n xs) (λ n. lex-texts n (front ++ x ∷ []) xs next) (λ is. behind-byte front x xs (quote-small x is) u)

-- commas and colons
allowed-texts : (b : Bool) (t : Token) (k : Place → List Token) (next : Place) → IsText t → ((p : Place) → AreTokens (k p)) → AreTokens (if_allowed b t k next)
allowed-texts true t k next is each = (is, each next)
allowed-texts false t k next is each = (tt, tt)

placed-texts : (p : Place) (t : Token) (b : Bool) (k : Place → List Token) → IsText t → ((q : Place) → AreTokens (k q)) → AreTokens (place_token p t b k)
placed-texts p begin_object b k is each = allowed-texts (may_begin p) begin_object k fresh tt each
placed-texts p end_object b k is each = allowed-texts (may_close p) end_object k after_value tt each
placed-texts p begin_array b k is each = allowed-texts (may_begin p) begin_array k fresh tt each
placed-texts p end_array b k is each = allowed-texts (may_close p) end_array k after_value tt each
placed-texts p (key s) b k is each = (tt, tt)
placed-texts p (string s) true k is each = allowed-texts (may_begin p) (key s) k after_key is each
placed-texts p (string s) false k is each = allowed-texts (may_begin p) (string s) k after_value is each
placed-texts p (number s) b k is each = allowed-texts (may_begin p) (number s) k after_value tt each
placed-texts p (boolean v) b k is each = allowed-texts (may_begin p) (boolean v) k after_value tt each
placed-texts p null b k is each = allowed-texts (may_begin p) null k after_value tt each
placed-texts p bad b k is each = (tt, tt)

punctuated : (p : Place) (ls : List Lexeme) → AllByRecursion IsLexeme ls → AreTokens (punctuate p ls)
unfolding punctuate
punctuated fresh [] each = tt
punctuated after_value [] each = tt
punctuated after_comma [] each = (tt, tt)
punctuated after_key [] each = (tt, tt)
punctuated fresh (token t ∷ ls) each = placed-texts fresh t (begins_colon ls) (λ next. punctuate next ls) each.0 (λ q. punctuated q ls each.1)
punctuated after_value (token t ∷ ls) each = placed-texts after_value t (begins_colon ls) (λ next. punctuate next ls) each.0 (λ q. punctuated q ls each.1)
punctuated after_comma (token t ∷ ls) each = placed-texts after_comma t (begins_colon ls) (λ next. punctuate next ls) each.0 (λ q. punctuated q ls each.1)
punctuated after_key (token t ∷ ls) each = placed-texts after_key t (begins_colon ls) (λ next. punctuate next ls) each.0 (λ q. punctuated q ls each.1)
punctuated fresh (comma ∷ ls) each = (tt, tt)
punctuated after_value (comma ∷ ls) each = punctuated after_comma ls each.1
punctuated after_comma (comma ∷ ls) each = (tt, tt)
punctuated after_key (comma ∷ ls) each = (tt, tt)
punctuated fresh (colon ∷ ls) each = (tt, tt)
punctuated after_value (colon ∷ ls) each = (tt, tt)
punctuated after_comma (colon ∷ ls) each = (tt, tt)
punctuated after_key (colon ∷ ls) each = punctuated fresh ls each.1

tokens-texts : (text : List ℕ) → IsUtf8 text → AreTokens (tokens text)
tokens-texts text u = punctuated fresh (lex between text) (lex-texts between [] text u)

-- ---- the grammar

abbrev mutual
  pub IsJson : json.Json → Type 0
  IsJson json.null = Unit {0}
  IsJson (json.boolean b) = Unit {0}
  IsJson (json.number s) = Unit {0}
  IsJson (json.string s) = IsUtf8 s
  IsJson (json.array js) = AreItems js
  IsJson (json.object ms) = AreMembers ms

  pub AreItems : json.Items → Type 0
  AreItems json.no_items = Unit {0}
  AreItems (json.item j js) = IsJson j × AreItems js

  pub AreMembers : json.Members → Type 0
  AreMembers json.no_members = Unit {0}
  AreMembers (json.member k j ms) = IsUtf8 k × IsJson j × AreMembers ms

-- what is parsed of tokens has texts, and so have the tokens that are left
abbrev Parses : {A : Type 0} → (A → Type 0) → json.Parse A → Type 0
Parses {A} P parse = (ts : List Token) → AreTokens ts → (x : A × List Token) → parse ts ≡ Some x → P x.0 × AreTokens x.1

mapped : {A B : Type 0} (P : A → Type 0) (Q : B → Type 0) (f : A → B) → ((a : A) → P a → Q (f a)) → (o : Option (A × List Token)) → ((a : A × List Token) → o ≡ Some a → P a.0 × AreTokens a.1) →
    (x : B × List Token) → json.parse_map f o ≡ Some x → Q x.0 × AreTokens x.1
mapped {A} {B} P Q f so o each x is =
    let it = made (λ (p : A × List Token). (f p.0, p.1)) o x is in
    let parts = each it.0 it.1 in
    subst (λ (y : B × List Token). Q y.0 × AreTokens y.1) it.2 (so it.0.0 parts.0, parts.1)

after-end : (ts rest : List Token) → AreTokens ts → json.after_end_array ts ≡ Some rest → AreTokens rest
after-end [] rest each is = absurd (cc)
after-end (begin_object ∷ ts) rest each is = absurd (cc)
after-end (end_object ∷ ts) rest each is = absurd (cc)
after-end (begin_array ∷ ts) rest each is = absurd (cc)
after-end (end_array ∷ ts) rest each is = let same : ts ≡ rest = cc in subst AreTokens same each.1
after-end (key s ∷ ts) rest each is = absurd (cc)
after-end (string s ∷ ts) rest each is = absurd (cc)
after-end (number s ∷ ts) rest each is = absurd (cc)
after-end (boolean b ∷ ts) rest each is = absurd (cc)
after-end (null ∷ ts) rest each is = absurd (cc)
after-end (bad ∷ ts) rest each is = absurd (cc)

-- a key that was read
abbrev IsKey : Option (List ℕ) → Type 0
IsKey None = Unit {0}
IsKey (Some s) = IsUtf8 s

key-read : Parses IsKey json.read_key
key-read [] each x is = absurd (cc)
key-read (begin_object ∷ ts) each x is = absurd (cc)
key-read (end_object ∷ ts) each x is = let same : (None, ts) ≡ x = cc in subst (λ (y : Option (List ℕ) × List Token). IsKey y.0 × AreTokens y.1) same (tt, each.1)
key-read (begin_array ∷ ts) each x is = absurd (cc)
key-read (end_array ∷ ts) each x is = absurd (cc)
key-read (key s ∷ ts) each x is = let same : (Some s, ts) ≡ x = cc in subst (λ (y : Option (List ℕ) × List Token). IsKey y.0 × AreTokens y.1) same (each.0, each.1)
key-read (string s ∷ ts) each x is = absurd (cc)
key-read (number s ∷ ts) each x is = absurd (cc)
key-read (boolean b ∷ ts) each x is = absurd (cc)
key-read (null ∷ ts) each x is = absurd (cc)
key-read (bad ∷ ts) each x is = absurd (cc)

items-read : (value : json.Parse json.Json) → Parses IsJson value → (n : ℕ) → Parses AreItems (json.items value n)
unfolding json.items
items-read value reads zero ts each x is = absurd (cc)
items-read value reads (suc n) ts each x is = at (json.after_end_array ts) refl is (items-read value reads n) where
  at : (o : Option (List Token)) → json.after_end_array ts ≡ o → json.items_step value (json.items value n) ts o ≡ Some x → Parses AreItems (json.items value n) → AreItems x.0 × AreTokens x.1
  at (Some rest) ended is more = let same : (json.no_items, rest) ≡ x = cc in subst (λ (y : json.Items × List Token). AreItems y.0 × AreTokens y.1) same (tt, after-end ts rest each ended)
  at None ended is more =
      let it = then_some (λ (p : json.Json × List Token). json.parse_map (json.item p.0) (json.items value n p.1)) (value ts) x is in
      let first = reads ts each it.0 it.1 in
      mapped AreItems AreItems (json.item it.0.0) (λ js are. (first.0, are)) (json.items value n it.0.1) (λ a found. more it.0.1 first.1 a found) x it.2

members-read : (value : json.Parse json.Json) → Parses IsJson value → (n : ℕ) → Parses AreMembers (json.members value n)
unfolding json.members
members-read value reads zero ts each x is = absurd (cc)
members-read value reads (suc n) ts each x is = at it.0 (key-read ts each it.0 it.1) it.2 (members-read value reads n) where
  it : (p : Option (List ℕ) × List Token) × (json.read_key ts ≡ Some p) × (json.members_step value (json.members value n) p.0 p.1 ≡ Some x)
  it = then_some (λ (p : Option (List ℕ) × List Token). json.members_step value (json.members value n) p.0 p.1) (json.read_key ts) x is

  step : (o : Option (List ℕ)) (us : List Token) → IsKey o → AreTokens us → json.members_step value (json.members value n) o us ≡ Some x → Parses AreMembers (json.members value n) → AreMembers x.0 × AreTokens x.1
  step None us named each is more = let same : (json.no_members, us) ≡ x = cc in subst (λ (y : json.Members × List Token). AreMembers y.0 × AreTokens y.1) same (tt, each)
  step (Some k) us named each is more =
      let it = then_some (λ (p : json.Json × List Token). json.parse_map (json.member k p.0) (json.members value n p.1)) (value us) x is in
      let first = reads us each it.0 it.1 in
      mapped AreMembers AreMembers (json.member k it.0.0) (λ ms are. (named, first.0, are)) (json.members value n it.0.1) (λ a found. more it.0.1 first.1 a found) x it.2

  at : (p : Option (List ℕ) × List Token) → IsKey p.0 × AreTokens p.1 → json.members_step value (json.members value n) p.0 p.1 ≡ Some x → Parses AreMembers (json.members value n) → AreMembers x.0 × AreTokens x.1
  at p parts is more = step p.0 p.1 parts.0 parts.1 is more

-- a value, where what is nested in it reads so
with-read : (items : json.Parse json.Items) (members : json.Parse json.Members) → Parses AreItems items → Parses AreMembers members → Parses IsJson (json.value_with items members)
with-read items members a o [] each x is = absurd (cc)
with-read items members a o (begin_object ∷ ts) each x is = mapped AreMembers IsJson json.object (λ ms are. are) (members ts) (λ y found. o ts each.1 y found) x is
with-read items members a o (end_object ∷ ts) each x is = absurd (cc)
with-read items members a o (begin_array ∷ ts) each x is = mapped AreItems IsJson json.array (λ js are. are) (items ts) (λ y found. a ts each.1 y found) x is
with-read items members a o (end_array ∷ ts) each x is = absurd (cc)
with-read items members a o (key s ∷ ts) each x is = absurd (cc)
with-read items members a o (string s ∷ ts) each x is = let same : (json.string s, ts) ≡ x = cc in subst (λ (y : json.Json × List Token). IsJson y.0 × AreTokens y.1) same each
with-read items members a o (number s ∷ ts) each x is = let same : (json.number s, ts) ≡ x = cc in subst (λ (y : json.Json × List Token). IsJson y.0 × AreTokens y.1) same (tt, each.1)
with-read items members a o (boolean b ∷ ts) each x is = let same : (json.boolean b, ts) ≡ x = cc in subst (λ (y : json.Json × List Token). IsJson y.0 × AreTokens y.1) same (tt, each.1)
with-read items members a o (null ∷ ts) each x is = let same : (json.null, ts) ≡ x = cc in subst (λ (y : json.Json × List Token). IsJson y.0 × AreTokens y.1) same (tt, each.1)
with-read items members a o (bad ∷ ts) each x is = absurd (cc)

value-read : (depth : ℕ) → Parses IsJson (json.value depth)
unfolding json.value
value-read zero = with-read (λ ts. None) (λ ts. None) (λ ts each x is. absurd (cc)) (λ ts each x is. absurd (cc))
value-read (suc depth) = with-read (λ ts. json.items (json.value depth) (length ts) ts) (λ ts. json.members (json.value depth) (length ts) ts)
    (λ ts. items-read (json.value depth) (value-read depth) (length ts) ts) (λ ts. members-read (json.value depth) (value-read depth) (length ts) ts)

-- the JSON that a text is
pub json-read : (text : List ℕ) → IsUtf8 text → (j : json.Json) → option_and_then (λ p. json.if_last p.0 p.1) (json.value max_depth (tokens text)) ≡ Some j → IsJson j
json-read text u j is =
    let it = then_some (λ (p : json.Json × List Token). json.if_last p.0 p.1) (json.value max_depth (tokens text)) j is in
    let parts = value-read max_depth (tokens text) (tokens-texts text u) it.0 it.1 in
    last it.0.1 it.0.0 parts.0 it.2 where
      last : (ts : List Token) (own : json.Json) → IsJson own → json.if_last own ts ≡ Some j → IsJson j
      last [] own are is = let same : own ≡ j = cc in subst IsJson same are
      last (t ∷ ts) own are is = absurd (cc)
