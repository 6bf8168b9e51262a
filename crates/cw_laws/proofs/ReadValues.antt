-- The JSON that a text is read as has strings that are UTF-8 and whole numbers below 2^64; so a status that is read can
-- be written.
use Rattle.std.proofs.Common.{◌≡◌, ℕ, zero, suc, ◌<◌, ◌^◌, ◌==◌, ◌&&◌, Bool, true, false, cond, nat_lt, nat_le, List, [], ◌∷◌, length, drop, slice_index, Option, Some, None, refl, subst, ap, ◌∙◌, arith}
use Rattle.std.specs.Bool.{⊤}
use Rattle.std.specs.Option.{option_map, option_and_then}
use Rattle.std.specs.Str.{IsUtf8, is_utf8}
use Rattle.std.specs.Float.{binary64, float_is_finite}
use Rattle.std.specs.Ordering.{nat_cmp, match_ordering, ordering_reverse}
use Rattle.std.proofs.lemmas.Cmp.{nat_list_cmp_total}
use Rattle.std.specs.declared.cmp.Ordering.{Ordering}
use Rattle.std.specs.declared.cmp.Ordering.TheVariants.{Less, Equal, Greater}
use Rattle.std.specs.Cmp.Lexicographic.{slice_cmp}
use Rattle.std.proofs.lemmas.Bool.Decides.{nat_tests}
use Rattle.std.proofs.lemmas.Str.{IsUtf8-from_is_utf8}
use Rattle.fast_float.specs.Text.{minus, Parts, scan, digits_of, nearest, with_sign}
use Rattle.json.specs.Token.{Token}
use Rattle.json.specs.Token as tok
use Rattle.json.specs.Json as json
use Rattle.json.specs.Json.{Json, Parse, parse_map, after_end_array, read_key, items_step, members_step, items, members, value_with, value, if_last}
use Rattle.json.specs.Lex.{tokens}
use Rattle.serde_json.specs.Data.{Num, unsigned, negative, float, Data, Items, Members, put}
use Rattle.serde_json.specs.Data as found
use Rattle.serde_json.specs.Read.{is_integer, float_of, number_from, number_of, of_json, of_items, of_members, max_depth, read}
use Rattle.cw_json.specs.Reading.{reading}
use Rattle.cw_laws.proofs.ReadTokens.{AreTextTokens, tokens-text}
use Rattle.std.proofs.lemmas.Option.{some_pair_parts}

-- ---- JSON

abbrev mutual
  IsTextJson : Json → Type 0
  IsTextJson json.null = ⊤
  IsTextJson (json.boolean b) = ⊤
  IsTextJson (json.number s) = ⊤
  IsTextJson (json.string s) = IsUtf8 s
  IsTextJson (json.array js) = AreTextItems js
  IsTextJson (json.object ms) = AreTextMembers ms

  AreTextItems : json.Items → Type 0
  AreTextItems json.no_items = ⊤
  AreTextItems (json.item j js) = IsTextJson j × AreTextItems js

  AreTextMembers : json.Members → Type 0
  AreTextMembers json.no_members = ⊤
  AreTextMembers (json.member k j ms) = IsUtf8 k × IsTextJson j × AreTextMembers ms

-- what is read behind tokens that are texts, and the tokens that are left
abbrev Reads : {A : Type 0} → (A → Type 0) → Parse A → Type 0
Reads {A} P parse = (ts : List Token) (x : A) (rest : List Token) → AreTextTokens ts → parse ts ≡ Some (x, rest) → P x × AreTextTokens rest

mapped : {A B : Type 0} (P : A → Type 0) (Q : B → Type 0) (f : A → B) (o : Option (A × List Token)) (y : B) (rest : List Token) → ((x : A) → P x → Q (f x)) →
    ((x : A) (rest : List Token) → o ≡ Some (x, rest) → P x × AreTextTokens rest) → parse_map f o ≡ Some (y, rest) → Q y × AreTextTokens rest
mapped P Q f None y rest so each e = absurd (cc)
mapped P Q f (Some (x, left)) y rest so each e =
    let there : P x × AreTextTokens left = each x left refl in
    let same : (f x ≡ y) × (left ≡ rest) = some_pair_parts (f x) y left rest e in
    (subst Q same.0 (so x there.0), subst AreTextTokens same.1 there.1)

then_ : {A B : Type 0} (P : A → Type 0) (Q : B → Type 0) (o : Option (A × List Token)) (next : A → Parse B) (y : B) (rest : List Token) →
    ((x : A) (left : List Token) → o ≡ Some (x, left) → P x × AreTextTokens left) → ((x : A) → P x → Reads Q (next x)) → option_and_then (λ p. next p.0 p.1) o ≡ Some (y, rest) → Q y × AreTextTokens rest
then_ P Q None next y rest each on e = absurd (cc)
then_ P Q (Some (x, left)) next y rest each on e =
    let there : P x × AreTextTokens left = each x left refl in on x there.0 left y rest there.1 e

end-text : (ts rest : List Token) → AreTextTokens ts → after_end_array ts ≡ Some rest → AreTextTokens rest
end-text [] rest text e = absurd (cc)
end-text (tok.end_array ∷ ts) rest text e = let same : ts ≡ rest = cc in subst AreTextTokens same text.1
end-text (t ∷ ts) rest text e = absurd (cc)

-- the key of a member, if there is one more
abbrev IsTextKey : Option (List ℕ) → Type 0
IsTextKey None = ⊤
IsTextKey (Some k) = IsUtf8 k

key-text : (ts : List Token) (k : Option (List ℕ)) (rest : List Token) → AreTextTokens ts → read_key ts ≡ Some (k, rest) → IsTextKey k × AreTextTokens rest
key-text [] k rest text e = absurd (cc)
key-text (tok.end_object ∷ ts) k rest text e =
    let same = some_pair_parts None k ts rest e in (subst IsTextKey same.0 tt, subst AreTextTokens same.1 text.1)
key-text (tok.key s ∷ ts) k rest text e =
    let same = some_pair_parts (Some s) k ts rest e in (subst IsTextKey same.0 text.0, subst AreTextTokens same.1 text.1)
key-text (t ∷ ts) k rest text e = absurd (cc)

module _ (v : Parse Json) (each : Reads IsTextJson v) where
  items-step : (more : Parse json.Items) → Reads AreTextItems more → (ts : List Token) (o : Option (List Token)) (x : json.Items) (rest : List Token) → AreTextTokens ts →
      ((left : List Token) → o ≡ Some left → AreTextTokens left) → items_step v more ts o ≡ Some (x, rest) → AreTextItems x × AreTextTokens rest
  items-step more on ts (Some left) x rest text ends e =
      let same : (json.no_items ≡ x) × (left ≡ rest) = some_pair_parts json.no_items x left rest e in
      (subst AreTextItems same.0 tt, subst AreTextTokens same.1 (ends left refl))
  items-step more on ts None x rest text ends e =
      then_ IsTextJson AreTextItems (v ts) (λ j left. parse_map (json.item j) (more left)) x rest (λ j left is. each ts j left text is)
      (λ j here left y tail texts is. mapped AreTextItems AreTextItems (json.item j) (more left) y tail (λ js those. (here, those)) (λ js end is. on left js end texts is) is) e

  items-text : (n : ℕ) → Reads AreTextItems (items v n)
  unfolding items
  items-text zero ts x rest text e = absurd (cc)
  items-text (suc n) ts x rest text e = items-step (items v n) (items-text n) ts (after_end_array ts) x rest text (λ left is. end-text ts left text is) e

  members-step : (more : Parse json.Members) → Reads AreTextMembers more → (k : Option (List ℕ)) → IsTextKey k → Reads AreTextMembers (members_step v more k)
  members-step more on None key ts x rest text e =
      let same : (json.no_members ≡ x) × (ts ≡ rest) = some_pair_parts json.no_members x ts rest e in
      (subst AreTextMembers same.0 tt, subst AreTextTokens same.1 text)
  members-step more on (Some k) key ts x rest text e =
      then_ IsTextJson AreTextMembers (v ts) (λ j left. parse_map (json.member k j) (more left)) x rest (λ j left is. each ts j left text is)
      (λ j here left y tail texts is. mapped AreTextMembers AreTextMembers (json.member k j) (more left) y tail (λ ms those. (key, here, those)) (λ ms end is. on left ms end texts is) is) e

  members-text : (n : ℕ) → Reads AreTextMembers (members v n)
  unfolding members
  members-text zero ts x rest text e = absurd (cc)
  members-text (suc n) ts x rest text e =
      then_ IsTextKey AreTextMembers (read_key ts) (λ k. members_step v (members v n) k) x rest (λ k left is. key-text ts k left text is) (λ k key. members-step (members v n) (members-text n) k key) e

with-text : (a : Parse json.Items) (o : Parse json.Members) → Reads AreTextItems a → Reads AreTextMembers o → Reads IsTextJson (value_with a o)
with-text a o items_read members_read [] x rest text e = absurd (cc)
with-text a o items_read members_read (tok.begin_object ∷ ts) x rest text e =
    mapped AreTextMembers IsTextJson json.object (o ts) x rest (λ ms those. those) (λ ms left is. members_read ts ms left text.1 is) e
with-text a o items_read members_read (tok.end_object ∷ ts) x rest text e = absurd (cc)
with-text a o items_read members_read (tok.begin_array ∷ ts) x rest text e =
    mapped AreTextItems IsTextJson json.array (a ts) x rest (λ js those. those) (λ js left is. items_read ts js left text.1 is) e
with-text a o items_read members_read (tok.end_array ∷ ts) x rest text e = absurd (cc)
with-text a o items_read members_read (tok.key s ∷ ts) x rest text e = absurd (cc)
with-text a o items_read members_read (tok.string s ∷ ts) x rest text e =
    let same : (json.string s ≡ x) × (ts ≡ rest) = some_pair_parts (json.string s) x ts rest e in (subst IsTextJson same.0 text.0, subst AreTextTokens same.1 text.1)
with-text a o items_read members_read (tok.number s ∷ ts) x rest text e =
    let same : (json.number s ≡ x) × (ts ≡ rest) = some_pair_parts (json.number s) x ts rest e in (subst IsTextJson same.0 tt, subst AreTextTokens same.1 text.1)
with-text a o items_read members_read (tok.boolean b ∷ ts) x rest text e =
    let same : (json.boolean b ≡ x) × (ts ≡ rest) = some_pair_parts (json.boolean b) x ts rest e in (subst IsTextJson same.0 tt, subst AreTextTokens same.1 text.1)
with-text a o items_read members_read (tok.null ∷ ts) x rest text e =
    let same : (json.null ≡ x) × (ts ≡ rest) = some_pair_parts json.null x ts rest e in (subst IsTextJson same.0 tt, subst AreTextTokens same.1 text.1)
with-text a o items_read members_read (tok.bad ∷ ts) x rest text e = absurd (cc)

value-text : (depth : ℕ) → Reads IsTextJson (value depth)
unfolding value
value-text zero = with-text (λ ts. None) (λ ts. None) (λ ts x rest text e. absurd (cc)) (λ ts x rest text e. absurd (cc))
value-text (suc depth) =
    with-text (λ ts. items (value depth) (length ts) ts) (λ ts. members (value depth) (length ts) ts)
    (λ ts x rest text e. items-text (value depth) (value-text depth) (length ts) ts x rest text e)
    (λ ts x rest text e. members-text (value depth) (value-text depth) (length ts) ts x rest text e)

-- ---- values

abbrev IsTextNumber : Num → Type 0
IsTextNumber (unsigned n) = n < 2 ^ 64
IsTextNumber (negative z) = ⊤
IsTextNumber (float x) = ⊤

-- a key is below those of some members, which are in order
abbrev pub AreAbove : List ℕ → Members → Type 0
AreAbove k found.no_members = ⊤
AreAbove k (found.member l d ms) = (slice_cmp nat_cmp k l ≡ Less) × AreAbove k ms

abbrev mutual
  pub IsTextData : Data → Type 0
  IsTextData found.null = ⊤
  IsTextData (found.boolean b) = ⊤
  IsTextData (found.number n) = IsTextNumber n
  IsTextData (found.string s) = IsUtf8 s
  IsTextData (found.array ds) = ItemsAreTexts ds
  IsTextData (found.object ms) = MembersAreTexts ms

  pub ItemsAreTexts : Items → Type 0
  ItemsAreTexts found.no_items = ⊤
  ItemsAreTexts (found.item d ds) = IsTextData d × ItemsAreTexts ds

  pub MembersAreTexts : Members → Type 0
  MembersAreTexts found.no_members = ⊤
  MembersAreTexts (found.member k d ms) = IsUtf8 k × IsTextData d × MembersAreTexts ms × AreAbove k ms

-- a number that is chosen by a test
tested : (b : Bool) (x y : Option Num) (n : Num) → (b ≡ true → x ≡ Some n → IsTextNumber n) → (y ≡ Some n → IsTextNumber n) → cond b x y ≡ Some n → IsTextNumber n
tested true x y n first second e = first refl e
tested false x y n first second e = second e

one-number : (m n : Num) → IsTextNumber m → Some m ≡ Some n → IsTextNumber n
one-number m n text e = let same : m ≡ n = cc in subst IsTextNumber same text

no-number : (n : Num) → None ≡ Some n → IsTextNumber n
no-number n e = absurd (cc)

below-64 : (i : Bool) (d : ℕ) → (i && nat_lt d (2 ^ 64)) ≡ true → d < 2 ^ 64
below-64 true d e = grind (arith, nat_tests)
below-64 false d e = absurd (cc)

float-text : (b : Bool) (p : Parts) (n : Num) → float_of b p ≡ Some n → IsTextNumber n
float-text b p n =
    tested (float_is_finite (nearest binary64 b p)) (Some (float (nearest binary64 b p))) None n (λ finite. one-number (float (nearest binary64 b p)) n tt) (no-number n)

number-from : (b : Bool) (p : Parts) (n : Num) → number_from b p ≡ Some n → IsTextNumber n
number-from false p n =
    tested (is_integer p && nat_lt (digits_of p) (2 ^ 64)) (Some (unsigned (digits_of p))) (float_of false p) n
    (λ small. one-number (unsigned (digits_of p)) n (below-64 (is_integer p) (digits_of p) small)) (float-text false p n)
number-from true p n =
    tested (is_integer p && nat_lt 0 (digits_of p) && nat_le (digits_of p) (2 ^ 63)) (Some (negative (with_sign true (digits_of p)))) (float_of true p) n
    (λ small. one-number (negative (with_sign true (digits_of p))) n tt) (float-text true p n)

number-text : (s : List ℕ) (n : Num) → number_of s ≡ Some n → IsTextNumber n
unfolding number_of
number-text s n =
    tested (slice_index s 0 == minus) (number_from true (scan (drop 1 s))) (number_from false (scan s)) n
    (λ signed. number-from true (scan (drop 1 s)) n) (number-from false (scan s) n)

mapped-data : {A : Type 0} (P : A → Type 0) (f : A → Data) (o : Option A) (d : Data) → ((x : A) → o ≡ Some x → P x) → ((x : A) → P x → IsTextData (f x)) → option_map f o ≡ Some d → IsTextData d
mapped-data P f None d each so e = absurd (cc)
mapped-data P f (Some x) d each so e = let same : f x ≡ d = cc in subst IsTextData same (so x (each x refl))

above-later : (k l : List ℕ) (ms : Members) → slice_cmp nat_cmp k l ≡ Less → AreAbove l ms → AreAbove k ms
above-later k l found.no_members less above = tt
above-later k l (found.member m d ms) less above = (nat_list_cmp_total.trans k l m less above.0, above-later k l ms less above.1)

above-put : (l k : List ℕ) (d : Data) (ms : Members) → slice_cmp nat_cmp l k ≡ Less → AreAbove l ms → AreAbove l (put k d ms)
above-put l k d found.no_members less above = (less, tt)
above-put l k d (found.member m e ms) less above = by (slice_cmp nat_cmp k m) (above-put l k d ms less above.1)
  where
    by : (o : Ordering) → AreAbove l (put k d ms) → AreAbove l (match_ordering o (found.member k d (found.member m e ms)) (found.member m d ms) (found.member m e (put k d ms)))
    by Less rest = (less, above)
    by Equal rest = above
    by Greater rest = (above.0, rest)

put-text : (k : List ℕ) (d : Data) (ms : Members) → IsUtf8 k → IsTextData d → MembersAreTexts ms → MembersAreTexts (put k d ms)
put-text k d found.no_members key here each = (key, here, tt, tt)
put-text k d (found.member l e ms) key here each = by (slice_cmp nat_cmp k l) refl (put-text k d ms key here each.2)
  where
    by : (o : Ordering) → slice_cmp nat_cmp k l ≡ o → MembersAreTexts (put k d ms) →
        MembersAreTexts (match_ordering o (found.member k d (found.member l e ms)) (found.member l d ms) (found.member l e (put k d ms)))
    by Less less rest = (key, here, each, (less, above-later k l ms less each.3))
    by Equal same rest = (each.0, here, each.2, each.3)
    by Greater greater rest = (each.0, each.1, rest, above-put l k d ms (nat_list_cmp_total.antisymm l k ∙ ap ordering_reverse greater) each.3)

item-text : (o : Option Data) (os : Option Items) (ds : Items) → ((d : Data) → o ≡ Some d → IsTextData d) → ((es : Items) → os ≡ Some es → ItemsAreTexts es) →
    option_and_then (λ d. option_map (found.item d) os) o ≡ Some ds → ItemsAreTexts ds
item-text None os ds first rest e = absurd (cc)
item-text (Some d) None ds first rest e = absurd (cc)
item-text (Some d) (Some es) ds first rest e = let same : found.item d es ≡ ds = cc in subst ItemsAreTexts same (first d refl, rest es refl)

member-text : (o : Option Data) (next : Data → Option Members) (fs : Members) → ((d : Data) → o ≡ Some d → IsTextData d) → ((d : Data) → IsTextData d → next d ≡ Some fs → MembersAreTexts fs) →
    option_and_then next o ≡ Some fs → MembersAreTexts fs
member-text None next fs first rest e = absurd (cc)
member-text (Some d) next fs first rest e = rest d (first d refl) e

mutual
  json-text : (j : Json) (d : Data) → IsTextJson j → of_json j ≡ Some d → IsTextData d
  json-text json.null d text e = let same : found.null ≡ d = cc in subst IsTextData same tt
  json-text (json.boolean b) d text e = let same : found.boolean b ≡ d = cc in subst IsTextData same tt
  json-text (json.number s) d text e = mapped-data IsTextNumber found.number (number_of s) d (number-text s) (λ n here. here) e
  json-text (json.string s) d text e = let same : found.string s ≡ d = cc in subst IsTextData same text
  json-text (json.array js) d text e = mapped-data ItemsAreTexts found.array (of_items js) d (λ ds is. items-text_of js ds text is) (λ ds here. here) e
  json-text (json.object ms) d text e = mapped-data MembersAreTexts found.object (of_members ms found.no_members) d (λ fs is. members-text_of ms found.no_members fs text tt is) (λ fs here. here) e

  items-text_of : (js : json.Items) (ds : Items) → AreTextItems js → of_items js ≡ Some ds → ItemsAreTexts ds
  items-text_of json.no_items ds text e = let same : found.no_items ≡ ds = cc in subst ItemsAreTexts same tt
  items-text_of (json.item j js) ds text e =
      item-text (of_json j) (of_items js) ds (λ d is. json-text j d text.0 is) (λ es is. items-text_of js es text.1 is) e

  members-text_of : (ms : json.Members) (before fs : Members) → AreTextMembers ms → MembersAreTexts before → of_members ms before ≡ Some fs → MembersAreTexts fs
  members-text_of json.no_members before fs text each e = let same : before ≡ fs = cc in subst MembersAreTexts same each
  members-text_of (json.member k j ms) before fs text each e =
      member-text (of_json j) (λ d. of_members ms (put k d before)) fs (λ d is. json-text j d text.1 is)
      (λ d here is. members-text_of ms (put k d before) fs text.2 (put-text k d before text.0 here each) is) e

-- ---- the value of a text

last-text : (j k : Json) (rest : List Token) → IsTextJson j → if_last j rest ≡ Some k → IsTextJson k
last-text j k [] text e = let same : j ≡ k = cc in subst IsTextJson same text
last-text j k (t ∷ rest) text e = absurd (cc)

parsed-text : (o : Option (Json × List Token)) (j : Json) → ((x : Json) (rest : List Token) → o ≡ Some (x, rest) → IsTextJson x) → option_and_then (λ p. if_last p.0 p.1) o ≡ Some j → IsTextJson j
parsed-text None j each e = absurd (cc)
parsed-text (Some (x, rest)) j each e = last-text x j rest (each x rest refl) e

read-data : (o : Option Json) (d : Data) → ((j : Json) → o ≡ Some j → IsTextJson j) → option_and_then of_json o ≡ Some d → IsTextData d
read-data None d each e = absurd (cc)
read-data (Some j) d each e = json-text j d (each j refl) e

read-text : (text : List ℕ) (d : Data) → IsUtf8 text → read text ≡ Some d → IsTextData d
read-text text d utf8 =
    read-data (option_and_then (λ p. if_last p.0 p.1) (value max_depth (tokens text))) d
    (λ j is. parsed-text (value max_depth (tokens text)) j (λ x rest is. (value-text max_depth (tokens text) x rest (tokens-text text utf8) is).0) is)

-- what is read has texts and whole numbers that fit
pub reading-text : (text : List ℕ) (d : Data) → reading text ≡ Some d → IsTextData d
reading-text text d e = by (is_utf8 text) refl e
  where
    by : (b : Bool) → is_utf8 text ≡ b → cond b (read text) None ≡ Some d → IsTextData d
    by true utf8 e = read-text text d (IsUtf8-from_is_utf8 text utf8) e
    by false fails e = absurd (cc)
