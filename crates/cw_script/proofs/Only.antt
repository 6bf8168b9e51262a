use Rattle.std.proofs.Common.{◌≡◌, ℕ, ◌-◌, ◌^◌, List, [], ◌∷◌, ◌++◌, ◌==◌, Bool, true, false, cond, Option, None, Some, Ok, ok_or, codes, decimal, refl, sym, ap, subst, inl, inr, ◌∙◌, append_assoc, arith, bytes_eq}
use Rattle.std.specs.List.{AllByRecursion, list_any, find, flat_map}
use Rattle.std.proofs.lemmas.List.{append-nil}
use Rattle.std.proofs.lemmas.Grind.{flat_map-append}
use Rattle.std.proofs.lemmas.Bool.Decides.{nat_tests}
use Rattle.cw_types.specs.declared.logs.LogName.{LogName}
use Rattle.cw_types.specs.declared.logs.LogName.TheVariants.{Config, Offsets, Status}
use Rattle.cw_types.specs.Decimal.{number_of}
use Rattle.cw_types.specs.Name.{name_fault, name_of}
use Rattle.cw_types.proofs.Decimals.{number_only}
use Rattle.cw_script.specs.declared.directive.PartEnd.{PartEnd}
use Rattle.cw_script.specs.declared.directive.Directive.{Directive}
use Rattle.cw_script.specs.declared.directive.Directive.TheVariants.{Rest}
use Rattle.cw_script.specs.declared.fault.LineKind.TheVariants.{Number, BadName}
use Rattle.cw_script.specs.Words.{words, joined}
use Rattle.cw_script.specs.Pairs.{pairs_onto, pairs_of, add_pair}
use Rattle.cw_script.specs.Table.{Place, number32, number64, limit, name, log, text, End, nothing, pairs, body, ValueOf, Maker, Row, table}
use Rattle.cw_script.specs.Lines.{limit_of, log_of, value_of, fits, read, said_by, directive_of, some_directive, line_of}
use Rattle.cw_script.specs.Spelling.{pair_words, log_text, IsSpelling}
use Rattle.cw_script.proofs.PairLemmas.{none_onto}
use Rattle.cw_script.proofs.WordLemmas.{joined-words}
use Rattle.cw_script.proofs.TableLemmas.{bytes_are}
use Rattle.cw_script.proofs.Sayable.{ok_or_Ok, after_Ok, name_range, Ok_same, if_new, some_or_none, if_fits, some_Ok}

-- the word of a value
abbrev word_of : (place : Place) → ValueOf place → List ℕ
word_of number32 n = decimal n
word_of number64 n = decimal n
word_of limit n = decimal n
word_of name bytes = bytes
word_of log l = log_text l
word_of text bytes = bytes

decimal_32 : (w : List ℕ) (n : ℕ) → number_of (2 ^ 32 - 1) w ≡ Some n → w ≡ decimal n
decimal_32 w n e = (number_only (2 ^ 32 - 1) n w (omega arith) e).0

decimal_64 : (w : List ℕ) (n : ℕ) → number_of (2 ^ 64 - 1) w ≡ Some n → w ≡ decimal n
decimal_64 w n e = (number_only (2 ^ 64 - 1) n w (omega arith) e).0

limit_same : (o : Option ℕ) (n : ℕ) → limit_of o ≡ Some n → o ≡ Some n
limit_same None n e = absurd (cc)
limit_same (Some m) n e = grind (arith, nat_tests)

log_cases : (a b c : Bool) (w : List ℕ) (l : LogName) → (a ≡ true → w ≡ codes "config") → (b ≡ true → w ≡ codes "offsets") → (c ≡ true → w ≡ codes "status")
    → cond a (Some Config) (cond b (Some Offsets) (cond c (Some Status) None)) ≡ Some l → w ≡ log_text l
log_cases true b c w l f g h e = let is : Config ≡ l = cc in f refl ∙ ap log_text is
log_cases false true c w l f g h e = let is : Offsets ≡ l = cc in g refl ∙ ap log_text is
log_cases false false true w l f g h e = let is : Status ≡ l = cc in h refl ∙ ap log_text is
log_cases false false false w l f g h e = absurd (cc)

word_is : (place : Place) (w : List ℕ) (v : ValueOf place) → value_of place w ≡ Ok v → w ≡ word_of place v
word_is number32 w v e = decimal_32 w v (ok_or_Ok Number (number_of (2 ^ 32 - 1) w) v e)
word_is number64 w v e = decimal_64 w v (ok_or_Ok Number (number_of (2 ^ 64 - 1) w) v e)
word_is limit w v e = decimal_64 w v (limit_same (number_of (2 ^ 64 - 1) w) v (ok_or_Ok Number (limit_of (number_of (2 ^ 64 - 1) w)) v e))
word_is name w v e = (name_range w (name_fault w) v (ok_or_Ok BadName (name_of w) v e)).1
word_is log w v e = log_cases (bytes_eq w (codes "config")) (bytes_eq w (codes "offsets")) (bytes_eq w (codes "status")) w v
    (bytes_are w (codes "config")) (bytes_are w (codes "offsets")) (bytes_are w (codes "status")) (ok_or_Ok BadName (log_of w) v e)
word_is text w v e = Ok_same w v e

-- one more pair has the words that it was read from
add_words : (found state : List PartEnd) (p t : List ℕ) (o q : Option ℕ) → ((n : ℕ) → o ≡ Some n → p ≡ decimal n) → ((n : ℕ) → q ≡ Some n → t ≡ decimal n) → add_pair found o q ≡ Some state
    → flat_map pair_words state ≡ flat_map pair_words found ++ p ∷ t ∷ []
add_words found state p t None q f g e = absurd (cc)
add_words found state p t (Some part) None f g e = absurd (cc)
add_words found state p t (Some part) (Some to) f g e =
    let is = if_new (list_any (λ pair. pair.part == part) found) (found ++ record { part = part; to = to } ∷ []) state e in
    sym (ap (flat_map pair_words) is.1) ∙ flat_map-append pair_words found (record { part = part; to = to } ∷ [])
    ∙ ap (λ ws. flat_map pair_words found ++ ws) (ap (λ w. decimal part ∷ w ∷ []) (sym (g to refl)) ∙ ap (λ w. w ∷ t ∷ []) (sym (f part refl)))

-- pairs have the words that they were read from
onto_words : (found out : List PartEnd) (ws : List (List ℕ)) → pairs_onto (Some found) ws ≡ Some out → flat_map pair_words out ≡ flat_map pair_words found ++ ws
onto_words found out [] e = let is : found ≡ out = cc in sym (ap (flat_map pair_words) is) ∙ sym (append-nil (flat_map pair_words found))
onto_words found out (p ∷ []) e = absurd (cc)
onto_words found out (p ∷ t ∷ ws) e =
    elim (some_or_none (add_pair found (number_of (2 ^ 32 - 1) p) (number_of (2 ^ 64 - 1) t))) [
      | inl none ↦ let e2 : pairs_onto None ws ≡ Some out = sym (ap (λ o. pairs_onto o ws) none) ∙ e in let e3 : None ≡ Some out = sym (none_onto ws) ∙ e2 in absurd (cc)
      | inr some ↦
          let e2 : pairs_onto (Some some.0) ws ≡ Some out = sym (ap (λ o. pairs_onto o ws) some.1) ∙ e in
          onto_words some.0 out ws e2
          ∙ ap (λ front. front ++ ws) (add_words found some.0 p t (number_of (2 ^ 32 - 1) p) (number_of (2 ^ 64 - 1) t) (decimal_32 p) (decimal_64 t) some.1)
          ∙ append_assoc (flat_map pair_words found) (p ∷ t ∷ []) ws
    ]

-- the words before these, and those of the values, spell what is made of the values
abbrev Spells : (before : List (List ℕ)) (places : List Place) (end : End) → Maker places end → Type 0
Spells before [] nothing make = IsSpelling (joined before) make
Spells before [] pairs make = (out : List PartEnd) → IsSpelling (joined (before ++ flat_map pair_words out)) (make out)
Spells before [] body make = (ws : List (List ℕ)) → IsSpelling (joined (before ++ ws)) (make (joined ws))
Spells before (place ∷ places) end make = (v : ValueOf place) → Spells (before ++ word_of place v ∷ []) places end (make v)

abbrev RowSpells : Row → Type 0
RowSpells row = Spells (row.word ∷ []) row.places row.end row.make

read_spells : (before : List (List ℕ)) (places : List Place) (end : End) (make : Maker places end) (ws : List (List ℕ)) (d : Directive) → fits places end ws ≡ true
    → Spells before places end make → read places end make ws ≡ Ok d → IsSpelling (joined (before ++ ws)) d
read_spells before [] nothing make [] d fit makes e =
    let P : List (List ℕ) → Directive → Type 0 = λ ws x. IsSpelling (joined ws) x in
    subst (P (before ++ [])) (Ok_same make d e) (subst (λ ws. P ws make) (sym (append-nil before)) makes)
read_spells before [] nothing make (w ∷ ws) d fit makes e = absurd (cc)
read_spells before [] pairs make ws d fit makes e =
    let got = after_Ok (ok_or (pairs_of ws) Number) (λ found. Ok (make found)) d e in
    let same : flat_map pair_words got.0 ≡ ws = onto_words [] got.0 ws (ok_or_Ok Number (pairs_of ws) got.0 got.1) in
    let P : List (List ℕ) → Directive → Type 0 = λ vs x. IsSpelling (joined (before ++ vs)) x in
    subst (P ws) (Ok_same (make got.0) d got.2) (subst (λ vs. P vs (make got.0)) same (makes got.0))
read_spells before [] body make ws d fit makes e =
    let P : Directive → Type 0 = λ x. IsSpelling (joined (before ++ ws)) x in subst P (Ok_same (make (joined ws)) d e) (makes ws)
read_spells before (place ∷ places) end make [] d fit makes e = absurd (cc)
read_spells before (place ∷ places) end make (w ∷ ws) d fit makes e =
    let got = after_Ok (value_of place w) (λ value. read places end (make value) ws) d e in
    let rest : IsSpelling (joined ((before ++ word_of place got.0 ∷ []) ++ ws)) d = read_spells (before ++ word_of place got.0 ∷ []) places end (make got.0) ws d fit (makes got.0) got.2 in
    let same : (before ++ word_of place got.0 ∷ []) ++ ws ≡ before ++ w ∷ ws =
    append_assoc before (word_of place got.0 ∷ []) ws ∙ ap (λ v. before ++ v ∷ ws) (sym (word_is place w got.0 got.1)) in
    let P : List (List ℕ) → Type 0 = λ vs. IsSpelling (joined vs) d in
    subst P same rest

find_spells : (w : List ℕ) (rows : List Row) (ws : List (List ℕ)) (d : Directive) → AllByRecursion RowSpells rows
    → said_by (find (λ row. bytes_eq w row.word) rows) ws ≡ Ok d → IsSpelling (joined (w ∷ ws)) d
find_spells w [] ws d makes e = absurd (cc)
find_spells w (row ∷ rows) ws d makes e =
    elim (bytes_eq w row.word) as (λ b. bytes_eq w row.word ≡ b → said_by (cond b (Some row) (find (λ row. bytes_eq w row.word) rows)) ws ≡ Ok d → IsSpelling (joined (w ∷ ws)) d) [
      | true ↦ λ is e.
          let got = if_fits (fits row.places row.end ws) (read row.places row.end row.make ws) d e in
          let P : List ℕ → Type 0 = λ v. IsSpelling (joined (v ∷ ws)) d in
          subst P (sym (bytes_are w row.word is)) (read_spells (row.word ∷ []) row.places row.end row.make ws d got.0 makes.0 got.1)
      | false ↦ λ is e. find_spells w rows ws d makes.1 e
    ] refl e

-- a body and what stands before it
body_spells : (n : ℕ) (method target bytes : List ℕ)
    → IsSpelling (codes "rest" ++ 32 ∷ (decimal n ++ 32 ∷ (method ++ 32 ∷ (target ++ 32 ∷ bytes)))) (Rest n method target bytes)
body_spells n method target [] = inr (
  tt,
  sym (ap (λ ys. codes "rest" ++ 32 ∷ ys)
      (append_assoc (decimal n) (32 ∷ (method ++ 32 ∷ target)) (32 ∷ []) ∙ ap (λ ys. decimal n ++ 32 ∷ ys) (append_assoc method (32 ∷ target) (32 ∷ [])))),
)
body_spells n method target (c ∷ cs) = inl refl

request_spells : (n : ℕ) (method target : List ℕ) (ws : List (List ℕ)) → IsSpelling (joined (codes "rest" ∷ decimal n ∷ method ∷ target ∷ ws)) (Rest n method target (joined ws))
request_spells n method target [] = inl refl
request_spells n method target (w ∷ ws) = body_spells n method target (joined (w ∷ ws))

table_spells : AllByRecursion RowSpells table
table_spells = (
  (λ n. inl refl),
  (
    (λ n m out. inl refl),
    (
      inl refl,
      (
        (λ n. inl refl),
        (
          (λ n. inl refl),
          (
            (λ n. inl refl),
            (
              (λ n. inl refl),
              (
                (λ n. inl refl),
                (
                  (λ n. inl refl),
                  (
                    (λ n. inl refl),
                    (
                      (λ n. inl refl),
                      (
                        (λ n m t ws. request_spells n m t ws),
                        (
                          (λ n. inl refl),
                          (
                            (λ n. inl refl),
                            (
                              (λ t n. inl refl),
                              ((λ l. inl refl), tt),
                            ),
                          ),
                        ),
                      ),
                    ),
                  ),
                ),
              ),
            ),
          ),
        ),
      ),
    ),
  ),
)

words_spell : (ws : List (List ℕ)) (d : Directive) → directive_of ws ≡ Ok d → IsSpelling (joined ws) d
words_spell [] d e = absurd (cc)
words_spell (w ∷ ws) d e = find_spells w table ws d table_spells e

-- a line that says a directive spells it
pub line_spells : (line : List ℕ) (d : Directive) → line_of line ≡ Ok (Some d) → IsSpelling line d
line_spells [] d e = absurd (cc)
line_spells (c ∷ cs) d e = elim (c == 35) as (λ b. cond b (Ok None) (some_directive (directive_of (words (c ∷ cs)))) ≡ Ok (Some d) → IsSpelling (c ∷ cs) d) [
  | true ↦ λ e. absurd (cc)
  | false ↦ λ e.
      let P : List ℕ → Type 0 = λ line. IsSpelling line d in
      subst P (joined-words (c ∷ cs)) (words_spell (words (c ∷ cs)) d (some_Ok (directive_of (words (c ∷ cs))) d e))
] e
