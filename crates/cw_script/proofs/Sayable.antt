use Rattle.std.proofs.Common.{◌≡◌, ℕ, ◌+◌, ◌-◌, ◌*◌, ◌^◌, ◌<◌, ◌≤◌, List, [], ◌∷◌, ◌++◌, length, map, nat_eq, ◌==◌, ◌||◌, Bool, true, false, cond, Option, None, Some, Result, Ok, Err, ok_or, codes, refl, sym, ap, subst, inl, inr, ◌⊎◌, ◌∙◌, length-append, arith, bytes_eq}
use Rattle.std.specs.List.{AllByRecursion, list_any, find, IsDistinct}
use Rattle.std.proofs.lemmas.Bool.Decides.{nat_tests}
use Rattle.cw_types.specs.declared.logs.LogName.{LogName}
use Rattle.cw_types.specs.declared.logs.LogName.TheVariants.{Config, Offsets, Status}
use Rattle.cw_types.specs.declared.name.NameFault.{NameFault}
use Rattle.cw_types.specs.Decimal.{number_of}
use Rattle.cw_types.specs.Name.{name_fault, unless_fault, name_of, IsName}
use Rattle.cw_types.proofs.Decimals.{number_only}
use Rattle.cw_script.specs.declared.directive.PartEnd.{PartEnd}
use Rattle.cw_script.specs.declared.directive.Directive.{Directive}
use Rattle.cw_script.specs.declared.fault.LineKind.{LineKind}
use Rattle.cw_script.specs.declared.fault.LineKind.TheVariants.{Count, Number, BadName}
use Rattle.std.specs.List.{onto_first}
use Rattle.cw_script.specs.Words.{words, joined}
use Rattle.cw_script.specs.Pairs.{is_pair_count, pairs_onto, pairs_of, add_pair, ArePairs}
use Rattle.cw_script.specs.Table.{Place, number32, number64, limit, name, log, text, End, nothing, pairs, body, ValueOf, Maker, Row, table}
use Rattle.cw_script.specs.Lines.{after, limit_of, log_of, value_of, fits, read, said_by, directive_of, some_directive, line_of}
use Rattle.cw_script.specs.Spelling.{PairFits, IsWord, IsCompacted, IsSayable}
use Rattle.cw_script.proofs.PairLemmas.{none_onto}

-- the words of a text are words
onto_first_words : (c : ℕ) (ws : List (List ℕ)) → nat_eq c 32 ≡ false → AllByRecursion IsWord ws → AllByRecursion IsWord (onto_first c ws)
onto_first_words c [] differs h = ((differs, tt), tt)
onto_first_words c (w ∷ ws) differs h = ((differs, h.0), h.1)

all_words : (xs : List ℕ) → AllByRecursion IsWord (words xs)
all_words [] = (tt, tt)
all_words (c ∷ cs) = elim (c == 32) as (λ b. c == 32 ≡ b → AllByRecursion IsWord (cond b ([] ∷ words cs) (onto_first c (words cs))))
    [ true ↦ λ is. (tt, all_words cs) | false ↦ λ is. onto_first_words c (words cs) is (all_words cs) ] refl

pub ok_or_Ok : {A : Type 0} (kind : LineKind) (o : Option A) (x : A) → ok_or o kind ≡ Ok x → o ≡ Some x
ok_or_Ok kind None x e = absurd (cc)
ok_or_Ok {A} kind (Some y) x e = cc

pub after_Ok : {A B : Type 0} (r : Result A LineKind) (next : A → Result B LineKind) (y : B) → after r next ≡ Ok y → (x : A) × (r ≡ Ok x) × (next x ≡ Ok y)
after_Ok (Ok x) next y e = (x, refl, e)
after_Ok (Err kind) next y e = absurd (cc)

-- what may be read at a place
abbrev InRange : (place : Place) → ValueOf place → Type 0
InRange number32 n = n < 2 ^ 32
InRange number64 n = n < 2 ^ 64
InRange limit n = (1 ≤ n) × (n ≤ 1000000)
InRange name bytes = IsName bytes
InRange log l = IsCompacted l
InRange text bytes = IsWord bytes

limit_range : (o : Option ℕ) (n : ℕ) → limit_of o ≡ Some n → (1 ≤ n) × (n ≤ 1000000)
limit_range None n e = absurd (cc)
limit_range (Some m) n e = grind (arith, nat_tests)

pub name_range : (bytes : List ℕ) (o : Option NameFault) (v : List ℕ) → unless_fault bytes o ≡ Some v → (o ≡ None) × (bytes ≡ v)
name_range bytes None v e = (refl, cc)
name_range bytes (Some f) v e = absurd (cc)

log_cases : (a b c : Bool) (l : LogName) → cond a (Some Config) (cond b (Some Offsets) (cond c (Some Status) None)) ≡ Some l → IsCompacted l
log_cases true b c l e = let is : Config ≡ l = cc in subst IsCompacted is tt
log_cases false true c l e = let is : Offsets ≡ l = cc in subst IsCompacted is tt
log_cases false false true l e = let is : Status ≡ l = cc in subst IsCompacted is tt
log_cases false false false l e = absurd (cc)

log_range : (w : List ℕ) (l : LogName) → log_of w ≡ Some l → IsCompacted l
log_range w l e = log_cases (bytes_eq w (codes "config")) (bytes_eq w (codes "offsets")) (bytes_eq w (codes "status")) l e

pub Ok_same : {A : Type 0} (x y : A) → ◌≡◌ {A = Result A LineKind} (Ok x) (Ok y) → x ≡ y
Ok_same x y e = cc

value_in_range : (place : Place) (w : List ℕ) (v : ValueOf place) → IsWord w → value_of place w ≡ Ok v → InRange place v
value_in_range number32 w v h e = omega (arith, (number_only (2 ^ 32 - 1) v w (omega arith) (ok_or_Ok Number (number_of (2 ^ 32 - 1) w) v e)).1)
value_in_range number64 w v h e = omega (arith, (number_only (2 ^ 64 - 1) v w (omega arith) (ok_or_Ok Number (number_of (2 ^ 64 - 1) w) v e)).1)
value_in_range limit w v h e = limit_range (number_of (2 ^ 64 - 1) w) v (ok_or_Ok Number (limit_of (number_of (2 ^ 64 - 1) w)) v e)
value_in_range name w v h e = let parts = name_range w (name_fault w) v (ok_or_Ok BadName (name_of w) v e) in subst IsName parts.1 parts.0
value_in_range log w v h e = log_range w v (ok_or_Ok BadName (log_of w) v e)
value_in_range text w v h e = subst IsWord (Ok_same w v e) h

-- no pair found has the part
abbrev IsNew : List PartEnd → ℕ → Type 0
IsNew found part = list_any (λ q. q.part == part) found ≡ false

or_neither : (a b : Bool) → (a || b) ≡ false → (a ≡ false) × (b ≡ false)
or_neither true b e = absurd (cc)
or_neither false b e = (refl, e)

differ_push : (x part : ℕ) (found : List PartEnd) → AllByRecursion (λ y. nat_eq x y ≡ false) (map (λ q. q.part) found) → nat_eq x part ≡ false → (to : ℕ)
    → AllByRecursion (λ y. nat_eq x y ≡ false) (map (λ q. q.part) (found ++ record { part = part; to = to } ∷ []))
differ_push x part [] h differs to = (differs, tt)
differ_push x part (q ∷ qs) h differs to = (h.0, differ_push x part qs h.1 differs to)

distinct_push : (found : List PartEnd) (part to : ℕ) → IsDistinct nat_eq (map (λ q. q.part) found) → IsNew found part
    → IsDistinct nat_eq (map (λ q. q.part) (found ++ record { part = part; to = to } ∷ []))
unfolding IsDistinct
distinct_push [] part to h new = (tt, tt)
distinct_push (q ∷ qs) part to h new =
    let both = or_neither (q.part == part) (list_any (λ r. r.part == part) qs) new in
    (differ_push q.part part qs h.0 both.0 to, distinct_push qs part to h.1 both.1)

fits_push : (found : List PartEnd) (p : PartEnd) → AllByRecursion PairFits found → PairFits p → AllByRecursion PairFits (found ++ p ∷ [])
fits_push [] p h fit = (fit, tt)
fits_push (q ∷ qs) p h fit = (h.0, fits_push qs p h.1 fit)

-- pairs that were read so far
record AreRead (found : List PartEnd) : Type 0 where
  pub fit : AllByRecursion PairFits found
  pub distinct : IsDistinct nat_eq (map (λ q. q.part) found)

pub if_new : (b : Bool) (made state : List PartEnd) → cond b None (Some made) ≡ Some state → (b ≡ false) × (made ≡ state)
if_new true made state e = absurd (cc)
if_new false made state e = (refl, cc)

-- one more pair that is read
add_reads : (found state : List PartEnd) (p t : Option ℕ) → AreRead found → ((n : ℕ) → p ≡ Some n → n < 2 ^ 32) → ((n : ℕ) → t ≡ Some n → n < 2 ^ 64) → add_pair found p t ≡ Some state
    → AreRead state × (length state ≡ length found + 1)
add_reads found state None t so small large e = absurd (cc)
add_reads found state (Some part) None so small large e = absurd (cc)
add_reads found state (Some part) (Some to) so small large e =
    let is = if_new (list_any (λ q. q.part == part) found) (found ++ record { part = part; to = to } ∷ []) state e in
    let made : AreRead (found ++ record { part = part; to = to } ∷ []) = record {
      fit = fits_push found (record { part = part; to = to }) so.fit (record { part = small part refl; to = large to refl });
      distinct = distinct_push found part to so.distinct is.0;
    } in
    (subst AreRead is.1 made, sym (ap length is.1) ∙ length-append found (record { part = part; to = to } ∷ []))

pub some_or_none : {A : Type 0} (o : Option A) → (o ≡ None) ⊎ ((x : A) × (o ≡ Some x))
some_or_none None = inl refl
some_or_none (Some x) = inr (x, refl)

below_32 : (w : List ℕ) (n : ℕ) → number_of (2 ^ 32 - 1) w ≡ Some n → n < 2 ^ 32
below_32 w n e = omega (arith, (number_only (2 ^ 32 - 1) n w (omega arith) e).1)

below_64 : (w : List ℕ) (n : ℕ) → number_of (2 ^ 64 - 1) w ≡ Some n → n < 2 ^ 64
below_64 w n e = omega (arith, (number_only (2 ^ 64 - 1) n w (omega arith) e).1)

-- what words add to the pairs that were read
onto_reads : (found out : List PartEnd) (ws : List (List ℕ)) → AreRead found → pairs_onto (Some found) ws ≡ Some out → AreRead out × (2 * length out ≡ 2 * length found + length ws)
onto_reads found out [] so e = let is : found ≡ out = cc in (subst AreRead is so, omega (arith, ap length is))
onto_reads found out (p ∷ []) so e = absurd (cc)
onto_reads found out (p ∷ t ∷ ws) so e =
    elim (some_or_none (add_pair found (number_of (2 ^ 32 - 1) p) (number_of (2 ^ 64 - 1) t))) [
      | inl none ↦ let e2 : pairs_onto None ws ≡ Some out = sym (ap (λ o. pairs_onto o ws) none) ∙ e in let e3 : None ≡ Some out = sym (none_onto ws) ∙ e2 in absurd (cc)
      | inr some ↦
          let next = add_reads found some.0 (number_of (2 ^ 32 - 1) p) (number_of (2 ^ 64 - 1) t) so (below_32 p) (below_64 t) some.1 in
          let e2 : pairs_onto (Some some.0) ws ≡ Some out = sym (ap (λ o. pairs_onto o ws) some.1) ∙ e in
          let more = onto_reads some.0 out ws next.0 e2 in
          (more.0, omega (arith, more.1, next.1))
    ]

counted : (n : ℕ) → is_pair_count n ≡ true → (2 ≤ n) × (n ≤ 32)
counted n e = grind (arith, nat_tests)

pairs_read : (ws : List (List ℕ)) (out : List PartEnd) → is_pair_count (length ws) ≡ true → pairs_of ws ≡ Some out → AllByRecursion PairFits out × ArePairs out
unfolding IsDistinct
pairs_read ws out count e =
    let so = onto_reads [] out ws (record { fit = tt; distinct = tt }) e in
    let range = counted (length ws) count in
    (so.0.fit, record { some = omega (arith, so.1, range.0); few = omega (arith, so.1, range.1); distinct = so.0.distinct })

-- each directive that is made of values in range can be spelled
abbrev MakesSayable : (places : List Place) (end : End) → Maker places end → Type 0
MakesSayable [] nothing make = IsSayable make
MakesSayable [] pairs make = (out : List PartEnd) → AllByRecursion PairFits out → ArePairs out → IsSayable (make out)
MakesSayable [] body make = (bytes : List ℕ) → IsSayable (make bytes)
MakesSayable (place ∷ places) end make = (v : ValueOf place) → InRange place v → MakesSayable places end (make v)

abbrev RowMakesSayable : Row → Type 0
RowMakesSayable row = MakesSayable row.places row.end row.make

read_sayable : (places : List Place) (end : End) (make : Maker places end) (ws : List (List ℕ)) (d : Directive) → AllByRecursion IsWord ws → fits places end ws ≡ true
    → MakesSayable places end make → read places end make ws ≡ Ok d → IsSayable d
read_sayable [] nothing make ws d words fit makes e = subst IsSayable (Ok_same make d e) makes
read_sayable [] pairs make ws d words fit makes e =
    let got = after_Ok (ok_or (pairs_of ws) Number) (λ found. Ok (make found)) d e in
    let read = pairs_read ws got.0 fit (ok_or_Ok Number (pairs_of ws) got.0 got.1) in
    subst IsSayable (Ok_same (make got.0) d got.2) (makes got.0 read.0 read.1)
read_sayable [] body make ws d words fit makes e = subst IsSayable (Ok_same (make (joined ws)) d e) (makes (joined ws))
read_sayable (place ∷ places) end make [] d words fit makes e = absurd (cc)
read_sayable (place ∷ places) end make (w ∷ ws) d words fit makes e =
    let got = after_Ok (value_of place w) (λ value. read places end (make value) ws) d e in
    read_sayable places end (make got.0) ws d words.1 fit (makes got.0 (value_in_range place w got.0 words.0 got.1)) got.2

pub if_fits : (b : Bool) (r : Result Directive LineKind) (d : Directive) → cond b r (Err Count) ≡ Ok d → (b ≡ true) × (r ≡ Ok d)
if_fits true r d e = (refl, e)
if_fits false r d e = absurd (cc)

find_sayable : (test : Row → Bool) (rows : List Row) (ws : List (List ℕ)) (d : Directive) → AllByRecursion RowMakesSayable rows → AllByRecursion IsWord ws
    → said_by (find test rows) ws ≡ Ok d → IsSayable d
find_sayable test [] ws d makes words e = absurd (cc)
find_sayable test (row ∷ rows) ws d makes words e = elim (test row) as (λ b. said_by (cond b (Some row) (find test rows)) ws ≡ Ok d → IsSayable d) [
  | true ↦ λ e. let got = if_fits (fits row.places row.end ws) (read row.places row.end row.make ws) d e in
      read_sayable row.places row.end row.make ws d words got.0 makes.0 got.1
  | false ↦ λ e. find_sayable test rows ws d makes.1 words e
] e

table_sayable : AllByRecursion RowMakesSayable table
table_sayable = (
  (λ n h. h),
  (
    (λ n hn m hm out fit named. record { id_fits = hn; epoch_fits = hm; numbers_fit = fit; named = named }),
    (
      tt,
      (
        (λ n h. h),
        (
          (λ n h. h),
          (
            (λ n h. h),
            (
              (λ n h. h),
              (
                (λ n h. h),
                (
                  (λ n h. h),
                  (
                    (λ n h. h),
                    (
                      (λ n h. h),
                      (
                        (λ w hw m hm t ht b. record { worker_fits = hw; one_method = hm; one_target = ht }),
                        (
                          (λ n h. h),
                          (
                            (λ n h. h),
                            (
                              (λ t ht n hn. record { name = ht; from_fits = hn }),
                              ((λ l h. h), tt),
                            ),
                          ),
                        ),
                      ),
                    ),
                  ),
                ),
              ),
            ),
          ),
        ),
      ),
    ),
  ),
)

directive_sayable : (ws : List (List ℕ)) (d : Directive) → AllByRecursion IsWord ws → directive_of ws ≡ Ok d → IsSayable d
directive_sayable [] d words e = absurd (cc)
directive_sayable (w ∷ ws) d words e = find_sayable (λ row. bytes_eq w row.word) table ws d table_sayable words.1 e

-- what the words of a line say can be spelled
pub words_sayable : (line : List ℕ) (d : Directive) → directive_of (words line) ≡ Ok d → IsSayable d
words_sayable line d e = directive_sayable (words line) d (all_words line) e

pub some_Ok : (r : Result Directive LineKind) (d : Directive) → some_directive r ≡ Ok (Some d) → r ≡ Ok d
some_Ok (Ok x) d e = cc
some_Ok (Err kind) d e = absurd (cc)

-- what a line says can be spelled
pub line_sayable : (line : List ℕ) (d : Directive) → line_of line ≡ Ok (Some d) → IsSayable d
line_sayable [] d e = absurd (cc)
line_sayable (c ∷ cs) d e = elim (c == 35) as (λ b. cond b (Ok None) (some_directive (directive_of (words (c ∷ cs)))) ≡ Ok (Some d) → IsSayable d)
    [ true ↦ λ e. absurd (cc) | false ↦ λ e. words_sayable (c ∷ cs) d (some_Ok (directive_of (words (c ∷ cs))) d e) ] e
