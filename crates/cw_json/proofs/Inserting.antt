-- A pair at its place among properties.
use Rattle.std.proofs.Common.{◌≡◌, ℕ, zero, suc, ◌+◌, ◌<◌, List, [], ◌∷◌, ◌++◌, length, set, take, drop, insert, Bool, true, false, cond, Option, Some, None, bytes_eq, refl, sym, ap, ◌∙◌, subst, arith, Ordering}
use Rattle.std.specs.declared.cmp.Ordering.TheVariants.{Less, Equal, Greater}
use Rattle.std.specs.List.{filter, count_by, AllByRecursion}
use Rattle.std.specs.Option.{is_some}
use Rattle.std.specs.Ordering.{nat_cmp, is_lt, is_gt, is_eq, ordering_reverse}
use Rattle.std.specs.Cmp.Lexicographic.{slice_cmp}
use Rattle.std.proofs.lemmas.Cmp.{nat_list_cmp_total}
use Rattle.std.proofs.lemmas.Map.Text.{is_eq-slice_cmp}
use Rattle.std.proofs.lemmas.List.Sums.{sum_by-cons}
use Rattle.std.proofs.lemmas.Slice.Eq.{bytes_eq-Decides}
use Rattle.cw_json.specs.Pairs.{value_in}
use Rattle.cw_json.specs.Rising.{IsRising}
use Rattle.cw_json.specs.Inserting.{below, above, with_value}

abbrev Pair : Type 0
Pair = List ℕ × List ℕ

abbrev compared : List ℕ → List ℕ → Ordering
compared = slice_cmp nat_cmp

turned : (a b : List ℕ) (o : Ordering) → compared b a ≡ o → compared a b ≡ ordering_reverse o
turned a b o e = nat_list_cmp_total.antisymm a b ∙ ap ordering_reverse e

is_less : (o : Ordering) → is_lt o ≡ true → o ≡ Less
is_less Less e = refl
is_less Equal e = cc
is_less Greater e = cc

is_greater : (o : Ordering) → is_gt o ≡ true → o ≡ Greater
is_greater Less e = cc
is_greater Equal e = cc
is_greater Greater e = refl

-- ---- what is kept of rising pairs rises

kept_all : (P : Pair → Type 0) (f : Pair → Bool) (ps : List Pair) → AllByRecursion P ps → AllByRecursion P (filter f ps)
kept_all P f [] all = tt
kept_all P f (p ∷ ps) all = pick (f p) (kept_all P f ps all.1) where
  pick : (b : Bool) → AllByRecursion P (filter f ps) → AllByRecursion P (cond b (p ∷ filter f ps) (filter f ps))
  pick true rest = (all.0, rest)
  pick false rest = rest

kept_rising : (f : Pair → Bool) (ps : List Pair) → IsRising ps → IsRising (filter f ps)
kept_rising f [] rising = tt
kept_rising f (p ∷ ps) rising = pick (f p) (kept_rising f ps rising.1) where
  pick : (b : Bool) → IsRising (filter f ps) → IsRising (cond b (p ∷ filter f ps) (filter f ps))
  pick true rest = (kept_all (λ q. compared p.0 q.0 ≡ Less) f ps rising.0, rest)
  pick false rest = rest

all_passed : (P : Pair → Type 0) (f : Pair → Bool) (passes : (p : Pair) → f p ≡ true → P p) (ps : List Pair) → AllByRecursion P (filter f ps)
all_passed P f passes [] = tt
all_passed P f passes (p ∷ ps) = pick (f p) refl (all_passed P f passes ps) where
  pick : (b : Bool) → f p ≡ b → AllByRecursion P (filter f ps) → AllByRecursion P (cond b (p ∷ filter f ps) (filter f ps))
  pick true is rest = (passes p is, rest)
  pick false is rest = rest

all_weaker : (P Q : Pair → Type 0) → ((p : Pair) → P p → Q p) → (ps : List Pair) → AllByRecursion P ps → AllByRecursion Q ps
all_weaker P Q step [] all = tt
all_weaker P Q step (p ∷ ps) all = (step p all.0, all_weaker P Q step ps all.1)

all_append : (P : Pair → Type 0) (ps qs : List Pair) → AllByRecursion P ps → AllByRecursion P qs → AllByRecursion P (ps ++ qs)
all_append P [] qs front back = back
all_append P (p ∷ ps) qs front back = (front.0, all_append P ps qs front.1 back)

around : (new : Pair) (front back : List Pair) → IsRising front → IsRising back
    → AllByRecursion (λ p. compared p.0 new.0 ≡ Less) front → AllByRecursion (λ q. compared new.0 q.0 ≡ Less) back → IsRising (front ++ new ∷ back)
around new [] back rising later lower upper = (upper, later)
around new (p ∷ front) back rising later lower upper = (
  all_append (λ q. compared p.0 q.0 ≡ Less) front (new ∷ back) rising.0
      (lower.0, all_weaker (λ q. compared new.0 q.0 ≡ Less) (λ q. compared p.0 q.0 ≡ Less) (λ q e. nat_list_cmp_total.trans p.0 new.0 q.0 lower.0 e) back upper),
  around new front back rising.1 later lower.1 upper,
)

-- properties rise with the pair in its place
pub rising_with : (key value : List ℕ) (ps : List Pair) → IsRising ps → IsRising (with_value key value ps)
rising_with key value ps rising =
    around (key, value) (below key ps) (above key ps)
    (kept_rising (λ p. is_lt (compared p.0 key)) ps rising) (kept_rising (λ p. is_gt (compared p.0 key)) ps rising)
    (all_passed (λ p. compared p.0 key ≡ Less) (λ p. is_lt (compared p.0 key)) (λ p e. is_less (compared p.0 key) e) ps)
    (all_passed (λ p. compared key p.0 ≡ Less) (λ p. is_gt (compared p.0 key)) (λ p e. turned key p.0 Greater (is_greater (compared p.0 key) e)) ps)

-- ---- the place

-- how many keys stand below a key
abbrev pub lesser : List ℕ → List Pair → ℕ
lesser key ps = count_by (λ p. is_lt (compared p.0 key)) ps

-- one more pair is counted where its key stands below
counted : (key : List ℕ) (p : Pair) (ps : List Pair) (o : Ordering) → compared p.0 key ≡ o → lesser key (p ∷ ps) ≡ cond (is_lt o) 1 0 + lesser key ps
counted key p ps o is = sum_by-cons (λ (q : Pair). cond (is_lt (compared q.0 key)) 1 0) p ps ∙ ap (λ o. cond (is_lt o) 1 0 + lesser key ps) is

record AllAbove (key : List ℕ) (ps : List Pair) : Type 0 where
  none_below : below key ps ≡ []
  all_above : above key ps ≡ ps
  none_lesser : lesser key ps ≡ 0
  not_there : value_in ps key ≡ None

are_above : (key : List ℕ) (ps : List Pair) → AllByRecursion (λ q. compared key q.0 ≡ Less) ps → AllAbove key ps
are_above key [] all = record { none_below = refl; all_above = refl; none_lesser = refl; not_there = refl }
are_above key (p ∷ ps) all =
    let rest = are_above key ps all.1 in
    let greater : compared p.0 key ≡ Greater = turned p.0 key Less all.0 in
    record {
      none_below = ap (λ o. cond (is_lt o) (p ∷ below key ps) (below key ps)) greater ∙ rest.none_below;
      all_above = ap (λ o. cond (is_gt o) (p ∷ above key ps) (above key ps)) greater ∙ ap (λ qs. p ∷ qs) rest.all_above;
      none_lesser = counted key p ps Greater greater ∙ omega (arith, rest.none_lesser);
      not_there = ap (λ b. cond b (Some p.1) (value_in ps key)) (sym (is_eq-slice_cmp p.0 key) ∙ ap is_eq greater) ∙ rest.not_there;
    }

-- the pair stands in place of the one with its key
pub set_there : (key value : List ℕ) (ps : List Pair) → IsRising ps → is_some (value_in ps key) ≡ true
    → (lesser key ps < length ps) × (set ps (lesser key ps) (key, value) ≡ with_value key value ps)
set_there key value [] rising there = cc
set_there key value (p ∷ ps) rising there = by (compared p.0 key) refl (λ found. set_there key value ps rising.1 found) where
  by : (o : Ordering) → compared p.0 key ≡ o → (is_some (value_in ps key) ≡ true → (lesser key ps < length ps) × (set ps (lesser key ps) (key, value) ≡ with_value key value ps))
      → (lesser key (p ∷ ps) < length (p ∷ ps)) × (set (p ∷ ps) (lesser key (p ∷ ps)) (key, value) ≡ with_value key value (p ∷ ps))
  by Less is behind =
      let skipped : value_in (p ∷ ps) key ≡ value_in ps key = ap (λ b. cond b (Some p.1) (value_in ps key)) (sym (is_eq-slice_cmp p.0 key) ∙ ap is_eq is) in
      let rest = behind (ap is_some (sym skipped) ∙ there) in
      let one : lesser key (p ∷ ps) ≡ suc (lesser key ps) = counted key p ps Less is ∙ omega arith in (
        omega (arith, rest.0, one),
        ap (λ n. set (p ∷ ps) n (key, value)) one
            ∙ ap (λ qs. p ∷ qs) rest.1
            ∙ sym (ap (λ o. cond (is_lt o) (p ∷ below key ps) (below key ps) ++ (key, value) ∷ cond (is_gt o) (p ∷ above key ps) (above key ps)) is),
      )
  by Equal is behind =
      let same : p.0 ≡ key = (bytes_eq-Decides p.0 key).0 (sym (is_eq-slice_cmp p.0 key) ∙ ap is_eq is) in
      let rest = are_above key ps (subst (λ (k : List ℕ). AllByRecursion (λ q. compared k q.0 ≡ Less) ps) same rising.0) in
      let none : lesser key (p ∷ ps) ≡ 0 = counted key p ps Equal is ∙ omega (arith, rest.none_lesser) in (
        omega (arith, none),
        ap (λ n. set (p ∷ ps) n (key, value)) none
            ∙ sym (ap (λ o. cond (is_lt o) (p ∷ below key ps) (below key ps) ++ (key, value) ∷ cond (is_gt o) (p ∷ above key ps) (above key ps)) is
            ∙ ap (λ qs. qs ++ (key, value) ∷ above key ps) rest.none_below
            ∙ ap (λ qs. (key, value) ∷ qs) rest.all_above),
      )
  by Greater is behind =
      let rest = are_above key ps (all_weaker (λ q. compared p.0 q.0 ≡ Less) (λ q. compared key q.0 ≡ Less) (λ q e. nat_list_cmp_total.trans key p.0 q.0 (turned key p.0 Greater is) e) ps rising.0) in
      let skipped : value_in (p ∷ ps) key ≡ value_in ps key = ap (λ b. cond b (Some p.1) (value_in ps key)) (sym (is_eq-slice_cmp p.0 key) ∙ ap is_eq is) in
      let never : false ≡ true = sym (ap is_some (skipped ∙ rest.not_there)) ∙ there in cc

-- the pair stands between the others
pub set_between : (key value : List ℕ) (ps : List Pair) → IsRising ps → is_some (value_in ps key) ≡ false
    → take (lesser key ps) ps ++ (key, value) ∷ drop (lesser key ps) ps ≡ with_value key value ps
set_between key value [] rising there = refl
set_between key value (p ∷ ps) rising there = by (compared p.0 key) refl (λ none. set_between key value ps rising.1 none) where
  by : (o : Ordering) → compared p.0 key ≡ o → (is_some (value_in ps key) ≡ false → take (lesser key ps) ps ++ (key, value) ∷ drop (lesser key ps) ps ≡ with_value key value ps)
      → take (lesser key (p ∷ ps)) (p ∷ ps) ++ (key, value) ∷ drop (lesser key (p ∷ ps)) (p ∷ ps) ≡ with_value key value (p ∷ ps)
  by Less is behind =
      let skipped : value_in (p ∷ ps) key ≡ value_in ps key = ap (λ b. cond b (Some p.1) (value_in ps key)) (sym (is_eq-slice_cmp p.0 key) ∙ ap is_eq is) in
      let one : lesser key (p ∷ ps) ≡ suc (lesser key ps) = counted key p ps Less is ∙ omega arith in
      ap (λ n. take n (p ∷ ps) ++ (key, value) ∷ drop n (p ∷ ps)) one
      ∙ ap (λ qs. p ∷ qs) (behind (ap is_some (sym skipped) ∙ there))
      ∙ sym (ap (λ o. cond (is_lt o) (p ∷ below key ps) (below key ps) ++ (key, value) ∷ cond (is_gt o) (p ∷ above key ps) (above key ps)) is)
  by Equal is behind =
      let found : value_in (p ∷ ps) key ≡ Some p.1 = ap (λ b. cond b (Some p.1) (value_in ps key)) (sym (is_eq-slice_cmp p.0 key) ∙ ap is_eq is) in
      let never : true ≡ false = sym (ap is_some found) ∙ there in cc
  by Greater is behind =
      let rest = are_above key ps (all_weaker (λ q. compared p.0 q.0 ≡ Less) (λ q. compared key q.0 ≡ Less) (λ q e. nat_list_cmp_total.trans key p.0 q.0 (turned key p.0 Greater is) e) ps rising.0) in
      let none : lesser key (p ∷ ps) ≡ 0 = counted key p ps Greater is ∙ omega (arith, rest.none_lesser) in
      ap (λ n. take n (p ∷ ps) ++ (key, value) ∷ drop n (p ∷ ps)) none
      ∙ sym (ap (λ o. cond (is_lt o) (p ∷ below key ps) (below key ps) ++ (key, value) ∷ cond (is_gt o) (p ∷ above key ps) (above key ps)) is
      ∙ ap (λ qs. qs ++ (key, value) ∷ p ∷ above key ps) rest.none_below
      ∙ ap (λ qs. (key, value) ∷ p ∷ qs) rest.all_above)
