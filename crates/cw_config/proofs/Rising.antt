-- The last record that passes a test, in a list whose offsets rise.
use Rattle.std.proofs.Common.{◌≡◌, ℕ, ◌+◌, ◌≤◌, ◌<◌, Bool, true, false, ◌&&◌, cond, max, List, [], ◌∷◌, ◌++◌, Option, None, Some, reverse, refl, ap, sym, subst, ◌∙◌, arith}
use Rattle.std.specs.Option.{IfSome, option_or, option_map}
use Rattle.std.specs.List.{find, fold}
use Rattle.std.proofs.lemmas.List.{reverse-append}
use Rattle.std.proofs.lemmas.List.Folds.{find-append}
use Rattle.std.proofs.lemmas.Bool.Decides.{nat_tests}
use Rattle.cw_config.specs.declared.records.ConfigRecord.{ConfigRecord}
use Rattle.cw_config.specs.Records.{last_where}
use Rattle.cw_config.specs.View.{is_before, is_behind}
use Rattle.cw_config.specs.Tables.{RisesFrom}

pub last_where-push : (test : ConfigRecord → Bool) (records : List ConfigRecord) (r : ConfigRecord) → last_where test (records ++ r ∷ []) ≡ cond (test r) (Some r) (last_where test records)
last_where-push test records r = ap (find test) (reverse-append records (r ∷ []))

pub last_where-cons : (test : ConfigRecord → Bool) (r : ConfigRecord) (records : List ConfigRecord) → last_where test (r ∷ records) ≡ option_or (last_where test records) (cond (test r) (Some r) None)
last_where-cons test r records = ap (find test) (reverse-append (r ∷ []) records) ∙ find-append test (reverse records) (r ∷ [])

-- one above the greatest of a number's predecessor and the offsets
abbrev pub ends : ℕ → List ConfigRecord → ℕ
ends low records = fold (λ end (r : ConfigRecord). max end (r.offset + 1)) low records

pub ends-cons : (low : ℕ) (r : ConfigRecord) (records : List ConfigRecord) → low ≤ r.offset → ends low (r ∷ records) ≡ ends (r.offset + 1) records
ends-cons low r records above = let e : max low (r.offset + 1) ≡ r.offset + 1 = omega arith in ap (λ (end : ℕ). ends end records) e

pub low_ends : (low : ℕ) (records : List ConfigRecord) → RisesFrom low records → low ≤ ends low records
low_ends low [] rises = omega arith
low_ends low (r ∷ records) rises =
    let rest : r.offset + 1 ≤ ends (r.offset + 1) records = low_ends (r.offset + 1) records rises.1 in
    let first : low ≤ r.offset = rises.0 in
    let e : ends low (r ∷ records) ≡ ends (r.offset + 1) records = ends-cons low r records rises.0 in
    omega (arith, rest, first, e)

pub rises-push : (low : ℕ) (records : List ConfigRecord) (r : ConfigRecord) → RisesFrom low records → ends low records ≤ r.offset → RisesFrom low (records ++ r ∷ [])
rises-push low [] r rises above = (above, tt)
rises-push low (x ∷ records) r rises above =
    (rises.0, rises-push (x.offset + 1) records r rises.1 (subst (λ (end : ℕ). end ≤ r.offset) (ends-cons low x records rises.0) above))

-- a record whose offset lies between
abbrev pub Within : ℕ → ℕ → ConfigRecord → Type 0
Within low high r = (low ≤ r.offset) × (r.offset < high)

pub IfSome-or : (P : ConfigRecord → Type 0) (a b : Option ConfigRecord) → IfSome a P → IfSome b P → IfSome (option_or a b) P
IfSome-or P None b x y = y
IfSome-or P (Some v) b x y = x

pub IfSome-weaker : (P Q : ConfigRecord → Type 0) (a : Option ConfigRecord) → ((r : ConfigRecord) → P r → Q r) → IfSome a P → IfSome a Q
IfSome-weaker P Q None w x = tt
IfSome-weaker P Q (Some v) w x = w v x

pub IfSome-cond : (P : ConfigRecord → Type 0) (b : Bool) (r : ConfigRecord) → P r → IfSome (cond b (Some r) None) P
IfSome-cond P true r x = x
IfSome-cond P false r x = tt

-- what is found stands where the offsets rise
pub found_within : (test : ConfigRecord → Bool) (low : ℕ) (records : List ConfigRecord) → RisesFrom low records → IfSome (last_where test records) (Within low (ends low records))
found_within test low [] rises = tt
found_within test low (r ∷ records) rises =
    let first : low ≤ r.offset = rises.0 in
    let rest : r.offset + 1 ≤ ends (r.offset + 1) records = low_ends (r.offset + 1) records rises.1 in
    let e : ends low (r ∷ records) ≡ ends (r.offset + 1) records = ends-cons low r records rises.0 in
    let here : Within low (ends low (r ∷ records)) r = (first, omega (arith, rest, e)) in
    let weaker : (q : ConfigRecord) → Within (r.offset + 1) (ends (r.offset + 1) records) q → Within low (ends low (r ∷ records)) q =
    λ (q : ConfigRecord) (w : Within (r.offset + 1) (ends (r.offset + 1) records) q).
    let above : r.offset + 1 ≤ q.offset = w.0 in
    let below : q.offset < ends (r.offset + 1) records = w.1 in
    (omega (arith, first, above), omega (arith, below, e)) in
    subst (λ (o : Option ConfigRecord). IfSome o (Within low (ends low (r ∷ records)))) (sym (last_where-cons test r records))
    (IfSome-or (Within low (ends low (r ∷ records))) (last_where test records) (cond (test r) (Some r) None)
    (IfSome-weaker (Within (r.offset + 1) (ends (r.offset + 1) records)) (Within low (ends low (r ∷ records))) (last_where test records) weaker (found_within test (r.offset + 1) records rises.1))
    (IfSome-cond (Within low (ends low (r ∷ records))) (test r) r here))

-- ---- behind a generation

abbrev pub if_behind : Option ℕ → Option ConfigRecord → Option ConfigRecord
if_behind generation None = None
if_behind generation (Some r) = cond (is_behind generation r) (Some r) None

not_behind : (generation : Option ℕ) (x y : ConfigRecord) → x.offset < y.offset → is_behind generation y ≡ false → is_behind generation x ≡ false
not_behind None x y below e = cc
not_behind (Some n) x y below e = grind (arith, nat_tests)

alone : (t b : Bool) (x : ConfigRecord) (generation : Option ℕ) → b ≡ is_behind generation x → cond (t && b) (Some x) None ≡ if_behind generation (cond t (Some x) None)
alone true b x generation e = ap (λ (v : Bool). cond v (Some x) None) e
alone false b x generation e = refl

later : (t b v : Bool) (x y : ConfigRecord) → (v ≡ false → b ≡ false) → option_or (cond v (Some y) None) (cond (t && b) (Some x) None) ≡ cond v (Some y) None
later t b true x y e = refl
later true b false x y e = ap (λ (w : Bool). cond w (Some x) None) (e refl)
later false b false x y e = refl

joins : (t : Bool) (x : ConfigRecord) (high : ℕ) (generation : Option ℕ) (o : Option ConfigRecord) → IfSome o (Within (x.offset + 1) high)
    → option_or (if_behind generation o) (cond (t && is_behind generation x) (Some x) None) ≡ if_behind generation (option_or o (cond t (Some x) None))
joins t x high generation None w = alone t (is_behind generation x) x generation refl
joins t x high generation (Some y) w =
    let above : x.offset + 1 ≤ y.offset = w.0 in
    later t (is_behind generation x) (is_behind generation y) x y (not_behind generation x y (omega (arith, above)))

-- the last one behind a generation is the last one, if that stands behind it
pub last_behind : (test : ConfigRecord → Bool) (generation : Option ℕ) (low : ℕ) (records : List ConfigRecord) → RisesFrom low records
    → last_where (λ r. test r && is_behind generation r) records ≡ if_behind generation (last_where test records)
last_behind test generation low [] rises = refl
last_behind test generation low (x ∷ records) rises =
    last_where-cons (λ r. test r && is_behind generation r) x records
    ∙ ap (λ (o : Option ConfigRecord). option_or o (cond (test x && is_behind generation x) (Some x) None)) (last_behind test generation (x.offset + 1) records rises.1)
    ∙ joins (test x) x (ends (x.offset + 1) records) generation (last_where test records) (found_within test (x.offset + 1) records rises.1)
    ∙ ap (if_behind generation) (sym (last_where-cons test x records))

-- ---- before a generation

and_true : (b : Bool) → (b && true) ≡ b
and_true true = refl
and_true false = refl

-- before an offset above all, the last one is the last one
pub last_before : (test : ConfigRecord → Bool) (high low : ℕ) (records : List ConfigRecord) → RisesFrom low records → ends low records ≤ high
    → last_where (λ r. test r && is_before (Some high) r) records ≡ last_where test records
last_before test high low [] rises below = refl
last_before test high low (x ∷ records) rises below =
    let rest : x.offset + 1 ≤ ends (x.offset + 1) records = low_ends (x.offset + 1) records rises.1 in
    let end : ends (x.offset + 1) records ≤ high = subst (λ (e : ℕ). e ≤ high) (ends-cons low x records rises.0) below in
    let lower : x.offset < high = omega (arith, rest, end) in
    let is : is_before (Some high) x ≡ true = grind (arith, nat_tests) in
    last_where-cons (λ r. test r && is_before (Some high) r) x records
    ∙ ap (λ (o : Option ConfigRecord). option_or o (cond (test x && is_before (Some high) x) (Some x) None)) (last_before test high (x.offset + 1) records rises.1 end)
    ∙ ap (λ (b : Bool). option_or (last_where test records) (cond (test x && b) (Some x) None)) is
    ∙ ap (λ (b : Bool). option_or (last_where test records) (cond b (Some x) None)) (and_true (test x))
    ∙ sym (last_where-cons test x records)
