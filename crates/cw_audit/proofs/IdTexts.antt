-- The texts of a group's ids tell them apart: a task's has two dashes and ends in digits.
use Rattle.std.proofs.Common.{◌≡◌, ℕ, ◌+◌, ◌≤◌, ◌<◌, ◌^◌, ◌==◌, Bool, true, false, cond, List, [], ◌∷◌, ◌++◌, length, get_or, codes, decimal, refl, sym, ap, ◌∙◌, arith, append_assoc}
use Rattle.std.specs.Char.{is_ascii_digit}
use Rattle.std.specs.List.{list_all}
use Rattle.std.proofs.lemmas.Bool.Decides.{nat_tests}
use Rattle.std.proofs.lemmas.Fmt.{digits_decimal, decimal_injective, decimal_nonempty}
use Rattle.cw_bytes.specs.Spelling.{IsTid}
use Rattle.cw_types.specs.declared.ids.TaskId.{TaskId}
use Rattle.cw_types.specs.declared.ids.Tid.{Tid}
use Rattle.cw_types.specs.declared.ids.Tid.TheVariants.{Lead, Task, Raw}
use Rattle.cw_types.specs.Text.{tid_text}
use Rattle.cw_types.proofs.Decimals.{own}

-- how many bytes pass a test
tally : (ℕ → Bool) → List ℕ → ℕ
tally test [] = 0
tally test (c ∷ cs) = cond (test c) 1 0 + tally test cs

tally-append : (test : ℕ → Bool) (xs ys : List ℕ) → tally test (xs ++ ys) ≡ tally test xs + tally test ys
unfolding tally
tally-append test [] ys = omega arith
tally-append test (c ∷ cs) ys = omega (arith, tally-append test cs ys)

abbrev is_dash : ℕ → Bool
is_dash c = c == 45

no-dash : (c : ℕ) → is_ascii_digit c ≡ true → is_dash c ≡ false
no-dash c digit = grind (arith, nat_tests)

module _ (ds : List ℕ) where
  digits-first : (c : ℕ) → list_all is_ascii_digit (c ∷ ds) ≡ true → (is_ascii_digit c ≡ true) × (list_all is_ascii_digit ds ≡ true)
  digits-first c all = grind (arith, nat_tests)

no-dashes : (ds : List ℕ) → list_all is_ascii_digit ds ≡ true → tally is_dash ds ≡ 0
unfolding tally
no-dashes [] all = refl
no-dashes (c ∷ cs) all = let first = digits-first cs c all in ap (λ (b : Bool). cond b 1 0 + tally is_dash cs) (no-dash c first.0) ∙ omega (arith, no-dashes cs first.1)

all-digits : (ds : List ℕ) → list_all is_ascii_digit ds ≡ true → tally is_ascii_digit ds ≡ length ds
unfolding tally
all-digits [] all = refl
all-digits (c ∷ cs) all = let first = digits-first cs c all in ap (λ (b : Bool). cond b 1 0 + tally is_ascii_digit cs) first.0 ∙ omega (arith, all-digits cs first.1)

dashes-none : (n : ℕ) → n < 2 ^ 64 → tally is_dash (decimal n) ≡ 0
dashes-none n fits = no-dashes (decimal n) (digits_decimal own n fits)

digits-some : (n : ℕ) → n < 2 ^ 64 → 1 ≤ tally is_ascii_digit (decimal n)
digits-some n fits = omega (arith, all-digits (decimal n) (digits_decimal own n fits), decimal_nonempty n fits)

-- the text of a task, piece by piece
tally-task : (test : ℕ → Bool) (group connector : List ℕ) (n : ℕ) → tally test (group ++ codes "-" ++ connector ++ codes "-" ++ decimal n)
    ≡ tally test group + (tally test (codes "-") + (tally test connector + (tally test (codes "-") + tally test (decimal n))))
tally-task test group connector n = omega (
  arith,
  tally-append test (group ++ codes "-" ++ connector ++ codes "-") (decimal n),
  tally-append test (group ++ codes "-" ++ connector) (codes "-"),
  tally-append test (group ++ codes "-") connector,
  tally-append test group (codes "-"),
)

-- ---- ids of two kinds

dash-itself : tally is_dash (codes "-") ≡ 1
unfolding tally
dash-itself = refl

dash-no_digit : tally is_ascii_digit (codes "-") ≡ 0
unfolding tally
dash-no_digit = refl

lead-no_digit : tally is_ascii_digit (codes "connect-cluster-") ≡ 0
unfolding tally
lead-no_digit = refl

raw-one_dash : tally is_dash (codes "raw-") ≡ 1
unfolding tally
raw-one_dash = refl

lead-task : (group connector : List ℕ) (n : ℕ) → n < 2 ^ 64 → codes "connect-cluster-" ++ group ≡ group ++ codes "-" ++ connector ++ codes "-" ++ decimal n → ⊥
lead-task group connector n fits is = omega (
  arith,
  ap (tally is_ascii_digit) is,
  tally-append is_ascii_digit (codes "connect-cluster-") group,
  tally-task is_ascii_digit group connector n,
  lead-no_digit,
  dash-no_digit,
  digits-some n fits,
)

raw-task : (group connector : List ℕ) (m n : ℕ) → m < 2 ^ 64 → n < 2 ^ 64 → codes "raw-" ++ decimal m ≡ group ++ codes "-" ++ connector ++ codes "-" ++ decimal n → ⊥
raw-task group connector m n small fits is = omega (
  arith,
  ap (tally is_dash) is,
  tally-append is_dash (codes "raw-") (decimal m),
  tally-task is_dash group connector n,
  raw-one_dash,
  dash-itself,
  dashes-none m small,
)

lead-raw : (group : List ℕ) (n : ℕ) → codes "connect-cluster-" ++ group ≡ codes "raw-" ++ decimal n → ⊥
lead-raw group n is = let first : 99 ≡ 114 = ap (λ (l : List ℕ). get_or l 0 0) is in omega (arith, first)

-- ---- two tasks

cancel : (xs ys zs : List ℕ) → xs ++ ys ≡ xs ++ zs → ys ≡ zs
cancel [] ys zs is = is
cancel (x ∷ xs) ys zs is = let rest : xs ++ ys ≡ xs ++ zs = (cc) in cancel xs ys zs rest

too-many : (a y b : List ℕ) → tally is_dash a ≡ 0 → a ≡ y ++ 45 ∷ b → ⊥
unfolding tally
too-many a y b none is = omega (arith, none, ap (tally is_dash) is, tally-append is_dash y (45 ∷ b))

cut : (x y a b : List ℕ) → tally is_dash a ≡ 0 → tally is_dash b ≡ 0 → x ++ 45 ∷ a ≡ y ++ 45 ∷ b → (x ≡ y) × (a ≡ b)
cut [] [] a b none_a none_b is = (refl, cc)
cut [] (c ∷ y) a b none_a none_b is = let rest : a ≡ y ++ 45 ∷ b = (cc) in absurd (too-many a y b none_a rest)
cut (c ∷ x) [] a b none_a none_b is = let rest : b ≡ x ++ 45 ∷ a = (cc) in absurd (too-many b x a none_b rest)
cut (c ∷ x) (d ∷ y) a b none_a none_b is =
    let first : c ≡ d = (cc) in
    let rest : x ++ 45 ∷ a ≡ y ++ 45 ∷ b = (cc) in
    let r = cut x y a b none_a none_b rest in
    ((λ i. first i ∷ r.0 i), r.1)

regroup : (group connector ds : List ℕ) → group ++ codes "-" ++ connector ++ codes "-" ++ ds ≡ group ++ (45 ∷ (connector ++ 45 ∷ ds))
regroup group connector ds = simp append_assoc

task-task : (group : List ℕ) (a b : TaskId) → a.index < 2 ^ 64 → b.index < 2 ^ 64 → tid_text group (Task a) ≡ tid_text group (Task b) → a ≡ b
task-task group a b fits_a fits_b is =
    let whole : group ++ (45 ∷ (a.connector ++ 45 ∷ decimal a.index)) ≡ group ++ (45 ∷ (b.connector ++ 45 ∷ decimal b.index)) =
    sym (regroup group a.connector (decimal a.index)) ∙ is ∙ regroup group b.connector (decimal b.index) in
    let behind : 45 ∷ (a.connector ++ 45 ∷ decimal a.index) ≡ 45 ∷ (b.connector ++ 45 ∷ decimal b.index) = cancel group _ _ whole in
    let rest : a.connector ++ 45 ∷ decimal a.index ≡ b.connector ++ 45 ∷ decimal b.index = (cc) in
    let r = cut a.connector b.connector (decimal a.index) (decimal b.index) (dashes-none a.index fits_a) (dashes-none b.index fits_b) rest in
    let index : a.index ≡ b.index = decimal_injective a.index b.index fits_a fits_b r.1 in
    λ i. record { connector = r.0 i; index = index i }

fits : (n : ℕ) → n < 2 ^ 32 → n < 2 ^ 64
fits n small = omega arith

pub ids-apart : (group : List ℕ) (a b : Tid) → IsTid a → IsTid b → tid_text group a ≡ tid_text group b → a ≡ b
ids-apart group Lead Lead is_a is_b is = refl
ids-apart group Lead (Task b) is_a is_b is = absurd (lead-task group b.connector b.index (fits b.index is_b.1) is)
ids-apart group Lead (Raw n) is_a is_b is = absurd (lead-raw group n is)
ids-apart group (Task a) Lead is_a is_b is = absurd (lead-task group a.connector a.index (fits a.index is_a.1) (sym is))
ids-apart group (Task a) (Task b) is_a is_b is = ap (λ (id : TaskId). Task id) (task-task group a b (fits a.index is_a.1) (fits b.index is_b.1) is)
ids-apart group (Task a) (Raw n) is_a is_b is = absurd (raw-task group a.connector n a.index (fits n is_b) (fits a.index is_a.1) (sym is))
ids-apart group (Raw m) Lead is_a is_b is = absurd (lead-raw group m (sym is))
ids-apart group (Raw m) (Task b) is_a is_b is = absurd (raw-task group b.connector m b.index (fits m is_a) (fits b.index is_b.1) is)
ids-apart group (Raw m) (Raw n) is_a is_b is =
    let same : decimal m ≡ decimal n = cancel (codes "raw-") (decimal m) (decimal n) is in
    ap (λ (k : ℕ). Raw k) (decimal_injective m n (fits m is_a) (fits n is_b) same)
