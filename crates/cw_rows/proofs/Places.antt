-- The places of the members of a list that pass a test, as the list changes.
use Rattle.std.proofs.Common.{◌≡◌, ◌≢◌, ℕ, zero, suc, ◌+◌, ◌<◌, ◌≤◌, ◌==◌, ◌&&◌, not, Bool, true, false, List, [], ◌∷◌, ◌++◌, length, map, refl, sym, ◌∙◌, ap, arith, get_or, set, if◌then◌else◌, append_assoc}
use Rattle.std.specs.List.{filter, fold, AllByRecursion}
use Rattle.std.proofs.Math.Seq.{get_or-append_seam}
use Rattle.std.proofs.lemmas.Bool.Decides.{nat_tests}
use Rattle.cw_rows.specs.Crew.{with_place, places_from, change_at}

-- ---- one more

with_place-append : (b : Bool) (k : ℕ) (ps qs : List ℕ) → with_place b k (ps ++ qs) ≡ with_place b k ps ++ qs
with_place-append true k ps qs = refl
with_place-append false k ps qs = refl

pub places-push : {A : Type 0} (test : A → Bool) (k : ℕ) (xs : List A) (x : A) →
    places_from k test (xs ++ x ∷ []) ≡ places_from k test xs ++ with_place (test x) (k + length xs) []
places-push test k [] x = ap (λ (n : ℕ). with_place (test x) n []) (omega arith)
places-push test k (y ∷ xs) x =
    let next : (k + 1) + length xs ≡ k + length (y ∷ xs) = omega arith in
    ap (λ (ps : List ℕ). with_place (test y) k ps) (places-push test (k + 1) xs x) ∙
    with_place-append (test y) k (places_from (k + 1) test xs) (with_place (test x) ((k + 1) + length xs) []) ∙
    ap (λ (n : ℕ). with_place (test y) k (places_from (k + 1) test xs) ++ with_place (test x) n []) next

-- ---- one changed

-- of the new member the test says the same
pub places-same : {A : Type 0} (test : A → Bool) (k : ℕ) (xs : List A) (i : ℕ) (y d : A) → test y ≡ test (get_or xs i d) →
    places_from k test (set xs i y) ≡ places_from k test xs
places-same test k [] i y d same = refl
places-same test k (x ∷ xs) zero y d same = ap (λ (b : Bool). with_place b k (places_from (k + 1) test xs)) same
places-same test k (x ∷ xs) (suc i) y d same = ap (λ (ps : List ℕ). with_place (test x) k ps) (places-same test (k + 1) xs i y d same)

-- the same of all members
pub places-map : {A : Type 0} (test : A → Bool) (f : A → A) (k : ℕ) (xs : List A) → ((x : A) → test (f x) ≡ test x) →
    places_from k test (map f xs) ≡ places_from k test xs
places-map test f k [] same = refl
places-map test f k (x ∷ xs) same =
    ap (λ (b : Bool). with_place b k (places_from (k + 1) test (map f xs))) (same x) ∙
    ap (λ (ps : List ℕ). with_place (test x) k ps) (places-map test f (k + 1) xs same)

-- no member passes any more
pub places-none : {A : Type 0} (test : A → Bool) (f : A → A) (k : ℕ) (xs : List A) → ((x : A) → test (f x) ≡ false) →
    places_from k test (map f xs) ≡ []
places-none test f k [] none = refl
places-none test f k (x ∷ xs) none =
    ap (λ (b : Bool). with_place b k (places_from (k + 1) test (map f xs))) (none x) ∙ places-none test f (k + 1) xs none

-- ---- one dropped

filter-with_place : (p : ℕ → Bool) (b : Bool) (k : ℕ) (ps : List ℕ) → p k ≡ true →
    filter p (with_place b k ps) ≡ with_place b k (filter p ps)
filter-with_place p true k ps is = grind (arith, is)
filter-with_place p false k ps is = refl

filter-out_place : (p : ℕ → Bool) (b : Bool) (k : ℕ) (ps : List ℕ) → p k ≡ false → filter p (with_place b k ps) ≡ filter p ps
filter-out_place p true k ps not_it = grind (arith, not_it)
filter-out_place p false k ps not_it = refl

pub other : (m n : ℕ) → m ≢ n → not (m == n) ≡ true
other m n apart = grind (arith, nat_tests, apart)

pub same : (m : ℕ) → not (m == m) ≡ false
same m = grind (arith, nat_tests)

-- a number below all places is none of them
places-above : {A : Type 0} (test : A → Bool) (k n : ℕ) (xs : List A) → n < k →
    filter (λ m. not (m == n)) (places_from k test xs) ≡ places_from k test xs
places-above test k n [] below = refl
places-above test k n (x ∷ xs) below =
    filter-with_place (λ m. not (m == n)) (test x) k (places_from (k + 1) test xs) (other k n (omega (arith, below))) ∙
    ap (λ (ps : List ℕ). with_place (test x) k ps) (places-above test (k + 1) n xs (omega (arith, below)))

-- a member that passes no more drops out
pub places-drop : {A : Type 0} (test : A → Bool) (k : ℕ) (xs : List A) (i : ℕ) (y : A) → test y ≡ false →
    places_from k test (set xs i y) ≡ filter (λ n. not (n == k + i)) (places_from k test xs)
places-drop test k [] i y ends = refl
places-drop test k (x ∷ xs) zero y ends =
    let here : k + 0 ≡ k = omega arith in
    let gone : filter (λ n. not (n == k)) (with_place (test x) k (places_from (k + 1) test xs)) ≡ places_from (k + 1) test xs =
    filter-out_place (λ n. not (n == k)) (test x) k (places_from (k + 1) test xs) (same k) ∙ places-above test (k + 1) k xs (omega arith) in
    ap (λ (b : Bool). with_place b k (places_from (k + 1) test xs)) ends ∙ sym gone ∙
    ap (λ (m : ℕ). filter (λ n. not (n == m)) (with_place (test x) k (places_from (k + 1) test xs))) (sym here)
places-drop test k (x ∷ xs) (suc i) y ends =
    let next : (k + 1) + i ≡ k + suc i = omega arith in
    let apart : k ≢ k + suc i = omega arith in
    ap (λ (ps : List ℕ). with_place (test x) k ps) (places-drop test (k + 1) xs i y ends) ∙
    ap (λ (m : ℕ). with_place (test x) k (filter (λ n. not (n == m)) (places_from (k + 1) test xs))) next ∙
    sym (filter-with_place (λ n. not (n == k + suc i)) (test x) k (places_from (k + 1) test xs) (other k (k + suc i) apart))

-- ---- many changed

put-behind : {A : Type 0} (before : List A) (x y : A) (xs : List A) →
    set (before ++ x ∷ xs) (length before) y ≡ before ++ y ∷ xs
put-behind [] x y xs = refl
put-behind {A} (b ∷ before) x y xs = ap (λ (l : List A). b ∷ l) (put-behind before x y xs)

pub length-one : {A : Type 0} (before : List A) (x : A) → length (before ++ x ∷ []) ≡ length before + 1
length-one [] x = refl
length-one (b ∷ before) x = omega (arith, length-one before x)

-- a change at the place behind the first members
change-behind : {A : Type 0} (second : A → Bool) (f : A → A) (d : A) (before : List A) (x : A) (xs : List A) →
    change_at second f d (before ++ x ∷ xs) (length before) ≡ before ++ (if second x then f x else x) ∷ xs
change-behind {A} second f d before x xs =
    ap (λ (y : A). set (before ++ x ∷ xs) (length before) (if second y then f y else y)) (get_or-append_seam before x xs d) ∙
    put-behind before x (if second x then f x else x) xs

changes-next : {A : Type 0} (test second : A → Bool) (f : A → A) (d : A) (before : List A) (y : A) (xs ys : List A) →
    fold (change_at second f d) ((before ++ y ∷ []) ++ xs) (places_from (length (before ++ y ∷ [])) test xs) ≡ (before ++ y ∷ []) ++ ys →
    fold (change_at second f d) (before ++ y ∷ xs) (places_from (length before + 1) test xs) ≡ before ++ y ∷ ys
changes-next {A} test second f d before y xs ys rest =
    ap (λ (l : List A). fold (change_at second f d) l (places_from (length before + 1) test xs)) (sym (append_assoc before (y ∷ []) xs)) ∙
    ap (λ (n : ℕ). fold (change_at second f d) ((before ++ y ∷ []) ++ xs) (places_from n test xs)) (sym (length-one before y)) ∙
    rest ∙ append_assoc before (y ∷ []) ys

changes-here : {A : Type 0} (b : Bool) (test second : A → Bool) (f : A → A) (d : A) (before : List A) (x : A) (xs ys : List A) →
    (let y = if b && second x then f x else x in
    fold (change_at second f d) ((before ++ y ∷ []) ++ xs) (places_from (length (before ++ y ∷ [])) test xs) ≡ (before ++ y ∷ []) ++ ys) →
    fold (change_at second f d) (before ++ x ∷ xs) (with_place b (length before) (places_from (length before + 1) test xs)) ≡
    before ++ (if b && second x then f x else x) ∷ ys
changes-here {A} true test second f d before x xs ys rest =
    ap (λ (l : List A). fold (change_at second f d) l (places_from (length before + 1) test xs)) (change-behind second f d before x xs) ∙
    changes-next test second f d before (if second x then f x else x) xs ys rest
changes-here false test second f d before x xs ys rest = changes-next test second f d before x xs ys rest

-- the members at these places that pass a second test are changed
pub changes-places : {A : Type 0} (test second : A → Bool) (f : A → A) (d : A) (before xs : List A) →
    fold (change_at second f d) (before ++ xs) (places_from (length before) test xs) ≡
    before ++ map (λ x. if test x && second x then f x else x) xs
changes-places test second f d before [] = refl
changes-places test second f d before (x ∷ xs) =
    changes-here (test x) test second f d before x xs (map (λ x. if test x && second x then f x else x) xs)
    (changes-places test second f d (before ++ (if test x && second x then f x else x) ∷ []) xs)

-- ---- what is looked up at these places

reads-next : {A B : Type 0} (test : A → Bool) (g : A → B) (d : A) (before : List A) (x : A) (xs : List A) (ys : List B) →
    map (λ n. g (get_or ((before ++ x ∷ []) ++ xs) n d)) (places_from (length (before ++ x ∷ [])) test xs) ≡ ys →
    map (λ n. g (get_or (before ++ x ∷ xs) n d)) (places_from (length before + 1) test xs) ≡ ys
reads-next {A} {B} test g d before x xs ys rest =
    ap (λ (l : List A). map (λ n. g (get_or l n d)) (places_from (length before + 1) test xs)) (sym (append_assoc before (x ∷ []) xs)) ∙
    ap (λ (k : ℕ). map (λ n. g (get_or ((before ++ x ∷ []) ++ xs) n d)) (places_from k test xs)) (sym (length-one before x)) ∙ rest

reads-here : {A B : Type 0} (b : Bool) (test : A → Bool) (g : A → B) (d : A) (before : List A) (x : A) (xs zs : List A) →
    map (λ n. g (get_or (before ++ x ∷ xs) n d)) (places_from (length before + 1) test xs) ≡ map g zs →
    map (λ n. g (get_or (before ++ x ∷ xs) n d)) (with_place b (length before) (places_from (length before + 1) test xs)) ≡
    map g (if b then x ∷ zs else zs)
reads-here {A} {B} true test g d before x xs zs rest =
    ap (λ (y : A). g y ∷ map (λ n. g (get_or (before ++ x ∷ xs) n d)) (places_from (length before + 1) test xs)) (get_or-append_seam before x xs d) ∙
    ap (λ (l : List B). g x ∷ l) rest
reads-here false test g d before x xs zs rest = rest

pub reads-places : {A B : Type 0} (test : A → Bool) (g : A → B) (d : A) (before xs : List A) →
    map (λ n. g (get_or (before ++ xs) n d)) (places_from (length before) test xs) ≡ map g (filter test xs)
reads-places test g d before [] = refl
reads-places test g d before (x ∷ xs) =
    reads-here (test x) test g d before x xs (filter test xs)
    (reads-next test g d before x xs (map g (filter test xs)) (reads-places test g d (before ++ x ∷ []) xs))

-- ---- where places are

all-with_place : (P : ℕ → Type 0) (b : Bool) (k : ℕ) (ps : List ℕ) → P k → AllByRecursion P ps → AllByRecursion P (with_place b k ps)
all-with_place P true k ps here each = (here, each)
all-with_place P false k ps here each = each

pub places-within : {A : Type 0} (test : A → Bool) (k end : ℕ) (xs : List A) → k + length xs ≤ end →
    AllByRecursion (λ n. n < end) (places_from k test xs)
places-within test k end [] within = tt
places-within test k end (x ∷ xs) within =
    all-with_place (λ n. n < end) (test x) k (places_from (k + 1) test xs) (omega (arith, within))
    (places-within test (k + 1) end xs (omega (arith, within)))

-- ---- the places that pass a second test, where the test of the changed members says both

filters-next : {A : Type 0} (test second : A → Bool) (d : A) (before : List A) (y : A) (xs ys : List A) →
    filter (λ n. second (get_or ((before ++ y ∷ []) ++ ys) n d)) (places_from (length (before ++ y ∷ [])) test xs) ≡
    places_from (length (before ++ y ∷ [])) test ys →
    filter (λ n. second (get_or (before ++ y ∷ ys) n d)) (places_from (length before + 1) test xs) ≡
    places_from (length before + 1) test ys
filters-next {A} test second d before y xs ys rest =
    ap (λ (l : List A). filter (λ n. second (get_or l n d)) (places_from (length before + 1) test xs)) (sym (append_assoc before (y ∷ []) ys)) ∙
    ap (λ (k : ℕ). filter (λ n. second (get_or ((before ++ y ∷ []) ++ ys) n d)) (places_from k test xs)) (sym (length-one before y)) ∙
    rest ∙ ap (λ (k : ℕ). places_from k test ys) (length-one before y)

filters-here : (p : ℕ → Bool) (b c : Bool) (k : ℕ) (ps qs : List ℕ) → p k ≡ c → filter p ps ≡ qs →
    filter p (with_place b k ps) ≡ with_place (b && c) k qs
filters-here p true true k ps qs is rest = filter-with_place p true k ps is ∙ ap (λ (l : List ℕ). k ∷ l) rest
filters-here p true false k ps qs is rest = filter-out_place p true k ps is ∙ rest
filters-here p false c k ps qs is rest = rest

pub places-filter : {A : Type 0} (test second : A → Bool) (f : A → A) (d : A) (before xs : List A) →
    ((x : A) → test (f x) ≡ (test x && second (f x))) →
    filter (λ n. second (get_or (before ++ map f xs) n d)) (places_from (length before) test xs) ≡
    places_from (length before) test (map f xs)
places-filter test second f d before [] both = refl
places-filter {A} test second f d before (x ∷ xs) both =
    filters-here (λ n. second (get_or (before ++ f x ∷ map f xs) n d)) (test x) (second (f x)) (length before)
    (places_from (length before + 1) test xs) (places_from (length before + 1) test (map f xs))
    (ap second (get_or-append_seam before (f x) (map f xs) d))
    (filters-next test second d before (f x) xs (map f xs) (places-filter test second f d (before ++ f x ∷ []) xs both)) ∙
    ap (λ (b : Bool). with_place b (length before) (places_from (length before + 1) test (map f xs))) (sym (both x))
