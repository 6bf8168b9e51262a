-- Lists: elements at a place, a filter, the front that passes a test, and the first element that does.
use Rattle.std.proofs.Common.{◌≡◌, ℕ, zero, suc, ◌+◌, ◌<◌, ◌≤◌, Bool, true, false, ◌&&◌, cond, List, [], ◌∷◌, ◌++◌, length, take, map, Option, None, Some, is_some, refl, ap, ◌∙◌, arith}
use Rattle.std.specs.Prelude.{slice_get}
use Rattle.std.specs.Option.{option_map, option_or}
use Rattle.std.specs.List.{filter, find, count_by, prefix_len, enumerate_from, AllByRecursion}
use Rattle.std.proofs.lemmas.List.Sums.{sum_by-append}

pub slice_get-left : {A : Type 0} (xs ys : List A) (i : ℕ) → i < length xs → slice_get (xs ++ ys) i ≡ slice_get xs i
slice_get-left [] ys i within = absurd (omega (arith, within))
slice_get-left (x ∷ xs) ys zero within = refl
slice_get-left (x ∷ xs) ys (suc i) within = slice_get-left xs ys i (omega (arith, within))

pub slice_get-here : {A : Type 0} (xs : List A) (x : A) (ys : List A) → slice_get (xs ++ x ∷ ys) (length xs) ≡ Some x
slice_get-here [] x ys = refl
slice_get-here (y ∷ xs) x ys = slice_get-here xs x ys

pub slice_get-past : {A : Type 0} (xs : List A) (i : ℕ) → length xs ≤ i → slice_get xs i ≡ None
slice_get-past [] i past = refl
slice_get-past (x ∷ xs) zero past = absurd (omega (arith, past))
slice_get-past (x ∷ xs) (suc i) past = slice_get-past xs i (omega (arith, past))

pub slice_get-within : {A : Type 0} (xs : List A) (i : ℕ) → i < length xs → is_some (slice_get xs i) ≡ true
slice_get-within [] i within = absurd (omega (arith, within))
slice_get-within (x ∷ xs) zero within = refl
slice_get-within (x ∷ xs) (suc i) within = slice_get-within xs i (omega (arith, within))

pub slice_get-map : {A B : Type 0} (f : A → B) (xs : List A) (i : ℕ) → slice_get (map f xs) i ≡ option_map f (slice_get xs i)
slice_get-map f [] i = refl
slice_get-map f (x ∷ xs) zero = refl
slice_get-map f (x ∷ xs) (suc i) = slice_get-map f xs i

-- facts of each element, by recursion
pub each_taken : {A : Type 0} (P : A → Type 0) (n : ℕ) (xs : List A) → AllByRecursion P xs → AllByRecursion P (take n xs)
each_taken P zero xs each = tt
each_taken P (suc n) [] each = tt
each_taken P (suc n) (x ∷ xs) each = (each.0, each_taken P n xs each.1)

pub each_both : {A : Type 0} (P Q R : A → Type 0) → ((x : A) → P x → Q x → R x) → (xs : List A) → AllByRecursion P xs → AllByRecursion Q xs → AllByRecursion R xs
each_both P Q R both [] p q = tt
each_both P Q R both (x ∷ xs) p q = (both x p.0 q.0, each_both P Q R both xs p.1 q.1)

pub each_one : {A : Type 0} (P R : A → Type 0) → ((x : A) → P x → R x) → (xs : List A) → AllByRecursion P xs → AllByRecursion R xs
each_one P R one [] p = tt
each_one P R one (x ∷ xs) p = (one x p.0, each_one P R one xs p.1)

pub filter_alike : {A : Type 0} (p q : A → Bool) (xs : List A) → AllByRecursion (λ x. p x ≡ q x) xs → filter p xs ≡ filter q xs
filter_alike p q [] each = refl
filter_alike p q (x ∷ xs) each =
    ap (λ b. cond b (x ∷ filter p xs) (filter p xs)) each.0 ∙ ap (λ l. cond (q x) (x ∷ l) l) (filter_alike p q xs each.1)

-- the front that passes a test
pub prefix_len-all : {A : Type 0} (p : A → Bool) (xs ys : List A) → AllByRecursion (λ x. p x ≡ true) xs → prefix_len p (xs ++ ys) ≡ length xs + prefix_len p ys
prefix_len-all p [] ys each = omega arith
prefix_len-all p (x ∷ xs) ys each = ap (λ b. cond b (1 + prefix_len p (xs ++ ys)) 0) each.0 ∙ omega (arith, prefix_len-all p xs ys each.1)

pub prefix_len-none : {A : Type 0} (p : A → Bool) (xs ys : List A) → 1 ≤ length xs → AllByRecursion (λ x. p x ≡ false) xs → prefix_len p (xs ++ ys) ≡ 0
prefix_len-none p [] ys some each = absurd (omega (arith, some))
prefix_len-none p (x ∷ xs) ys some each = ap (λ b. cond b (1 + prefix_len p (xs ++ ys)) 0) each.0

pub prefix_len-alike : {A : Type 0} (p q : A → Bool) → ((x : A) → p x ≡ q x) → (xs : List A) → prefix_len p xs ≡ prefix_len q xs
prefix_len-alike p q same [] = refl
prefix_len-alike p q same (x ∷ xs) = ap (λ b. cond b (1 + prefix_len p xs) 0) (same x) ∙ ap (λ n. cond (q x) (1 + n) 0) (prefix_len-alike p q same xs)

pub take-behind : {A : Type 0} (xs ys : List A) (n : ℕ) → take (length xs + n) (xs ++ ys) ≡ xs ++ take n ys
take-behind [] ys n = let e : 0 + n ≡ n = omega arith in ap (λ k. take k ys) e
take-behind (x ∷ xs) ys n =
    let e : suc (length xs) + n ≡ suc (length xs + n) = omega arith in
    ap (λ k. take k (x ∷ (xs ++ ys))) e ∙ ap (λ l. x ∷ l) (take-behind xs ys n)

-- the first element that passes a test
found : {A : Type 0} (b : Bool) (x : A) (all front back : Option A) → all ≡ option_or front back → cond b (Some x) all ≡ option_or (cond b (Some x) front) back
found true x all front back e = refl
found false x all front back e = e

pub find-append : {A : Type 0} (p : A → Bool) (xs ys : List A) → find p (xs ++ ys) ≡ option_or (find p xs) (find p ys)
find-append p [] ys = refl
find-append p (x ∷ xs) ys = found (p x) x (find p (xs ++ ys)) (find p xs) (find p ys) (find-append p xs ys)

pub enumerate_from-append : {A : Type 0} (n : ℕ) (xs ys : List A) → enumerate_from n (xs ++ ys) ≡ enumerate_from n xs ++ enumerate_from (n + length xs) ys
enumerate_from-append n [] ys = ap (λ k. enumerate_from k ys) (omega arith)
enumerate_from-append n (x ∷ xs) ys =
    ap (λ l. (n, x) ∷ l) (enumerate_from-append (n + 1) xs ys ∙ ap (λ k. enumerate_from (n + 1) xs ++ enumerate_from k ys) (omega arith))

pub option_or-some : {A : Type 0} (a b : Option A) → is_some a ≡ true → option_or a b ≡ a
option_or-some None b some = cc
option_or-some (Some a) b some = refl

kept : {A : Type 0} (q : A → Bool) (x : A) (b : Bool) (rest : List A) (o : Option A) → find q rest ≡ o → find q (cond b (x ∷ rest) rest) ≡ cond (b && q x) (Some x) o
kept q x true rest o e = ap (λ r. cond (q x) (Some x) r) e
kept q x false rest o e = e

pub find-filter : {A : Type 0} (p q : A → Bool) (xs : List A) → find q (filter p xs) ≡ find (λ x. p x && q x) xs
find-filter p q [] = refl
find-filter p q (x ∷ xs) = kept q x (p x) (filter p xs) (find (λ y. p y && q y) xs) (find-filter p q xs)

-- how many pass a test beside one of them
pub count-split : {A : Type 0} (p : A → Bool) (front : List A) (entry : A) (back : List A) → count_by p (front ++ entry ∷ back) ≡ count_by p (front ++ back) + cond (p entry) 1 0
count-split {A = A} p front entry back =
    let one = sum_by-append (λ (e : A). cond (p e) 1 0) front (entry ∷ back) in
    let two = sum_by-append (λ (e : A). cond (p e) 1 0) front back in
    let three = sum_by-append (λ (e : A). cond (p e) 1 0) (entry ∷ []) back in
    omega (arith, one, two, three)
