-- Dealing items to hands.
use Rattle.std.proofs.Common.{◌≡◌, ℕ, zero, suc, ◌+◌, ◌<◌, ◌≤◌, Bool, true, false, ◌&&◌, cond, List, [], ◌∷◌, ◌++◌, length, take, get_or, set, refl, ap, ◌∙◌, arith, leb}
use Rattle.std.specs.List.{list_all, fold, filter}
use Rattle.std.proofs.lemmas.List.{take_all}
use Rattle.std.proofs.lemmas.Bool.Decides.{nat_tests}
use Rattle.std.proofs.lemmas.List.Elements.{filter_more}
use Rattle.cw_types.specs.declared.ids.Item.{Item}
use Rattle.cw_assign.specs.Plan.{Hand, load_of, give}

-- a hand with one item more
abbrev pub with_item : Item → Hand → Hand
with_item x hand = record { kept = hand.kept; fresh = hand.fresh ++ x ∷ [] }

if_true : {A : Type 0} (b : Bool) (x y : A) → b ≡ true → cond b x y ≡ x
if_true true x y e = refl
if_true false x y e = cc

if_false : {A : Type 0} (b : Bool) (x y : A) → b ≡ false → cond b x y ≡ y
if_false true x y e = cc
if_false false x y e = refl

both_true : (a b : Bool) → a ≡ true → b ≡ true → (a && b) ≡ true
both_true true b x y = y
both_true false b x y = x

second_false : (a b : Bool) → b ≡ false → (a && b) ≡ false
second_false true b e = e
second_false false b e = refl

first_false : (a b : Bool) → a ≡ false → (a && b) ≡ false
first_false true b e = cc
first_false false b e = refl

below_all : (n : ℕ) (hands : List Hand) → ((k : ℕ) (d : Hand) → k < length hands → n ≤ load_of (get_or hands k d)) → list_all (λ other. leb n (load_of other)) hands ≡ true
below_all n [] least = refl
below_all n (h ∷ hs) least = both_true (leb n (load_of h)) (list_all (λ other. leb n (load_of other)) hs) (first (least 0 h (omega arith))) (below_all n hs (λ k d within. least (suc k) d (omega arith))) where
  first : n ≤ load_of h → leb n (load_of h) ≡ true
  first small = grind (arith, nat_tests)

one_below : (n : ℕ) (hands : List Hand) (k : ℕ) (d : Hand) → k < length hands → load_of (get_or hands k d) < n → list_all (λ other. leb n (load_of other)) hands ≡ false
one_below n [] k d within below = absurd (omega arith)
one_below n (h ∷ hs) zero d within below = first_false (leb n (load_of h)) (list_all (λ other. leb n (load_of other)) hs) (here below) where
  here : load_of h < n → leb n (load_of h) ≡ false
  here small = grind (arith, nat_tests)
one_below n (h ∷ hs) (suc k) d within below = second_false (leb n (load_of h)) (list_all (λ other. leb n (load_of other)) hs) (one_below n hs k d (omega arith) below)

-- the item goes to the first of those with the least load
pub give-set : (x : Item) (hands : List Hand) (at : ℕ) (d : Hand) → at < length hands
    → ((k : ℕ) (e : Hand) → k < length hands → load_of (get_or hands at e) ≤ load_of (get_or hands k e))
    → ((k : ℕ) (e : Hand) → k < at → load_of (get_or hands at e) < load_of (get_or hands k e))
    → give hands x ≡ set hands at (with_item x (get_or hands at d))
give-set x [] at d within least first = absurd (omega arith)
give-set x (h ∷ hs) zero d within least first =
    if_true (list_all (λ other. leb (load_of h) (load_of other)) hs) (with_item x h ∷ hs) (h ∷ give hs x) (below_all (load_of h) hs (λ k e inside. least (suc k) e (omega arith)))
give-set x (h ∷ hs) (suc at) d within least first =
    if_false (list_all (λ other. leb (load_of h) (load_of other)) hs) (with_item x h ∷ hs) (h ∷ give hs x) (one_below (load_of h) hs at d (omega arith) (first 0 d (omega arith)))
    ∙ ap (λ rest. h ∷ rest) (give-set x hs at d (omega arith) (λ k e inside. least (suc k) e (omega arith)) (λ k e before. first (suc k) e (omega arith)))

length-cond : (b : Bool) (xs ys : List Hand) (n : ℕ) → length xs ≡ n → length ys ≡ n → length (cond b xs ys) ≡ n
length-cond true xs ys n e f = e
length-cond false xs ys n e f = f

pub length-give : (hands : List Hand) (x : Item) → length (give hands x) ≡ length hands
length-give [] x = refl
length-give (h ∷ hs) x = length-cond (list_all (λ other. leb (load_of h) (load_of other)) hs) (with_item x h ∷ hs) (h ∷ give hs x) (suc (length hs)) refl (ap suc (length-give hs x))

pub length-deal : (hands : List Hand) (xs : List Item) → length (fold give hands xs) ≡ length hands
length-deal hands [] = refl
length-deal hands (x ∷ xs) = length-deal (give hands x) xs ∙ length-give hands x

deal_cond : (b : Bool) (hands : List Hand) (xs : List Item) (x : Item) → fold give hands (xs ++ cond b (x ∷ []) []) ≡ cond b (give (fold give hands xs) x) (fold give hands xs)
deal_cond b hands [] x = first b where
  first : (b : Bool) → fold give hands (cond b (x ∷ []) []) ≡ cond b (give hands x) hands
  first true = refl
  first false = refl
deal_cond b hands (y ∷ xs) x = deal_cond b (give hands y) xs x

pub deal-more : (p : Item → Bool) (hands : List Hand) (xs : List Item) (i : ℕ) (d : Item) → i < length xs
    → fold give hands (filter p (take (i + 1) xs)) ≡ cond (p (get_or xs i d)) (give (fold give hands (filter p (take i xs))) (get_or xs i d)) (fold give hands (filter p (take i xs)))
deal-more p hands xs i d within = ap (fold give hands) (filter_more p xs i d within) ∙ deal_cond (p (get_or xs i d)) hands (filter p (take i xs)) (get_or xs i d)

-- at most as many as there are, are all
pub take-most : (b : Bool) (n : ℕ) (xs : List Item) → take (cond b (length xs) n) xs ≡ cond b xs (take n xs)
take-most true n xs = take_all (length xs) xs (omega arith)
take-most false n xs = refl

pub still_some : (hands : List Hand) (xs : List Item) → 0 < length hands → 0 < length (fold give hands xs)
still_some hands xs some = omega (arith, length-deal hands xs, some)
