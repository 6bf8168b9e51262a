-- The members that may keep one item more are as many as the remainder at most.
use Rattle.std.proofs.Common.{◌≡◌, ℕ, ◌+◌, ◌<◌, ◌≤◌, Bool, true, false, cond, List, [], ◌∷◌, ◌++◌, length, refl, sym, ap, subst, arith, nat_lt, ◌⊎◌, ⊎_elim, inl, inr}
use Rattle.std.specs.List.{count_by, filter, AllByRecursion}
use Rattle.std.proofs.lemmas.List.Sums.{sum_by-cons, length-filter}
use Rattle.std.proofs.lemmas.Bool.Decides.{nat_tests}
use Rattle.cw_assign.specs.declared.standing.Standing.{Standing}
use Rattle.cw_assign.specs.Quota.{stands_before, rank}

abbrev digit : Bool → ℕ
digit b = cond b 1 0

module _ (p : Standing → Bool) where
  pub counts-cons : (s : Standing) (ss : List Standing) → count_by p (s ∷ ss) ≡ digit (p s) + count_by p ss
  counts-cons s ss = sum_by-cons (λ x. cond (p x) 1 0) s ss

  pub count-filter-le : (f : Standing → Bool) (ss : List Standing) → count_by p (filter f ss) ≤ count_by p ss
  count-filter-le f [] = omega arith
  count-filter-le f (s ∷ ss) = pick (f s) (count-filter-le f ss) where
    pick : (b : Bool) → count_by p (filter f ss) ≤ count_by p ss → count_by p (cond b (s ∷ filter f ss) (filter f ss)) ≤ count_by p (s ∷ ss)
    pick true rest = omega (arith, counts-cons s (filter f ss), counts-cons s ss, rest)
    pick false rest = omega (arith, counts-cons s ss, rest)

-- workers differ
abbrev pub AreDistinct : List Standing → Type 0
AreDistinct [] = Unit {0}
AreDistinct (s ∷ ss) = AllByRecursion (λ t. s.worker < t.worker) ss × AreDistinct ss

before_or : (a b : Standing) → a.worker < b.worker → (stands_before a b ≡ true) ⊎ (stands_before b a ≡ true)
before_or a b e = pick (nat_lt b.load a.load) (nat_lt a.load b.load) refl refl where
  pick : (x y : Bool) → nat_lt b.load a.load ≡ x → nat_lt a.load b.load ≡ y → (stands_before a b ≡ true) ⊎ (stands_before b a ≡ true)
  pick true y is js = inl (grind (arith, nat_tests))
  pick false true is js = inr (grind (arith, nat_tests))
  pick false false is js = inl (grind (arith, nat_tests))

before_trans : (a b c : Standing) → stands_before a b ≡ true → stands_before b c ≡ true → stands_before a c ≡ true
before_trans a b c e f = grind (arith, nat_tests)

pub not_before_self : (a : Standing) → stands_before a a ≡ false
not_before_self a = grind (arith, nat_tests)

module _ (p q : Standing → Bool) (wider : (s : Standing) → p s ≡ true → q s ≡ true) where
  pub counts-le : (ss : List Standing) → count_by p ss ≤ count_by q ss
  counts-le [] = omega arith
  counts-le (s ∷ ss) = pick (p s) refl (counts-le ss) where
    pick : (b : Bool) → p s ≡ b → count_by p ss ≤ count_by q ss → count_by p (s ∷ ss) ≤ count_by q (s ∷ ss)
    pick true is rest = omega (arith, counts-cons p s ss, counts-cons q s ss, ap digit is, ap digit (wider s is), rest)
    pick false is rest = omega (arith, counts-cons p s ss, counts-cons q s ss, ap digit is, rest)

  pub counts-middle : (r : Standing → Bool) (front : List Standing) (z : Standing) (back : List Standing) → count_by r (front ++ z ∷ back) ≡ count_by r front + (digit (r z) + count_by r back)
  counts-middle r [] z back = omega (arith, counts-cons r z back)
  counts-middle r (f ∷ front) z back = omega (arith, counts-cons r f (front ++ z ∷ back), counts-cons r f front, counts-middle r front z back)

  -- and one more passes the wider test
  pub counts-lt : (front : List Standing) (z : Standing) (back : List Standing) → p z ≡ false → q z ≡ true → count_by p (front ++ z ∷ back) + 1 ≤ count_by q (front ++ z ∷ back)
  counts-lt front z back fails passes = omega (arith, counts-middle p front z back, counts-middle q front z back, ap digit fails, ap digit passes, counts-le front, counts-le back)

-- one of these that all the others stand before
pub record Last (ss : List Standing) : Type 0 where
  pub front : List Standing
  pub one : Standing
  pub back : List Standing
  pub is : ss ≡ front ++ one ∷ back
  pub behind : length ss ≤ count_by (λ s. stands_before s one) ss + 1

of_middle : (P : Standing → Type 0) (front : List Standing) (z : Standing) (back : List Standing) → AllByRecursion P (front ++ z ∷ back) → P z
of_middle P [] z back all = all.0
of_middle P (f ∷ front) z back all = of_middle P front z back all.1

pub last : (s : Standing) (ss : List Standing) → AreDistinct (s ∷ ss) → Last (s ∷ ss)
last s [] distinct = record { front = []; one = s; back = []; is = refl; behind = omega arith }
last s (t ∷ ss) distinct = pick (last t ss distinct.1) where
  pick : Last (t ∷ ss) → Last (s ∷ t ∷ ss)
  pick z = ⊎_elim
      (λ before. record {
        front = s ∷ z.front;
        one = z.one;
        back = z.back;
        is = ap (λ (xs : List Standing). s ∷ xs) z.is;
        behind = omega (arith, counts-cons (λ o. stands_before o z.one) s (t ∷ ss), ap digit before, z.behind);
      })
      (λ after. record {
        front = [];
        one = s;
        back = t ∷ ss;
        is = refl;
        behind = omega (
          arith,
          counts-cons (λ o. stands_before o s) s (t ∷ ss),
          z.behind,
          subst (λ (xs : List Standing). count_by (λ o. stands_before o z.one) xs + 1 ≤ count_by (λ o. stands_before o s) xs) (sym z.is)
              (counts-lt (λ o. stands_before o z.one) (λ o. stands_before o s) (λ o e. before_trans o z.one s e after) z.front z.one z.back (not_before_self z.one) after),
        );
      })
      (before_or s z.one (of_middle (λ o. s.worker < o.worker) z.front z.one z.back (subst (AllByRecursion (λ o. s.worker < o.worker)) z.is distinct.0)))

filter_above : (n : ℕ) (f : Standing → Bool) (ss : List Standing) → AllByRecursion (λ t. n < t.worker) ss → AllByRecursion (λ t. n < t.worker) (filter f ss)
filter_above n f [] all = tt
filter_above n f (s ∷ ss) all = pick (f s) (filter_above n f ss all.1) where
  pick : (b : Bool) → AllByRecursion (λ t. n < t.worker) (filter f ss) → AllByRecursion (λ t. n < t.worker) (cond b (s ∷ filter f ss) (filter f ss))
  pick true rest = (all.0, rest)
  pick false rest = rest

filter_distinct : (f : Standing → Bool) (ss : List Standing) → AreDistinct ss → AreDistinct (filter f ss)
filter_distinct f [] distinct = tt
filter_distinct f (s ∷ ss) distinct = pick (f s) (filter_distinct f ss distinct.1) where
  pick : (b : Bool) → AreDistinct (filter f ss) → AreDistinct (cond b (s ∷ filter f ss) (filter f ss))
  pick true rest = (filter_above s.worker f ss distinct.0, rest)
  pick false rest = rest

filter_all : (f : Standing → Bool) (ss : List Standing) → AllByRecursion (λ s. f s ≡ true) (filter f ss)
filter_all f [] = tt
filter_all f (s ∷ ss) = pick (f s) refl (filter_all f ss) where
  pick : (b : Bool) → f s ≡ b → AllByRecursion (λ t. f t ≡ true) (filter f ss) → AllByRecursion (λ t. f t ≡ true) (cond b (s ∷ filter f ss) (filter f ss))
  pick true is rest = (is, rest)
  pick false is rest = rest

-- at most r members have a rank below r
pub few_first : (r : ℕ) (ss : List Standing) → AreDistinct ss → count_by (λ s. nat_lt (rank ss s) r) ss ≤ r
few_first r ss distinct = subst (λ (n : ℕ). n ≤ r) (length-filter f ss) (few (filter f ss) refl (filter_distinct f ss distinct) (filter_all f ss)) where
  f : Standing → Bool
  f s = nat_lt (rank ss s) r

  below : (n : ℕ) → nat_lt n r ≡ true → n < r
  below n e = grind (arith, nat_tests)

  few : (xs : List Standing) → filter f ss ≡ xs → AreDistinct xs → AllByRecursion (λ s. f s ≡ true) xs → length xs ≤ r
  few [] is apart all = omega arith
  few (x ∷ xs) is apart all = pick (last x xs apart) where
    pick : Last (x ∷ xs) → length (x ∷ xs) ≤ r
    pick z = omega (
      arith,
      z.behind,
      subst (λ (ys : List Standing). count_by (λ o. stands_before o z.one) ys ≤ rank ss z.one) is (count-filter-le (λ o. stands_before o z.one) f ss),
      below (rank ss z.one) (of_middle (λ s. f s ≡ true) z.front z.one z.back (subst (AllByRecursion (λ s. f s ≡ true)) z.is all)),
    )
