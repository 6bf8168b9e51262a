-- Loads while items are dealt: none passes the quota, few reach it, and so they end up even.
use Rattle.std.proofs.Common.{◌≡◌, ℕ, ◌+◌, ◌*◌, ◌-◌, ◌<◌, ◌≤◌, Bool, true, false, ◌&&◌, cond, List, [], ◌∷◌, ◌++◌, length, refl, sym, ap, ◌∙◌, subst, arith, nat_le, ◌⊎◌, ⊎_elim, inl, inr, add-one}
use Rattle.std.proofs.Math.Nat.{suc-mul, mul-suc}
use Rattle.std.proofs.lemmas.Bool.{cases_lt}
use Rattle.std.proofs.lemmas.List.{length_push}
use Rattle.std.specs.List.{list_all, fold, count_by, sum_by, AllByRecursion}
use Rattle.std.proofs.lemmas.List.Sums.{sum_by-cons}
use Rattle.std.proofs.lemmas.Bool.Decides.{nat_tests}
use Rattle.cw_types.specs.declared.ids.Item.{Item}
use Rattle.cw_assign.specs.Plan.{Hand, load_of, give}
use Rattle.cw_assign.proofs.Dealing.{with_item, length-give}

abbrev pub total : List Hand → ℕ
total hands = sum_by load_of hands

abbrev pub full : ℕ → Hand → Bool
full q hand = nat_le (q + 1) (load_of hand)

abbrev pub digit : Bool → ℕ
digit b = cond b 1 0

abbrev pub AtLeast : ℕ → List Hand → Type 0
AtLeast m hands = AllByRecursion (λ h. m ≤ load_of h) hands

-- none has more than one above q, and at most r have that
pub record Bounded (q r : ℕ) (hands : List Hand) : Type 0 where
  pub most : AllByRecursion (λ h. load_of h ≤ q + 1) hands
  pub few : count_by (full q) hands ≤ r

total-cons : (h : Hand) (hs : List Hand) → total (h ∷ hs) ≡ load_of h + total hs
total-cons h hs = sum_by-cons load_of h hs

fulls-cons : (q : ℕ) (h : Hand) (hs : List Hand) → count_by (full q) (h ∷ hs) ≡ digit (full q h) + count_by (full q) hs
fulls-cons q h hs = sum_by-cons (λ x. cond (full q x) 1 0) h hs

is_full : (q : ℕ) (h : Hand) → q + 1 ≤ load_of h → digit (full q h) ≡ 1
is_full q h e = grind (arith, nat_tests)

not_full : (q : ℕ) (h : Hand) → load_of h ≤ q → digit (full q h) ≡ 0
not_full q h e = grind (arith, nat_tests)

-- which hand an item went to: one with the least load
pub record Given (x : Item) (hands after : List Hand) : Type 0 where
  pub front : List Hand
  pub hand : Hand
  pub back : List Hand
  pub before : hands ≡ front ++ hand ∷ back
  pub now : after ≡ front ++ with_item x hand ∷ back
  pub least : AtLeast (load_of hand) hands

weaker : (a b : ℕ) (hs : List Hand) → a ≤ b → AtLeast b hs → AtLeast a hs
weaker a b [] e all = tt
weaker a b (h ∷ hs) e all = (omega (arith, all.0), weaker a b hs e all.1)

all_from : (n : ℕ) (hs : List Hand) → list_all (λ o. nat_le n (load_of o)) hs ≡ true → AtLeast n hs
all_from n [] e = tt
all_from n (h ∷ hs) e = pick (nat_le n (load_of h)) refl e (all_from n hs) where
  le : nat_le n (load_of h) ≡ true → n ≤ load_of h
  le e = grind (arith, nat_tests)

  pick : (b : Bool) → nat_le n (load_of h) ≡ b → (b && list_all (λ o. nat_le n (load_of o)) hs) ≡ true → (list_all (λ o. nat_le n (load_of o)) hs ≡ true → AtLeast n hs) → AtLeast n (h ∷ hs)
  pick true is e rest = (le is, rest e)
  pick false is e rest = cc

-- a load that isn't at most all of these is above one of them, so above a load that is
above_least : (n m : ℕ) (hs : List Hand) → list_all (λ o. nat_le n (load_of o)) hs ≡ false → AtLeast m hs → m ≤ n
above_least n m [] e all = cc
above_least n m (h ∷ hs) e all = pick (nat_le n (load_of h)) refl e (λ rest. above_least n m hs rest all.1) where
  gt : nat_le n (load_of h) ≡ false → load_of h < n
  gt e = grind (arith, nat_tests)

  pick : (b : Bool) → nat_le n (load_of h) ≡ b → (b && list_all (λ o. nat_le n (load_of o)) hs) ≡ false → (list_all (λ o. nat_le n (load_of o)) hs ≡ false → m ≤ n) → m ≤ n
  pick true is e rest = rest e
  pick false is e rest = omega (arith, gt is, all.0)

pub given : (x : Item) (h : Hand) (hs : List Hand) → Given x (h ∷ hs) (give (h ∷ hs) x)
given x h [] = record { front = []; hand = h; back = []; before = refl; now = refl; least = (omega arith, tt) }
given x h (k ∷ hs) = pick (list_all (λ o. nat_le (load_of h) (load_of o)) (k ∷ hs)) refl (given x k hs) where
  pick : (b : Bool) → list_all (λ o. nat_le (load_of h) (load_of o)) (k ∷ hs) ≡ b → Given x (k ∷ hs) (give (k ∷ hs) x) → Given x (h ∷ k ∷ hs) (cond b (with_item x h ∷ k ∷ hs) (h ∷ give (k ∷ hs) x))
  pick true is rest = record { front = []; hand = h; back = k ∷ hs; before = refl; now = refl; least = (omega arith, all_from (load_of h) (k ∷ hs) is) }
  pick false is rest = record {
    front = h ∷ rest.front;
    hand = rest.hand;
    back = rest.back;
    before = ap (λ (os : List Hand). h ∷ os) rest.before;
    now = ap (λ (os : List Hand). h ∷ os) rest.now;
    least = (above_least (load_of h) (load_of rest.hand) (k ∷ hs) is rest.least, rest.least);
  }

-- the loads of a list with a middle
total-middle : (front : List Hand) (h : Hand) (back : List Hand) → total (front ++ h ∷ back) ≡ total front + (load_of h + total back)
total-middle [] h back = omega (arith, total-cons h back)
total-middle (f ∷ front) h back = omega (arith, total-cons f (front ++ h ∷ back), total-cons f front, total-middle front h back)

fulls-middle : (q : ℕ) (front : List Hand) (h : Hand) (back : List Hand) → count_by (full q) (front ++ h ∷ back) ≡ count_by (full q) front + (digit (full q h) + count_by (full q) back)
fulls-middle q [] h back = omega (arith, fulls-cons q h back)
fulls-middle q (f ∷ front) h back = omega (arith, fulls-cons q f (front ++ h ∷ back), fulls-cons q f front, fulls-middle q front h back)

most-middle : (n : ℕ) (front : List Hand) (h k : Hand) (back : List Hand) → AllByRecursion (λ o. load_of o ≤ n) (front ++ h ∷ back) → load_of k ≤ n → AllByRecursion (λ o. load_of o ≤ n) (front ++ k ∷ back)
most-middle n [] h k back all e = (e, all.1)
most-middle n (f ∷ front) h k back all e = (all.0, most-middle n front h k back all.1 e)

-- where each has at least q, the sum is that of q each and one for each full one at least
pub least-total : (q : ℕ) (hs : List Hand) → AtLeast q hs → length hs * q + count_by (full q) hs ≤ total hs
least-total q [] all = omega arith
least-total q (h ∷ hs) all = pick (full q h) refl (least-total q hs all.1) where
  one : full q h ≡ true → q + 1 ≤ load_of h
  one e = grind (arith, nat_tests)

  step : length (h ∷ hs) * q ≡ length hs * q + q
  step = suc-mul (length hs) q

  pick : (b : Bool) → full q h ≡ b → length hs * q + count_by (full q) hs ≤ total hs → length (h ∷ hs) * q + count_by (full q) (h ∷ hs) ≤ total (h ∷ hs)
  pick true is rest = omega (arith, total-cons h hs, fulls-cons q h hs, ap digit is, one is, step, rest)
  pick false is rest = omega (arith, total-cons h hs, fulls-cons q h hs, ap digit is, all.0, step, rest)

-- where none has more than q + 1, the sum is at most that of q each and one for each full one
pub most-total : (q : ℕ) (hs : List Hand) → AllByRecursion (λ h. load_of h ≤ q + 1) hs → total hs ≤ length hs * q + count_by (full q) hs
most-total q [] all = omega arith
most-total q (h ∷ hs) all = pick (full q h) refl (most-total q hs all.1) where
  one : full q h ≡ true → q + 1 ≤ load_of h
  one e = grind (arith, nat_tests)

  other : full q h ≡ false → load_of h ≤ q
  other e = grind (arith, nat_tests)

  step : length (h ∷ hs) * q ≡ length hs * q + q
  step = suc-mul (length hs) q

  pick : (b : Bool) → full q h ≡ b → total hs ≤ length hs * q + count_by (full q) hs → total (h ∷ hs) ≤ length (h ∷ hs) * q + count_by (full q) (h ∷ hs)
  pick true is rest = omega (arith, total-cons h hs, fulls-cons q h hs, ap digit is, all.0, step, rest)
  pick false is rest = omega (arith, total-cons h hs, fulls-cons q h hs, ap digit is, other is, step, rest)

-- one item more keeps the bounds, while the sum is below that of all items
pub bounded_give : (q r : ℕ) (x : Item) (h : Hand) (hs : List Hand) → Bounded q r (h ∷ hs) → r < length (h ∷ hs) → total (h ∷ hs) + 1 ≤ length (h ∷ hs) * q + r
    → Bounded q r (give (h ∷ hs) x) × (total (give (h ∷ hs) x) ≡ total (h ∷ hs) + 1)
bounded_give q r x h hs bounds room below = (
  record {
    most = subst (λ (os : List Hand). AllByRecursion (λ o. load_of o ≤ q + 1) os) (sym to.now)
        (most-middle (q + 1) to.front to.hand (with_item x to.hand) to.back (subst (λ (os : List Hand). AllByRecursion (λ o. load_of o ≤ q + 1) os) to.before bounds.most) top);
    few = subst (λ (os : List Hand). count_by (full q) os ≤ r) (sym to.now) few;
  },
  ap total to.now ∙ omega (arith, total-middle to.front (with_item x to.hand) to.back, total-middle to.front to.hand to.back, ap total to.before, more),
) where
  to : Given x (h ∷ hs) (give (h ∷ hs) x)
  to = given x h hs

  more : load_of (with_item x to.hand) ≡ load_of to.hand + 1
  more = omega (arith, length_push to.hand.fresh x)

  -- the least load is at most q
  low : load_of to.hand ≤ q
  low = ⊎_elim (λ over. absurd (omega (arith, least-total (q + 1) (h ∷ hs) (weaker (q + 1) (load_of to.hand) (h ∷ hs) over to.least), below, room, mul-add (length (h ∷ hs)) q)))
      (λ e. e) (cases (load_of to.hand)) where
        cases : (n : ℕ) → (q + 1 ≤ n) ⊎ (n ≤ q)
        cases n = ⊎_elim (λ e. inr (omega (arith, e))) (λ e. inl e) (cases_lt n (q + 1))

        mul-add : (n q : ℕ) → n * (q + 1) ≡ n * q + n
        mul-add n q = rw add-one (mul-suc n q)

  top : load_of (with_item x to.hand) ≤ q + 1
  top = omega (arith, more, low)

  before_count : count_by (full q) (h ∷ hs) ≡ count_by (full q) to.front + (digit (full q to.hand) + count_by (full q) to.back)
  before_count = ap (count_by (full q)) to.before ∙ fulls-middle q to.front to.hand to.back

  few : count_by (full q) (to.front ++ with_item x to.hand ∷ to.back) ≤ r
  few = ⊎_elim (λ less. omega (arith, fulls-middle q to.front (with_item x to.hand) to.back, before_count, bounds.few, not_full q (with_item x to.hand) (omega (arith, more, less))))
      (λ same. omega (
        arith,
        fulls-middle q to.front (with_item x to.hand) to.back,
        before_count,
        below,
        not_full q to.hand low,
        is_full q (with_item x to.hand) (omega (arith, more, same)),
        least-total q (h ∷ hs) (weaker q (load_of to.hand) (h ∷ hs) same to.least),
      ))
      (cases_lt (load_of to.hand) q)

pub bounded_some : (q r : ℕ) (x : Item) (hs : List Hand) → Bounded q r hs → r < length hs → total hs + 1 ≤ length hs * q + r → Bounded q r (give hs x) × (total (give hs x) ≡ total hs + 1)
bounded_some q r x [] bounds room below = absurd (omega (arith, room))
bounded_some q r x (h ∷ hs) bounds room below = bounded_give q r x h hs bounds room below

-- as long as no more items are dealt than are missing
pub bounded_deal : (q r : ℕ) (hs : List Hand) (xs : List Item) → Bounded q r hs → r < length hs → total hs + length xs ≤ length hs * q + r
    → Bounded q r (fold give hs xs) × (total (fold give hs xs) ≡ total hs + length xs)
bounded_deal q r hs [] bounds room below = (bounds, omega arith)
bounded_deal q r hs (x ∷ xs) bounds room below =
    let step : Bounded q r (give hs x) × (total (give hs x) ≡ total hs + 1) = bounded_some q r x hs bounds room (omega (arith, below)) in
    let long : length (give hs x) ≡ length hs = length-give hs x in
    let rest = bounded_deal q r (give hs x) xs step.0 (omega (arith, long, room)) (subst (λ (n : ℕ). total (give hs x) + length xs ≤ n * q + r) (sym long) (omega (arith, step.1, below))) in
    (rest.0, omega (arith, rest.1, step.1))

-- where the sum is all there is, each has q at least
pub even_least : (q r : ℕ) (hs : List Hand) → AllByRecursion (λ h. load_of h ≤ q + 1) hs → count_by (full q) hs ≤ r → length hs * q + r ≤ total hs → AtLeast q hs
even_least q r [] most few all = tt
even_least q r (h ∷ hs) most few all = pick (full q h) refl (λ n. even_least q n hs most.1) where
  one : full q h ≡ true → q + 1 ≤ load_of h
  one e = grind (arith, nat_tests)

  other : full q h ≡ false → load_of h ≤ q
  other e = grind (arith, nat_tests)

  step : length (h ∷ hs) * q ≡ length hs * q + q
  step = suc-mul (length hs) q

  pick : (b : Bool) → full q h ≡ b → ((n : ℕ) → count_by (full q) hs ≤ n → length hs * q + n ≤ total hs → AtLeast q hs) → AtLeast q (h ∷ hs)
  pick true is rest = (omega (arith, one is), rest (r - 1) (omega (arith, few, fulls-cons q h hs, ap digit is)) (omega (arith, total-cons h hs, most.0, step, all, few, fulls-cons q h hs, ap digit is)))
  pick false is rest = (
    omega (arith, most-total q hs most.1, total-cons h hs, fulls-cons q h hs, ap digit is, few, all, step),
    rest r (omega (arith, few, fulls-cons q h hs, ap digit is)) (omega (arith, total-cons h hs, other is, step, all)),
  )
