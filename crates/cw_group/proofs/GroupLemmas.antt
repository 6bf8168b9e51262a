-- What is true of every group stays true: members in order, claims apart, and no item twice in one.
use Rattle.std.proofs.Common.{◌≡◌, ℕ, zero, suc, ◌<◌, ◌≤◌, ◌==◌, Bool, true, false, ◌||◌, cond, List, [], ◌∷◌, ◌++◌, length, get_or, set, map, refl, sym, ap, ◌∙◌, subst, arith, nat_lt}
use Rattle.std.specs.List.{filter, AllZip, AllByRecursion, IsDistinct}
use Rattle.std.proofs.lemmas.List.Folds.{list_any-append}
use Rattle.std.proofs.lemmas.Map.Keys.{IsDistinct-head, IsDistinct-tail, IsDistinct-cons}
use Rattle.std.proofs.lemmas.Bool.Decides.{nat_tests}
use Rattle.cw_types.specs.declared.ids.Item.{Item}
use Rattle.cw_assign.specs.declared.share.Share.{Share}
use Rattle.cw_assign.specs.declared.share.Plan.{Plan}
use Rattle.cw_assign.specs.Items.{same_item, has}
use Rattle.cw_assign.specs.Plan.{held_by}
use Rattle.cw_assign.specs.Valid.{IsValid, fresh_in}
use Rattle.cw_assign.proofs.ItemLemmas.{same_item-Decides}
use Rattle.cw_group.specs.declared.member.Member.{Member}
use Rattle.cw_group.specs.Members.{unjoined, with_member, with_shares, holders_of, claims_of, AreRising, AreApart, HaveNoRepeat}
use Rattle.cw_group.specs.Places.{IsGroup}

either : (a b : Bool) → (a || b) ≡ true → (a ≡ false → b ≡ true)
either true b e f = cc
either false b e f = e

left : (a b : Bool) → a ≡ true → (a || b) ≡ true
left true b e = refl
left false b e = cc

right : (a b : Bool) → b ≡ true → (a || b) ≡ true
right true b e = refl
right false b e = e

neither : (a b : Bool) → a ≡ false → b ≡ false → (a || b) ≡ false
neither true b e f = cc
neither false b e f = f

no : (b : Bool) → (b ≡ true → ⊥) → b ≡ false
no true e = absurd (e refl)
no false e = refl

clash : (b : Bool) → b ≡ true → b ≡ false → ⊥
clash true e f = cc
clash false e f = cc

pub has-append : (xs ys : List Item) (x : Item) → has (xs ++ ys) x ≡ (has xs x || has ys x)
has-append xs ys x = list_any-append (λ y. same_item x y) xs ys

-- the same number, no new item in the claim, and none twice
pub record Shrinks (m o : Member) : Type 0 where
  pub worker : o.worker ≡ m.worker
  pub claim : (x : Item) → has o.claim x ≡ true → has m.claim x ≡ true
  pub once : IsDistinct same_item m.claim → IsDistinct same_item o.claim

above : (n : ℕ) (ms os : List Member) → AllZip Shrinks ms os → AllByRecursion (λ o. n < o.worker) ms → AllByRecursion (λ o. n < o.worker) os
above n [] [] zips up = tt
above n [] (o ∷ os) zips up = elim zips [ ]
above n (m ∷ ms) [] zips up = elim zips [ ]
above n (m ∷ ms) (o ∷ os) zips up = (subst (λ (k : ℕ). n < k) (sym zips.0.worker) up.0, above n ms os zips.1 up.1)

rises : (ms os : List Member) → AllZip Shrinks ms os → AreRising ms → AreRising os
rises [] [] zips rising = tt
rises [] (o ∷ os) zips rising = elim zips [ ]
rises (m ∷ ms) [] zips rising = elim zips [ ]
rises (m ∷ ms) (o ∷ os) zips rising = (subst (λ (k : ℕ). AllByRecursion (λ p. k < p.worker) os) (sym zips.0.worker) (above m.worker ms os zips.1 rising.0), rises ms os zips.1 rising.1)

claims_shrink : (ms os : List Member) → AllZip Shrinks ms os → (x : Item) → has (claims_of os) x ≡ true → has (claims_of ms) x ≡ true
claims_shrink [] [] zips x e = e
claims_shrink [] (o ∷ os) zips x e = elim zips [ ]
claims_shrink (m ∷ ms) [] zips x e = elim zips [ ]
claims_shrink (m ∷ ms) (o ∷ os) zips x e = pick (has o.claim x) refl (claims_shrink ms os zips.1 x) where
  pick : (b : Bool) → has o.claim x ≡ b → (has (claims_of os) x ≡ true → has (claims_of ms) x ≡ true) → has (claims_of (m ∷ ms)) x ≡ true
  pick true is rest = has-append m.claim (claims_of ms) x ∙ left (has m.claim x) (has (claims_of ms) x) (zips.0.claim x is)
  pick false is rest = has-append m.claim (claims_of ms) x ∙ right (has m.claim x) (has (claims_of ms) x) (rest (either (has o.claim x) (has (claims_of os) x) (sym (has-append o.claim (claims_of os) x) ∙ e) is))

aparts : (ms os : List Member) → AllZip Shrinks ms os → AreApart ms → AreApart os
aparts [] [] zips apart = tt
aparts [] (o ∷ os) zips apart = elim zips [ ]
aparts (m ∷ ms) [] zips apart = elim zips [ ]
aparts (m ∷ ms) (o ∷ os) zips apart = (
  λ x is. no (has (claims_of os) x) (λ there. clash (has (claims_of ms) x) (claims_shrink ms os zips.1 x there) (apart.0 x (zips.0.claim x is))),
  aparts ms os zips.1 apart.1,
)

repeats : (ms os : List Member) → AllZip Shrinks ms os → HaveNoRepeat ms → HaveNoRepeat os
repeats [] [] zips once = tt
repeats [] (o ∷ os) zips once = elim zips [ ]
repeats (m ∷ ms) [] zips once = elim zips [ ]
repeats (m ∷ ms) (o ∷ os) zips once = (zips.0.once once.0, repeats ms os zips.1 once.1)

pub group_shrinks : (ms os : List Member) → AllZip Shrinks ms os → IsGroup ms → IsGroup os
group_shrinks ms os zips group = record {
  rising = rises ms os zips group.rising;
  apart = aparts ms os zips group.apart;
  no_repeat = repeats ms os zips group.no_repeat;
}

same : (m : Member) → Shrinks m m
same m = record { worker = refl; claim = λ x e. e; once = λ is. is }

all_same : (ms : List Member) → AllZip Shrinks ms ms
all_same [] = tt
all_same (m ∷ ms) = (same m, all_same ms)

pub set_shrinks : (ms : List Member) (at : ℕ) (d o : Member) → at < length ms → Shrinks (get_or ms at d) o → AllZip Shrinks ms (set ms at o)
set_shrinks [] at d o within less = tt
set_shrinks (m ∷ ms) zero d o within less = (less, all_same ms)
set_shrinks (m ∷ ms) (suc at) d o within less = (same m, set_shrinks ms at d o (omega arith) less)

pub unjoined_shrink : (ms : List Member) → AllZip Shrinks ms (map unjoined ms)
unjoined_shrink [] = tt
unjoined_shrink (m ∷ ms) = (record { worker = refl; claim = λ x e. e; once = λ is. is }, unjoined_shrink ms)

pub open_group : (b : Bool) (ms : List Member) → IsGroup ms → IsGroup (cond b ms (map unjoined ms))
open_group true ms group = group
open_group false ms group = group_shrinks ms (map unjoined ms) (unjoined_shrink ms) group

-- without some members
module _ (p : Member → Bool) where
  kept_above : (n : ℕ) (ms : List Member) → AllByRecursion (λ o. n < o.worker) ms → AllByRecursion (λ o. n < o.worker) (filter p ms)
  kept_above n [] up = tt
  kept_above n (m ∷ ms) up = pick (p m) (kept_above n ms up.1) where
    pick : (b : Bool) → AllByRecursion (λ o. n < o.worker) (filter p ms) → AllByRecursion (λ o. n < o.worker) (cond b (m ∷ filter p ms) (filter p ms))
    pick true rest = (up.0, rest)
    pick false rest = rest

  kept_rise : (ms : List Member) → AreRising ms → AreRising (filter p ms)
  kept_rise [] rising = tt
  kept_rise (m ∷ ms) rising = pick (p m) (kept_rise ms rising.1) where
    pick : (b : Bool) → AreRising (filter p ms) → AreRising (cond b (m ∷ filter p ms) (filter p ms))
    pick true rest = (kept_above m.worker ms rising.0, rest)
    pick false rest = rest

  kept_claims : (ms : List Member) (x : Item) → has (claims_of (filter p ms)) x ≡ true → has (claims_of ms) x ≡ true
  kept_claims [] x e = e
  kept_claims (m ∷ ms) x e = pick (p m) (kept_claims ms x) e where
    pick : (b : Bool) → (has (claims_of (filter p ms)) x ≡ true → has (claims_of ms) x ≡ true) → has (claims_of (cond b (m ∷ filter p ms) (filter p ms))) x ≡ true → has (claims_of (m ∷ ms)) x ≡ true
    pick false rest e = has-append m.claim (claims_of ms) x ∙ right (has m.claim x) (has (claims_of ms) x) (rest e)
    pick true rest e = has-append m.claim (claims_of ms) x ∙ first (has m.claim x) refl where
      first : (b : Bool) → has m.claim x ≡ b → (has m.claim x || has (claims_of ms) x) ≡ true
      first true is = left (has m.claim x) (has (claims_of ms) x) is
      first false is = right (has m.claim x) (has (claims_of ms) x) (rest (either (has m.claim x) (has (claims_of (filter p ms)) x) (sym (has-append m.claim (claims_of (filter p ms)) x) ∙ e) is))

  kept_apart : (ms : List Member) → AreApart ms → AreApart (filter p ms)
  kept_apart [] apart = tt
  kept_apart (m ∷ ms) apart = pick (p m) (kept_apart ms apart.1) where
    pick : (b : Bool) → AreApart (filter p ms) → AreApart (cond b (m ∷ filter p ms) (filter p ms))
    pick true rest = (λ x is. no (has (claims_of (filter p ms)) x) (λ there. clash (has (claims_of ms) x) (kept_claims ms x there) (apart.0 x is)), rest)
    pick false rest = rest

  kept_once : (ms : List Member) → HaveNoRepeat ms → HaveNoRepeat (filter p ms)
  kept_once [] once = tt
  kept_once (m ∷ ms) once = pick (p m) (kept_once ms once.1) where
    pick : (b : Bool) → HaveNoRepeat (filter p ms) → HaveNoRepeat (cond b (m ∷ filter p ms) (filter p ms))
    pick true rest = (once.0, rest)
    pick false rest = rest

  pub group_kept : (ms : List Member) → IsGroup ms → IsGroup (filter p ms)
  group_kept ms group = record {
    rising = kept_rise ms group.rising;
    apart = kept_apart ms group.apart;
    no_repeat = kept_once ms group.no_repeat;
  }

nothing_twice : IsDistinct same_item []
unfolding IsDistinct
nothing_twice = tt

-- with a member that has an empty claim
module _ (member : Member) (nothing : member.claim ≡ []) where
  with_claims : (ms : List Member) (x : Item) → has (claims_of (with_member member ms)) x ≡ true → has (claims_of ms) x ≡ true
  with_claims [] x e = subst (λ (c : List Item). has (c ++ []) x ≡ true) nothing e
  with_claims (m ∷ ms) x e = pick (nat_lt member.worker m.worker) (member.worker == m.worker) (with_claims ms x) e where
    gone : (rest : List Item) → has (member.claim ++ rest) x ≡ true → has rest x ≡ true
    gone rest e = subst (λ (c : List Item). has (c ++ rest) x ≡ true) nothing e

    pick : (a b : Bool) → (has (claims_of (with_member member ms)) x ≡ true → has (claims_of ms) x ≡ true)
        → has (claims_of (cond a (member ∷ m ∷ ms) (cond b (member ∷ ms) (m ∷ with_member member ms)))) x ≡ true → has (claims_of (m ∷ ms)) x ≡ true
    pick true b rest e = gone (claims_of (m ∷ ms)) e
    pick false true rest e = has-append m.claim (claims_of ms) x ∙ right (has m.claim x) (has (claims_of ms) x) (gone (claims_of ms) e)
    pick false false rest e = has-append m.claim (claims_of ms) x ∙ first (has m.claim x) refl where
      first : (b : Bool) → has m.claim x ≡ b → (has m.claim x || has (claims_of ms) x) ≡ true
      first true is = left (has m.claim x) (has (claims_of ms) x) is
      first false is = right (has m.claim x) (has (claims_of ms) x) (rest (either (has m.claim x) (has (claims_of (with_member member ms)) x) (sym (has-append m.claim (claims_of (with_member member ms)) x) ∙ e) is))

  nobody : (x : Item) → has member.claim x ≡ true → ⊥
  nobody x e = clash (has member.claim x) e (ap (λ (c : List Item). has c x) nothing)

  with_apart : (ms : List Member) → AreApart ms → AreApart (with_member member ms)
  with_apart [] apart = (λ x e. absurd (nobody x e), tt)
  with_apart (m ∷ ms) apart = pick (nat_lt member.worker m.worker) (member.worker == m.worker) (with_apart ms apart.1) where
    pick : (a b : Bool) → AreApart (with_member member ms) → AreApart (cond a (member ∷ m ∷ ms) (cond b (member ∷ ms) (m ∷ with_member member ms)))
    pick true b rest = (λ x e. absurd (nobody x e), apart)
    pick false true rest = (λ x e. absurd (nobody x e), apart.1)
    pick false false rest = (λ x is. no (has (claims_of (with_member member ms)) x) (λ there. clash (has (claims_of ms) x) (with_claims ms x there) (apart.0 x is)), rest)

  weaker : (a b : ℕ) (ms : List Member) → a ≤ b → AllByRecursion (λ o. b < o.worker) ms → AllByRecursion (λ o. a < o.worker) ms
  weaker a b [] e up = tt
  weaker a b (m ∷ ms) e up = (omega (arith, up.0), weaker a b ms e up.1)

  with_above : (n : ℕ) (ms : List Member) → n < member.worker → AllByRecursion (λ o. n < o.worker) ms → AllByRecursion (λ o. n < o.worker) (with_member member ms)
  with_above n [] e up = (e, tt)
  with_above n (m ∷ ms) e up = pick (nat_lt member.worker m.worker) (member.worker == m.worker) (with_above n ms e up.1) where
    pick : (a b : Bool) → AllByRecursion (λ o. n < o.worker) (with_member member ms) → AllByRecursion (λ o. n < o.worker) (cond a (member ∷ m ∷ ms) (cond b (member ∷ ms) (m ∷ with_member member ms)))
    pick true b rest = (e, up)
    pick false true rest = (e, up.1)
    pick false false rest = (up.0, rest)

  with_rising : (ms : List Member) → AreRising ms → AreRising (with_member member ms)
  with_rising [] rising = (tt, tt)
  with_rising (m ∷ ms) rising = pick (nat_lt member.worker m.worker) (member.worker == m.worker) refl refl (with_rising ms rising.1) where
    pick : (a b : Bool) → nat_lt member.worker m.worker ≡ a → (member.worker == m.worker) ≡ b → AreRising (with_member member ms) → AreRising (cond a (member ∷ m ∷ ms) (cond b (member ∷ ms) (m ∷ with_member member ms)))
    pick true b lt eq rest =
        let below : member.worker < m.worker = lower lt in
        ((below, weaker member.worker m.worker ms (omega arith) rising.0), rising) where
          lower : nat_lt member.worker m.worker ≡ true → member.worker < m.worker
          lower e = grind (arith, nat_tests)
    pick false true lt eq rest = (weaker member.worker m.worker ms (one eq) rising.0, rising.1) where
      one : (member.worker == m.worker) ≡ true → member.worker ≤ m.worker
      one e = grind (arith, nat_tests)
    pick false false lt eq rest = (with_above m.worker ms (over lt eq) rising.0, rest) where
      over : nat_lt member.worker m.worker ≡ false → (member.worker == m.worker) ≡ false → m.worker < member.worker
      over e f = grind (arith, nat_tests)

  empty_once : IsDistinct same_item member.claim
  empty_once = subst (λ (c : List Item). IsDistinct same_item c) (sym nothing) nothing_twice

  with_once : (ms : List Member) → HaveNoRepeat ms → HaveNoRepeat (with_member member ms)
  with_once [] once = (empty_once, tt)
  with_once (m ∷ ms) once = pick (nat_lt member.worker m.worker) (member.worker == m.worker) (with_once ms once.1) where
    pick : (a b : Bool) → HaveNoRepeat (with_member member ms) → HaveNoRepeat (cond a (member ∷ m ∷ ms) (cond b (member ∷ ms) (m ∷ with_member member ms)))
    pick true b rest = (empty_once, once)
    pick false true rest = (empty_once, once.1)
    pick false false rest = (once.0, rest)

  pub group_with : (ms : List Member) → IsGroup ms → IsGroup (with_member member ms)
  group_with ms group = record {
    rising = with_rising ms group.rising;
    apart = with_apart ms group.apart;
    no_repeat = with_once ms group.no_repeat;
  }

-- with shares of a plan that gives no held item, and none twice
shared_above : (n : ℕ) (ms : List Member) (ss : List Share) → AllByRecursion (λ o. n < o.worker) ms → AllByRecursion (λ o. n < o.worker) (with_shares ms ss)
shared_above n [] ss up = tt
shared_above n (m ∷ ms) [] up = up
shared_above n (m ∷ ms) (s ∷ ss) up = (up.0, shared_above n ms ss up.1)

shared_rising : (ms : List Member) (ss : List Share) → AreRising ms → AreRising (with_shares ms ss)
shared_rising [] ss rising = tt
shared_rising (m ∷ ms) [] rising = rising
shared_rising (m ∷ ms) (s ∷ ss) rising = (shared_above m.worker ms ss rising.0, shared_rising ms ss rising.1)

shared_claims : (ms : List Member) (ss : List Share) (x : Item) → has (claims_of ms) x ≡ false → has (fresh_in ss) x ≡ false → has (claims_of (with_shares ms ss)) x ≡ false
shared_claims [] ss x e f = refl
shared_claims (m ∷ ms) [] x e f = e
shared_claims (m ∷ ms) (s ∷ ss) x e f =
    let own = first_no (has m.claim x) (has (claims_of ms) x) (sym (has-append m.claim (claims_of ms) x) ∙ e) in
    let new = first_no (has s.fresh x) (has (fresh_in ss) x) (sym (has-append s.fresh (fresh_in ss) x) ∙ f) in
    has-append (m.claim ++ s.fresh) (claims_of (with_shares ms ss)) x
    ∙ neither (has (m.claim ++ s.fresh) x) (has (claims_of (with_shares ms ss)) x) (has-append m.claim s.fresh x ∙ neither (has m.claim x) (has s.fresh x) own.0 new.0) (shared_claims ms ss x own.1 new.1) where
      first_no : (a b : Bool) → (a || b) ≡ false → (a ≡ false) × (b ≡ false)
      first_no true b e = cc
      first_no false b e = (refl, e)

apart_by : (xs ys : List Item) → IsDistinct same_item (xs ++ ys) → (x : Item) → has xs x ≡ true → has ys x ≡ false
apart_by [] ys distinct x e = cc
apart_by (z ∷ xs) ys distinct x e = pick (same_item x z) refl (apart_by xs ys (IsDistinct-tail same_item z (xs ++ ys) distinct) x) where
  behind : (zs : List Item) → AllByRecursion (λ w. same_item z w ≡ false) (zs ++ ys) → has ys z ≡ false
  behind [] apart = all ys apart where
    all : (ws : List Item) → AllByRecursion (λ w. same_item z w ≡ false) ws → has ws z ≡ false
    all [] apart = refl
    all (w ∷ ws) apart = neither (same_item z w) (has ws z) apart.0 (all ws apart.1)
  behind (w ∷ zs) apart = behind zs apart.1

  pick : (b : Bool) → same_item x z ≡ b → (has xs x ≡ true → has ys x ≡ false) → has ys x ≡ false
  pick true is rest = subst (λ (w : Item). has ys w ≡ false) (sym ((same_item-Decides x z).0 is)) (behind xs (IsDistinct-head same_item z (xs ++ ys) distinct))
  pick false is rest = rest (either (same_item x z) (has xs x) e is)

distinct_behind : (xs ys : List Item) → IsDistinct same_item (xs ++ ys) → IsDistinct same_item ys
distinct_behind [] ys distinct = distinct
distinct_behind (x ∷ xs) ys distinct = distinct_behind xs ys (IsDistinct-tail same_item x (xs ++ ys) distinct)

shared_apart : (ms : List Member) (ss : List Share) → AreApart ms → ((x : Item) → has (fresh_in ss) x ≡ true → has (claims_of ms) x ≡ false) → IsDistinct same_item (fresh_in ss) → AreApart (with_shares ms ss)
shared_apart [] ss apart unheld distinct = tt
shared_apart (m ∷ ms) [] apart unheld distinct = apart
shared_apart (m ∷ ms) (s ∷ ss) apart unheld distinct = (
  λ x is. pick x (has m.claim x) refl is,
  shared_apart ms ss apart.1 (λ x is. second (has m.claim x) (has (claims_of ms) x) (sym (has-append m.claim (claims_of ms) x) ∙ unheld x (given x is))) (distinct_behind s.fresh (fresh_in ss) distinct),
) where
  second : (a b : Bool) → (a || b) ≡ false → b ≡ false
  second true b e = cc
  second false b e = e

  given : (x : Item) → has (fresh_in ss) x ≡ true → has (fresh_in (s ∷ ss)) x ≡ true
  given x is = has-append s.fresh (fresh_in ss) x ∙ right (has s.fresh x) (has (fresh_in ss) x) is

  pick : (x : Item) (b : Bool) → has m.claim x ≡ b → has (m.claim ++ s.fresh) x ≡ true → has (claims_of (with_shares ms ss)) x ≡ false
  pick x true own is = shared_claims ms ss x (apart.0 x own)
      (no (has (fresh_in ss) x) (λ there. clash (has (claims_of (m ∷ ms)) x) (has-append m.claim (claims_of ms) x ∙ left (has m.claim x) (has (claims_of ms) x) own) (unheld x (given x there))))
  pick x false own is =
      let new : has s.fresh x ≡ true = either (has m.claim x) (has s.fresh x) (sym (has-append m.claim s.fresh x) ∙ is) own in
      shared_claims ms ss x
      (second (has m.claim x) (has (claims_of ms) x) (sym (has-append m.claim (claims_of ms) x) ∙ unheld x (has-append s.fresh (fresh_in ss) x ∙ left (has s.fresh x) (has (fresh_in ss) x) new)))
      (apart_by s.fresh (fresh_in ss) distinct x new)

first_no : (a b : Bool) → (a || b) ≡ false → (a ≡ false) × (b ≡ false)
first_no true b e = cc
first_no false b e = (refl, e)

none_same : (x : Item) (ys : List Item) → has ys x ≡ false → AllByRecursion (λ w. same_item x w ≡ false) ys
none_same x [] e = tt
none_same x (y ∷ ys) e = let parts = first_no (same_item x y) (has ys x) e in (parts.0, none_same x ys parts.1)

all_append : (P : Item → Type 0) (xs ys : List Item) → AllByRecursion P xs → AllByRecursion P ys → AllByRecursion P (xs ++ ys)
all_append P [] ys front back = back
all_append P (x ∷ xs) ys front back = (front.0, all_append P xs ys front.1 back)

-- two lists without repeats that share no item have none together
distinct_append : (xs ys : List Item) → IsDistinct same_item xs → IsDistinct same_item ys → ((x : Item) → has xs x ≡ true → has ys x ≡ false) → IsDistinct same_item (xs ++ ys)
distinct_append [] ys front back apart = back
distinct_append (x ∷ xs) ys front back apart =
    let here : has ys x ≡ false = apart x (left (same_item x x) (has xs x) ((same_item-Decides x x).1 refl)) in
    IsDistinct-cons same_item x (xs ++ ys) (all_append (λ w. same_item x w ≡ false) xs ys (IsDistinct-head same_item x xs front) (none_same x ys here))
    (distinct_append xs ys (IsDistinct-tail same_item x xs front) back (λ z is. apart z (right (same_item z x) (has xs z) is)))

front_all : (P : Item → Type 0) (xs ys : List Item) → AllByRecursion P (xs ++ ys) → AllByRecursion P xs
front_all P [] ys all = tt
front_all P (x ∷ xs) ys all = (all.0, front_all P xs ys all.1)

distinct_front : (xs ys : List Item) → IsDistinct same_item (xs ++ ys) → IsDistinct same_item xs
distinct_front [] ys distinct = nothing_twice
distinct_front (x ∷ xs) ys distinct = IsDistinct-cons same_item x xs
    (front_all (λ w. same_item x w ≡ false) xs ys (IsDistinct-head same_item x (xs ++ ys) distinct))
    (distinct_front xs ys (IsDistinct-tail same_item x (xs ++ ys) distinct))

shared_once : (ms : List Member) (ss : List Share) → HaveNoRepeat ms → ((x : Item) → has (fresh_in ss) x ≡ true → has (claims_of ms) x ≡ false) → IsDistinct same_item (fresh_in ss) → HaveNoRepeat (with_shares ms ss)
shared_once [] ss once unheld distinct = tt
shared_once (m ∷ ms) [] once unheld distinct = once
shared_once (m ∷ ms) (s ∷ ss) once unheld distinct = (
  distinct_append m.claim s.fresh once.0 (distinct_front s.fresh (fresh_in ss) distinct) (λ x own. no (has s.fresh x) (λ new.
      clash (has m.claim x) own (first_no (has m.claim x) (has (claims_of ms) x) (sym (has-append m.claim (claims_of ms) x) ∙ unheld x (has-append s.fresh (fresh_in ss) x ∙ left (has s.fresh x) (has (fresh_in ss) x) new))).0)),
  shared_once ms ss once.1 (λ x is. (first_no (has m.claim x) (has (claims_of ms) x) (sym (has-append m.claim (claims_of ms) x) ∙ unheld x (has-append s.fresh (fresh_in ss) x ∙ right (has s.fresh x) (has (fresh_in ss) x) is))).1) (distinct_behind s.fresh (fresh_in ss) distinct),
)

-- nothing is in the claims twice
claims_once : (ms : List Member) → AreApart ms → HaveNoRepeat ms → IsDistinct same_item (claims_of ms)
claims_once [] apart once = nothing_twice
claims_once (m ∷ ms) apart once = distinct_append m.claim (claims_of ms) once.0 (claims_once ms apart.1 once.1) apart.0

held_is : (ms : List Member) → held_by (holders_of ms) ≡ claims_of ms
held_is [] = refl
held_is (m ∷ ms) = ap (λ (xs : List Item). m.claim ++ xs) (held_is ms)

-- nothing is held twice by the members of a group
pub held_once : (ms : List Member) → IsGroup ms → IsDistinct same_item (held_by (holders_of ms))
held_once ms group = subst (λ (xs : List Item). IsDistinct same_item xs) (sym (held_is ms)) (claims_once ms group.apart group.no_repeat)

pub group_shares : (ms : List Member) (plan : Plan) (planned lost : List Item) (running : Bool) → IsValid (holders_of ms) planned lost running plan → IsGroup ms → IsGroup (with_shares ms plan.shares)
group_shares ms plan planned lost running valid group = record {
  rising = shared_rising ms plan.shares group.rising;
  apart = shared_apart ms plan.shares group.apart (λ x is. sym (ap (λ (xs : List Item). has xs x) (held_is ms)) ∙ valid.unheld x is) valid.apart;
  no_repeat = shared_once ms plan.shares group.no_repeat (λ x is. sym (ap (λ (xs : List Item). has xs x) (held_is ms)) ∙ valid.unheld x is) valid.apart;
}
