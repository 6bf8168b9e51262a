-- What the shares of a valid plan give members: what a member keeps is its own and is planned, it gives up the rest, and nothing is in two shares.
use Rattle.std.proofs.Common.{◌≡◌, inl, inr, ℕ, ◌+◌, ◌<◌, ◌≤◌, Bool, true, false, ◌&&◌, not, cond, List, [], ◌∷◌, ◌++◌, length, take, map, zero, suc, refl, sym, ap, ◌∙◌, subst, arith, ltb}
use Rattle.std.proofs.lemmas.Bool.{and_parts, or_right, or_left, or_cases, cases_Bool}
use Rattle.std.specs.List.{filter, count_by, AllZip, AllByRecursion, IsDistinct}
use Rattle.std.proofs.lemmas.Bool.Decides.{nat_tests}
use Rattle.cw_types.specs.declared.ids.Item.{Item}
use Rattle.cw_types.specs.declared.ids.Item.TheVariants.{Connector, Task}
use Rattle.cw_assign.specs.declared.items.Kind.{Kind}
use Rattle.cw_assign.specs.declared.items.Kind.TheVariants.{Connectors, Tasks}
use Rattle.cw_assign.specs.declared.share.Share.{Share}
use Rattle.cw_assign.specs.declared.share.Plan.{Plan}
use Rattle.cw_assign.specs.declared.share.Holder.{Holder}
use Rattle.cw_assign.specs.Items.{same_item, has, is_of, of_kind}
use Rattle.cw_assign.specs.Plan.{own, kept_of, held_by, standing_of}
use Rattle.cw_assign.specs.Quota.{quota}
use Rattle.cw_assign.specs.Valid.{IsValid, KeepsItsPart, GivesUpTheRest, fresh_in}
use Rattle.cw_assign.proofs.ItemLemmas.{same_item-Decides}
use Rattle.cw_assign.proofs.Counts.{count-cons, count-append, digit, list_any-count, once, distinct_from_once}
use Rattle.cw_assign.proofs.Validity.{has-filter}
use Rattle.cw_group.specs.declared.member.Member.{Member}
use Rattle.cw_group.specs.Members.{holders_of, with_shares}
use Rattle.cw_group.proofs.GroupLemmas.{has-append}
use Rattle.cw_model.specs.FactsGroup.{AreAmong, IsWithinPlan, share_items, shared_items}

-- ---- how often an item stands in a list

abbrev pub times : Item → List Item → ℕ
times x xs = count_by (λ y. same_item x y) xs

pub has-times : (x : Item) (xs : List Item) → has xs x ≡ true → 0 < times x xs
has-times x xs is = above (times x xs) (sym (list_any-count (λ y. same_item x y) xs) ∙ is) where
  above : (n : ℕ) → ltb 0 n ≡ true → 0 < n
  above n is = grind (arith, nat_tests)

pub times-has : (x : Item) (xs : List Item) → 0 < times x xs → has xs x ≡ true
times-has x xs is = list_any-count (λ y. same_item x y) xs ∙ above (times x xs) is where
  above : (n : ℕ) → 0 < n → ltb 0 n ≡ true
  above n is = grind (arith, nat_tests)

pub times-none : (x : Item) (xs : List Item) → has xs x ≡ false → times x xs ≡ 0
times-none x xs is = none (times x xs) (sym (list_any-count (λ y. same_item x y) xs) ∙ is) where
  none : (n : ℕ) → ltb 0 n ≡ false → n ≡ 0
  none n is = grind (arith, nat_tests)

module _ (q f : Item → Bool) where
  count-filter_le : (xs : List Item) → count_by q (filter f xs) ≤ count_by q xs
  count-filter_le [] = omega arith
  count-filter_le (x ∷ xs) = pick (f x) (count-filter_le xs) where
    pick : (b : Bool) → count_by q (filter f xs) ≤ count_by q xs → count_by q (cond b (x ∷ filter f xs) (filter f xs)) ≤ count_by q (x ∷ xs)
    pick true rest = omega (arith, count-cons q x (filter f xs), count-cons q x xs, rest)
    pick false rest = omega (arith, count-cons q x xs, rest)

  count-filter_all : (xs : List Item) → ((x : Item) → q x ≡ true → f x ≡ true) → count_by q (filter f xs) ≡ count_by q xs
  count-filter_all [] all = refl
  count-filter_all (x ∷ xs) all = pick (f x) (q x) refl (all x) (count-filter_all xs all) where
    pick : (b c : Bool) → q x ≡ c → (q x ≡ true → b ≡ true) → count_by q (filter f xs) ≡ count_by q xs → count_by q (cond b (x ∷ filter f xs) (filter f xs)) ≡ count_by q (x ∷ xs)
    pick true c is so rest = omega (arith, count-cons q x (filter f xs), count-cons q x xs, rest)
    pick false true is so rest = absurd (let passes : false ≡ true = so is in cc)
    pick false false is so rest = omega (arith, count-cons q x xs, rest, ap digit is)

  count-filter_none : (xs : List Item) → ((x : Item) → q x ≡ true → f x ≡ false) → count_by q (filter f xs) ≡ 0
  count-filter_none [] none = refl
  count-filter_none (x ∷ xs) none = pick (f x) (q x) refl (none x) (count-filter_none xs none) where
    pick : (b c : Bool) → q x ≡ c → (q x ≡ true → b ≡ false) → count_by q (filter f xs) ≡ 0 → count_by q (cond b (x ∷ filter f xs) (filter f xs)) ≡ 0
    pick false c is so rest = rest
    pick true true is so rest = absurd (let fails : true ≡ false = so is in cc)
    pick true false is so rest = omega (arith, count-cons q x (filter f xs), rest, ap digit is)

count-take_le : (q : Item → Bool) (n : ℕ) (xs : List Item) → count_by q (take n xs) ≤ count_by q xs
count-take_le q zero xs = omega arith
count-take_le q (suc n) [] = omega arith
count-take_le q (suc n) (x ∷ xs) = omega (arith, count-cons q x (take n xs), count-cons q x xs, count-take_le q n xs)

-- ---- one member's share

abbrev kind_of : Item → Kind
kind_of (Connector name) = Connectors
kind_of (Task id) = Tasks

is_of-kind_of : (x : Item) → is_of (kind_of x) x ≡ true
is_of-kind_of (Connector name) = refl
is_of-kind_of (Task id) = refl

-- a share of what a member may run and of what is planned
pub record IsShareOf (planned : List Item) (m : Member) (share : Share) : Type 0 where
  -- what it keeps it might run, and that is planned
  pub own : AreAmong share.kept m.claim
  pub configured : AreAmong share.kept planned
  -- it keeps or gives up whatever it might run, and not both
  pub all : AreAmong m.claim (share.kept ++ share.revoked)
  pub once : (x : Item) → times x share.kept + times x share.revoked ≤ times x m.claim

module _ (members : List Holder) (planned : List Item) (running : Bool) (m : Holder) (share : Share)
    (kept : (kind : Kind) → KeepsItsPart members planned running kind m share) (revoked : GivesUpTheRest m share) where
  abbrev owns : Item → List Item
  owns x = own (kind_of x) (has planned) m.held

  part-own : (b : Bool) (x : Item) (n : ℕ) → times x (cond b (owns x) (take n (owns x))) ≤ times x (owns x)
  part-own true x n = omega arith
  part-own false x n = count-take_le (λ y. same_item x y) n (owns x)

  kept-own : (x : Item) → times x share.kept ≤ times x (owns x)
  kept-own x =
      let same : (y : Item) → same_item x y ≡ true → is_of (kind_of x) y ≡ true =
      λ y is. subst (λ (z : Item). is_of (kind_of x) z ≡ true) ((same_item-Decides x y).0 is) (is_of-kind_of x) in
      let all : times x (of_kind (kind_of x) share.kept) ≡ times x share.kept = count-filter_all (λ y. same_item x y) (is_of (kind_of x)) share.kept same in
      let part : times x (of_kind (kind_of x) share.kept) ≡ times x (kept_of (kind_of x) members (length (of_kind (kind_of x) planned)) (has planned) running m) =
      ap (λ (xs : List Item). times x xs) (kept (kind_of x)) in
      let few : times x (kept_of (kind_of x) members (length (of_kind (kind_of x) planned)) (has planned) running m) ≤ times x (owns x) =
      part-own running x (quota (length (of_kind (kind_of x) planned)) (map (standing_of (kind_of x) (has planned)) members) (standing_of (kind_of x) (has planned) m)) in
      omega (arith, all, part, few)

  has-own : (x : Item) → has share.kept x ≡ true → (has m.held x && (is_of (kind_of x) x && has planned x)) ≡ true
  has-own x is = sym (has-filter (λ y. is_of (kind_of x) y && has planned y) m.held x)
      ∙ times-has x (owns x) (omega (arith, has-times x share.kept is, kept-own x))

  gives_up : (x : Item) → has share.revoked x ≡ (has m.held x && not (has share.kept x))
  gives_up x = ap (λ (xs : List Item). has xs x) revoked ∙ has-filter (λ y. not (has share.kept y)) m.held x

  not-kept : (b c : Bool) → b ≡ true → c ≡ false → (b && not c) ≡ true
  not-kept true false b-is c-is = refl
  not-kept true true b-is c-is = absurd (cc)
  not-kept false c b-is c-is = absurd (cc)

  share-once : (x : Item) → times x share.kept + times x share.revoked ≤ times x m.held
  share-once x = elim (cases_Bool (has share.kept x)) [
    | inl is ↦
        let none : times x share.revoked ≡ 0 = ap (λ (xs : List Item). times x xs) revoked
        ∙ count-filter_none (λ y. same_item x y) (λ y. not (has share.kept y)) m.held
        (λ y same. ap not (subst (λ (z : Item). has share.kept z ≡ true) ((same_item-Decides x y).0 same) is)) in
        let few : times x (owns x) ≤ times x m.held = count-filter_le (λ y. same_item x y) (λ y. is_of (kind_of x) y && has planned y) m.held in
        omega (arith, none, kept-own x, few)
    | inr not_kept ↦
        let none : times x share.kept ≡ 0 = times-none x share.kept not_kept in
        let some : times x share.revoked ≡ times x (filter (λ y. not (has share.kept y)) m.held) = ap (λ (xs : List Item). times x xs) revoked in
        let few : times x (filter (λ y. not (has share.kept y)) m.held) ≤ times x m.held = count-filter_le (λ y. same_item x y) (λ y. not (has share.kept y)) m.held in
        omega (arith, none, some, few)
  ]

  share-all : AreAmong m.held (share.kept ++ share.revoked)
  share-all x is = has-append share.kept share.revoked x ∙ elim (cases_Bool (has share.kept x)) [
    | inl kept_it ↦ or_left (has share.kept x) (has share.revoked x) kept_it
    | inr not_kept ↦ or_right (has share.kept x) (has share.revoked x) (gives_up x ∙ not-kept (has m.held x) (has share.kept x) is not_kept)
  ]

  share-is : (o : Member) → o.claim ≡ m.held → IsShareOf planned o share
  share-is o claim = record {
    own = λ x is. ap (λ (xs : List Item). has xs x) claim ∙ (and_parts (has m.held x) (is_of (kind_of x) x && has planned x) (has-own x is)).0;
    configured = λ x is. (and_parts (is_of (kind_of x) x) (has planned x) (and_parts (has m.held x) (is_of (kind_of x) x && has planned x) (has-own x is)).1).1;
    all = λ x is. share-all x (sym (ap (λ (xs : List Item). has xs x) claim) ∙ is);
    once = λ x. subst (λ (xs : List Item). times x share.kept + times x share.revoked ≤ times x xs) (sym claim) (share-once x);
  }

-- ---- all members' shares

shares-are : (all : List Holder) (planned : List Item) (running : Bool) (members : List Member) (shares : List Share) →
    ((kind : Kind) → AllZip (KeepsItsPart all planned running kind) (holders_of members) shares) → AllZip GivesUpTheRest (holders_of members) shares →
    AllZip (IsShareOf planned) members shares
shares-are all planned running [] [] kept revoked = tt
shares-are all planned running [] (share ∷ shares) kept revoked = elim revoked [ ]
shares-are all planned running (m ∷ members) [] kept revoked = elim revoked [ ]
shares-are all planned running (m ∷ members) (share ∷ shares) kept revoked = (
  share-is all planned running (record { worker = m.worker; held = m.claim }) share (λ kind. (kept kind).0) revoked.0 m refl,
  shares-are all planned running members shares (λ kind. (kept kind).1) revoked.1,
)

pub valid-shares : (members : List Member) (planned lost : List Item) (running : Bool) (plan : Plan) → IsValid (holders_of members) planned lost running plan →
    AllZip (IsShareOf planned) members plan.shares
valid-shares members planned lost running plan valid = shares-are (holders_of members) planned running members plan.shares valid.kept valid.revoked

-- what members keep and are newly given they may run, and that is planned
pub shares-within : (planned : List Item) (members : List Member) (shares : List Share) → AllZip (IsShareOf planned) members shares → AreAmong (fresh_in shares) planned →
    AllByRecursion (IsWithinPlan planned) (with_shares members shares)
shares-within planned [] shares zips fresh = tt
shares-within planned (m ∷ members) [] zips fresh = elim zips [ ]
shares-within planned (m ∷ members) (share ∷ shares) zips fresh = (
  record {
    claimed = λ x is. has-append m.claim share.fresh x ∙ elim (or_cases (has share.kept x) (has share.fresh x) (sym (has-append share.kept share.fresh x) ∙ is)) [
      | inl kept ↦ or_left (has m.claim x) (has share.fresh x) (zips.0.own x kept)
      | inr new ↦ or_right (has m.claim x) (has share.fresh x) new
    ];
    planned = λ x is. elim (or_cases (has share.kept x) (has share.fresh x) (sym (has-append share.kept share.fresh x) ∙ is)) [
      | inl kept ↦ zips.0.configured x kept
      | inr new ↦ fresh x (has-append share.fresh (fresh_in shares) x ∙ or_left (has share.fresh x) (has (fresh_in shares) x) new)
    ];
  },
  shares-within planned members shares zips.1 (λ x is. fresh x (has-append share.fresh (fresh_in shares) x ∙ or_right (has share.fresh x) (has (fresh_in shares) x) is)),
)

-- what stands in shares stood in claims or is newly given
shared-times : (planned : List Item) (members : List Member) (shares : List Share) → AllZip (IsShareOf planned) members shares → (x : Item) →
    times x (shared_items (with_shares members shares)) ≤ times x (held_by (holders_of members)) + times x (fresh_in shares)
shared-times planned [] shares zips x = omega arith
shared-times planned (m ∷ members) [] zips x = elim zips [ ]
shared-times planned (m ∷ members) (share ∷ shares) zips x = omega (
  arith,
  count-append (λ y. same_item x y) (share_items share) (shared_items (with_shares members shares)),
  count-append (λ y. same_item x y) (share.kept ++ share.fresh) share.revoked,
  count-append (λ y. same_item x y) share.kept share.fresh,
  count-append (λ y. same_item x y) m.claim (held_by (holders_of members)),
  count-append (λ y. same_item x y) share.fresh (fresh_in shares),
  zips.0.once x,
  shared-times planned members shares zips.1 x,
)

-- nothing is in two shares
pub shared-once : (members : List Member) (planned lost : List Item) (running : Bool) (plan : Plan) → IsValid (holders_of members) planned lost running plan →
    IsDistinct same_item (held_by (holders_of members)) → IsDistinct same_item (shared_items (with_shares members plan.shares))
shared-once members planned lost running plan valid apart = distinct_from_once (shared_items (with_shares members plan.shares)) (λ x.
    let few : times x (shared_items (with_shares members plan.shares)) ≤ times x (held_by (holders_of members)) + times x (fresh_in plan.shares) =
    shared-times planned members plan.shares (valid-shares members planned lost running plan valid) x in
    elim (cases_Bool (has (fresh_in plan.shares) x)) [
      | inl new ↦ omega (arith, few, once x (fresh_in plan.shares) valid.apart, times-none x (held_by (holders_of members)) (valid.unheld x new))
      | inr old ↦ omega (arith, few, once x (held_by (holders_of members)) apart, times-none x (fresh_in plan.shares) old)
    ])

held-shared : (planned : List Item) (members : List Member) (shares : List Share) → AllZip (IsShareOf planned) members shares →
    AreAmong (held_by (holders_of members)) (shared_items (with_shares members shares))
held-shared planned [] shares zips x is = absurd (cc)
held-shared planned (m ∷ members) [] zips x is = elim zips [ ]
held-shared planned (m ∷ members) (share ∷ shares) zips x is =
    has-append (share_items share) (shared_items (with_shares members shares)) x
    ∙ elim (or_cases (has m.claim x) (has (held_by (holders_of members)) x) (sym (has-append m.claim (held_by (holders_of members)) x) ∙ is)) [
      | inl own ↦ or_left (has (share_items share) x) (has (shared_items (with_shares members shares)) x) (kept_or_not (zips.0.all x own))
      | inr other ↦ or_right (has (share_items share) x) (has (shared_items (with_shares members shares)) x) (held-shared planned members shares zips.1 x other)
    ] where
      kept_or_not : has (share.kept ++ share.revoked) x ≡ true → has (share_items share) x ≡ true
      kept_or_not is = has-append (share.kept ++ share.fresh) share.revoked x ∙ elim (or_cases (has share.kept x) (has share.revoked x) (sym (has-append share.kept share.revoked x) ∙ is)) [
        | inl kept ↦ or_left (has (share.kept ++ share.fresh) x) (has share.revoked x) (has-append share.kept share.fresh x ∙ or_left (has share.kept x) (has share.fresh x) kept)
        | inr revoked ↦ or_right (has (share.kept ++ share.fresh) x) (has share.revoked x) revoked
      ]

fresh-shared : (planned : List Item) (members : List Member) (shares : List Share) → AllZip (IsShareOf planned) members shares →
    AreAmong (fresh_in shares) (shared_items (with_shares members shares))
fresh-shared planned [] [] zips x is = absurd (cc)
fresh-shared planned [] (share ∷ shares) zips x is = elim zips [ ]
fresh-shared planned (m ∷ members) [] zips x is = elim zips [ ]
fresh-shared planned (m ∷ members) (share ∷ shares) zips x is =
    has-append (share_items share) (shared_items (with_shares members shares)) x
    ∙ elim (or_cases (has share.fresh x) (has (fresh_in shares) x) (sym (has-append share.fresh (fresh_in shares) x) ∙ is)) [
      | inl new ↦ or_left (has (share_items share) x) (has (shared_items (with_shares members shares)) x) (has-append (share.kept ++ share.fresh) share.revoked x
          ∙ or_left (has (share.kept ++ share.fresh) x) (has share.revoked x) (has-append share.kept share.fresh x ∙ or_right (has share.kept x) (has share.fresh x) new))
      | inr other ↦ or_right (has (share_items share) x) (has (shared_items (with_shares members shares)) x) (fresh-shared planned members shares zips.1 x other)
    ]

-- what is newly given is planned
pub fresh-planned : (members : List Member) (planned lost : List Item) (running : Bool) (plan : Plan) → IsValid (holders_of members) planned lost running plan →
    AreAmong (fresh_in plan.shares) planned
fresh-planned members planned lost running plan valid x is =
    (and_parts (has planned x) (not (has (held_by (holders_of members)) x) && not (running && has lost x)) (sym (valid.given x) ∙ is)).0

due : (p h l : Bool) → p ≡ true → h ≡ false → (p && (not h && not (false && l))) ≡ true
due true false l p-is h-is = refl
due true true l p-is h-is = absurd (cc)
due false h l p-is h-is = absurd (cc)

-- where no delay runs, all that is planned is in a share
pub all-shared : (members : List Member) (planned lost : List Item) (plan : Plan) → IsValid (holders_of members) planned lost false plan →
    AreAmong planned (shared_items (with_shares members plan.shares))
all-shared members planned lost plan valid x is =
    let zips : AllZip (IsShareOf planned) members plan.shares = valid-shares members planned lost false plan valid in
    elim (cases_Bool (has (held_by (holders_of members)) x)) [
      | inl some ↦ held-shared planned members plan.shares zips x some
      | inr none ↦ fresh-shared planned members plan.shares zips x (valid.given x ∙ due (has planned x) (has (held_by (holders_of members)) x) (has lost x) is none)
    ]
