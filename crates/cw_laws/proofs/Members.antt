-- Members by their numbers: which one is looked up where members are changed, come or go, and what holds of each.
use Rattle.std.proofs.Common.{◌≡◌, ◌≢◌, ◌⊎◌, inl, inr, ℕ, ◌<◌, ◌==◌, Bool, true, false, not, cond, List, [], ◌∷◌, ◌++◌, map, nat_lt, Option, Some, None, option_map, refl, sym, ap, ◌∙◌, subst, arith}
use Rattle.std.proofs.lemmas.Bool.{or_left}
use Rattle.std.specs.List.{AllByRecursion, AllZip, IsDistinct}
use Rattle.std.proofs.lemmas.Bool.Decides.{nat_tests, Decides-eqb}
use Rattle.cw_types.specs.declared.ids.Item.{Item}
use Rattle.cw_assign.specs.declared.share.Share.{Share}
use Rattle.cw_assign.specs.Items.{has, same_item}
use Rattle.cw_group.specs.declared.member.Member.{Member}
use Rattle.cw_group.specs.Members.{unjoined, joined_with, member_of, with_member, without, with_change, with_shares, sharing, AreRising}
use Rattle.cw_group.proofs.GroupLemmas.{Shrinks, has-append}
use Rattle.cw_model.specs.FactsGroup.{AreAmong}

-- ---- tests of numbers

pub not_same : (a b : ℕ) → a ≢ b → (a == b) ≡ false
not_same a b ne = grind (arith, nat_tests, ne)

pub same_itself : (a : ℕ) → (a == a) ≡ true
same_itself a = grind (arith, nat_tests)

pub same_or_not : (a b : ℕ) → (a ≡ b) ⊎ (a ≢ b)
same_or_not a b = pick (a == b) refl where
  pick : (c : Bool) → (a == b) ≡ c → (a ≡ b) ⊎ (a ≢ b)
  pick true is = inl ((Decides-eqb a b).0 is)
  pick false is = inr (λ same. let both : (a == b) ≡ true = (Decides-eqb a b).1 same in cc)

other_side : (a b : ℕ) → (a == b) ≡ false → (b == a) ≡ false
other_side a b ne = grind (arith, nat_tests)

-- ---- of one member that is looked up, and of all

-- a member that is looked up has the number
pub number-found : (v : ℕ) (members : List Member) (m : Member) → member_of v members ≡ Some m → m.worker ≡ v
number-found v [] m found = absurd (cc)
number-found v (o ∷ members) m found = pick (o.worker == v) refl found (number-found v members m) where
  pick : (b : Bool) → (o.worker == v) ≡ b → cond b (Some o) (member_of v members) ≡ Some m → (member_of v members ≡ Some m → m.worker ≡ v) → m.worker ≡ v
  pick true is found rest = let same : o ≡ m = cc in subst (λ (k : Member). k.worker ≡ v) same ((Decides-eqb o.worker v).0 is)
  pick false is found rest = rest found

-- where numbers rise, what holds of the member that is looked up holds of each one with the number
none_above : (P : Member → Type 0) (w : ℕ) (members : List Member) → AllByRecursion (λ o. w < o.worker) members → AllByRecursion (λ o. (o.worker == w) ≡ true → P o) members
none_above P w [] above = tt
none_above P w (o ∷ members) above = (λ same. absurd (clash ((Decides-eqb o.worker w).0 same)), none_above P w members above.1) where
  clash : o.worker ≡ w → ⊥
  clash e = omega (arith, above.0)

pub all_numbered : (P : Member → Type 0) (w : ℕ) (members : List Member) (m : Member) → AreRising members → member_of w members ≡ Some m → P m → AllByRecursion (λ o. (o.worker == w) ≡ true → P o) members
all_numbered P w [] m rising found holds = tt
all_numbered P w (o ∷ members) m rising found holds = pick (o.worker == w) refl found (λ found. all_numbered P w members m rising.1 found holds) where
  pick : (b : Bool) → (o.worker == w) ≡ b → cond b (Some o) (member_of w members) ≡ Some m → (member_of w members ≡ Some m → AllByRecursion (λ o. (o.worker == w) ≡ true → P o) members) →
      ((o.worker == w) ≡ true → P o) × AllByRecursion (λ o. (o.worker == w) ≡ true → P o) members
  pick true is found rest =
      let same : o ≡ m = cc in
      let number : o.worker ≡ w = (Decides-eqb o.worker w).0 is in
      (λ _. subst P (sym same) holds, none_above P w members (subst (λ (n : ℕ). AllByRecursion (λ k. n < k.worker) members) number rising.0))
  pick false is found rest = (λ same. absurd (cc), rest found)

-- ---- a member that was one before

-- a member that is looked up was one before, and may run what it might
pub record Stays (v : ℕ) (before : List Member) (m : Member) : Type 0 where
  pub old : Member
  pub there : member_of v before ≡ Some old
  pub incarnation : m.incarnation ≡ old.incarnation
  pub claim : AreAmong old.claim m.claim
  pub joined : m.joined ≡ true → old.joined ≡ true

pub stays_as : (v : ℕ) (before : List Member) (m : Member) → member_of v before ≡ Some m → Stays v before m
stays_as v before m found = record { old = m; there = found; incarnation = refl; claim = λ x is. is; joined = λ is. is }

-- ---- a round opens

member_of-unjoined : (v : ℕ) (members : List Member) → member_of v (map unjoined members) ≡ option_map unjoined (member_of v members)
member_of-unjoined v [] = refl
member_of-unjoined v (o ∷ members) = pick (o.worker == v) (member_of-unjoined v members) where
  pick : (b : Bool) → member_of v (map unjoined members) ≡ option_map unjoined (member_of v members)
      → cond b (Some (unjoined o)) (member_of v (map unjoined members)) ≡ option_map unjoined (cond b (Some o) (member_of v members))
  pick true rest = refl
  pick false rest = rest

some-unjoined : (v : ℕ) (before : List Member) (o : Option Member) (m : Member) → member_of v before ≡ o → option_map unjoined o ≡ Some m → Stays v before m × (m.joined ≡ true → ⊥)
some-unjoined v before None m is found = absurd (cc)
some-unjoined v before (Some o) m is found =
    let same : unjoined o ≡ m = cc in
    subst (λ (k : Member). Stays v before k × (k.joined ≡ true → ⊥)) same
    (record { old = o; there = is; incarnation = refl; claim = λ x h. h; joined = λ joined. absurd (cc) }, λ joined. cc)

-- a member of an opened round was one before, and has joined only where the round was open
pub opened-stays : (b : Bool) (v : ℕ) (before : List Member) (m : Member) → member_of v (cond b before (map unjoined before)) ≡ Some m → Stays v before m × (m.joined ≡ true → b ≡ true)
opened-stays true v before m found = (stays_as v before m found, λ joined. refl)
opened-stays false v before m found =
    let parts = some-unjoined v before (member_of v before) m refl (sym (member_of-unjoined v before) ∙ found) in
    (parts.0, λ joined. absurd (parts.1 joined))

none_joined : (P : Member → Type 0) (members : List Member) → AllByRecursion (λ m. m.joined ≡ true → P m) (map unjoined members)
none_joined P [] = tt
none_joined P (m ∷ members) = (λ joined. absurd (cc), none_joined P members)

-- what holds of whoever has joined a round that is open holds in the opened round
pub opened-joined : (P : Member → Type 0) (b : Bool) (members : List Member) → (b ≡ true → AllByRecursion (λ m. m.joined ≡ true → P m) members) →
    AllByRecursion (λ m. m.joined ≡ true → P m) (cond b members (map unjoined members))
opened-joined P true members each = each refl
opened-joined P false members each = none_joined P members

-- a member has the same incarnation in the opened round
pub opened-found : (b : Bool) (v : ℕ) (before : List Member) (o : Member) → member_of v before ≡ Some o → (m : Member) × (member_of v (cond b before (map unjoined before)) ≡ Some m)
opened-found true v before o found = (o, found)
opened-found false v before o found = (unjoined o, member_of-unjoined v before ∙ ap (λ (k : Option Member). option_map unjoined k) found)

-- ---- a member goes

pub without-same : (w : ℕ) (members : List Member) → member_of w (without w members) ≡ None
without-same w [] = refl
without-same w (o ∷ members) = pick (o.worker == w) refl (without-same w members) where
  pick : (b : Bool) → (o.worker == w) ≡ b → member_of w (without w members) ≡ None → member_of w (cond (not b) (o ∷ without w members) (without w members)) ≡ None
  pick true is rest = rest
  pick false is rest = ap (λ (b : Bool). cond b (Some o) (member_of w (without w members))) is ∙ rest

pub without-other : (v w : ℕ) (members : List Member) → v ≢ w → member_of v (without w members) ≡ member_of v members
without-other v w [] ne = refl
without-other v w (o ∷ members) ne = pick (o.worker == w) refl (without-other v w members ne) where
  pick : (b : Bool) → (o.worker == w) ≡ b → member_of v (without w members) ≡ member_of v members →
      member_of v (cond (not b) (o ∷ without w members) (without w members)) ≡ cond (o.worker == v) (Some o) (member_of v members)
  pick true is rest = rest ∙ sym (ap (λ (b : Bool). cond b (Some o) (member_of v members)) (not_same o.worker v (λ same. ne (sym same ∙ (Decides-eqb o.worker w).0 is))))
  pick false is rest = ap (λ (k : Option Member). cond (o.worker == v) (Some o) k) rest

-- who is there without a member was there
pub without-found : (v w : ℕ) (members : List Member) (m : Member) → member_of v (without w members) ≡ Some m → member_of v members ≡ Some m
without-found v w members m found = elim (same_or_not v w) [
  | inl same ↦
      let none : member_of w (without w members) ≡ Some m = subst (λ (n : ℕ). member_of n (without w members) ≡ Some m) same found in
      let gone : member_of w (without w members) ≡ None = without-same w members in
      absurd (cc)
  | inr ne ↦ sym (without-other v w members ne) ∙ found
]

pub each-without : (P : Member → Type 0) (w : ℕ) (members : List Member) → AllByRecursion P members → AllByRecursion P (without w members)
each-without P w [] each = tt
each-without P w (o ∷ members) each = pick (o.worker == w) (each-without P w members each.1) where
  pick : (b : Bool) → AllByRecursion P (without w members) → AllByRecursion P (cond (not b) (o ∷ without w members) (without w members))
  pick true rest = rest
  pick false rest = (each.0, rest)

-- ---- a member comes

pub with-same : (m : Member) (members : List Member) → member_of m.worker (with_member m members) ≡ Some m
with-same m [] = ap (λ (b : Bool). cond b (Some m) None) (same_itself m.worker)
with-same m (o ∷ members) = pick (nat_lt m.worker o.worker) (m.worker == o.worker) refl (with-same m members) where
  pick : (a b : Bool) → (m.worker == o.worker) ≡ b → member_of m.worker (with_member m members) ≡ Some m →
      member_of m.worker (cond a (m ∷ o ∷ members) (cond b (m ∷ members) (o ∷ with_member m members))) ≡ Some m
  pick true b is rest = ap (λ (b : Bool). cond b (Some m) (member_of m.worker (o ∷ members))) (same_itself m.worker)
  pick false true is rest = ap (λ (b : Bool). cond b (Some m) (member_of m.worker members)) (same_itself m.worker)
  pick false false is rest = ap (λ (b : Bool). cond b (Some o) (member_of m.worker (with_member m members))) (other_side m.worker o.worker is) ∙ rest

pub with-other : (v : ℕ) (m : Member) (members : List Member) → v ≢ m.worker → member_of v (with_member m members) ≡ member_of v members
with-other v m [] ne = ap (λ (b : Bool). cond b (Some m) None) (not_same m.worker v (λ same. ne (sym same)))
with-other v m (o ∷ members) ne = pick (nat_lt m.worker o.worker) (m.worker == o.worker) refl (with-other v m members ne) where
  skip : (rest : Option Member) → cond (m.worker == v) (Some m) rest ≡ rest
  skip rest = ap (λ (b : Bool). cond b (Some m) rest) (not_same m.worker v (λ same. ne (sym same)))

  pick : (a b : Bool) → (m.worker == o.worker) ≡ b → member_of v (with_member m members) ≡ member_of v members →
      member_of v (cond a (m ∷ o ∷ members) (cond b (m ∷ members) (o ∷ with_member m members))) ≡ member_of v (o ∷ members)
  pick true b is rest = skip (member_of v (o ∷ members))
  pick false true is rest = skip (member_of v members)
      ∙ sym (ap (λ (b : Bool). cond b (Some o) (member_of v members)) (not_same o.worker v (λ same. ne (sym same ∙ sym ((Decides-eqb m.worker o.worker).0 is)))))
  pick false false is rest = ap (λ (k : Option Member). cond (o.worker == v) (Some o) k) rest

pub each-with : (P : Member → Type 0) (m : Member) (members : List Member) → P m → AllByRecursion P members → AllByRecursion P (with_member m members)
each-with P m [] here each = (here, tt)
each-with P m (o ∷ members) here each = pick (nat_lt m.worker o.worker) (m.worker == o.worker) (each-with P m members here each.1) where
  pick : (a b : Bool) → AllByRecursion P (with_member m members) → AllByRecursion P (cond a (m ∷ o ∷ members) (cond b (m ∷ members) (o ∷ with_member m members)))
  pick true b rest = (here, each)
  pick false true rest = (here, each.1)
  pick false false rest = (each.0, rest)

-- ---- a member joins

module _ (held : List Item) (w : ℕ) where
  abbrev changed : Bool → Member → Member
  changed b m = cond b (joined_with held m) m

  pub joined-same : (members : List Member) (m : Member) → member_of w members ≡ Some m → member_of w (with_change (joined_with held) w members) ≡ Some (joined_with held m)
  joined-same [] m found = absurd (cc)
  joined-same (o ∷ members) m found = pick (o.worker == w) refl found (joined-same members m) where
    pick : (b : Bool) → (o.worker == w) ≡ b → cond b (Some o) (member_of w members) ≡ Some m →
        (member_of w members ≡ Some m → member_of w (with_change (joined_with held) w members) ≡ Some (joined_with held m)) →
        cond ((changed b o).worker == w) (Some (changed b o)) (member_of w (with_change (joined_with held) w members)) ≡ Some (joined_with held m)
    pick true is found rest =
        let same : o ≡ m = cc in
        ap (λ (b : Bool). cond b (Some (joined_with held o)) (member_of w (with_change (joined_with held) w members))) is ∙ ap (λ (k : Member). Some (joined_with held k)) same
    pick false is found rest = ap (λ (b : Bool). cond b (Some o) (member_of w (with_change (joined_with held) w members))) is ∙ rest found

  pub joined-other : (v : ℕ) (members : List Member) → v ≢ w → member_of v (with_change (joined_with held) w members) ≡ member_of v members
  joined-other v [] ne = refl
  joined-other v (o ∷ members) ne = pick (o.worker == w) refl (joined-other v members ne) where
    pick : (b : Bool) → (o.worker == w) ≡ b → member_of v (with_change (joined_with held) w members) ≡ member_of v members →
        cond ((changed b o).worker == v) (Some (changed b o)) (member_of v (with_change (joined_with held) w members)) ≡ cond (o.worker == v) (Some o) (member_of v members)
    pick true is rest =
        let apart : (o.worker == v) ≡ false = not_same o.worker v (λ same. ne (sym same ∙ (Decides-eqb o.worker w).0 is)) in
        ap (λ (b : Bool). cond b (Some (joined_with held o)) (member_of v (with_change (joined_with held) w members))) apart ∙ rest
        ∙ sym (ap (λ (b : Bool). cond b (Some o) (member_of v members)) apart)
    pick false is rest = ap (λ (k : Option Member). cond (o.worker == v) (Some o) k) rest

  pub each-joined : (P : Member → Type 0) (members : List Member) → ((m : Member) → P (joined_with held m)) → AllByRecursion P members → AllByRecursion P (with_change (joined_with held) w members)
  each-joined P [] here each = tt
  each-joined P (o ∷ members) here each = (pick (o.worker == w), each-joined P members here each.1) where
    pick : (b : Bool) → P (changed b o)
    pick true = here o
    pick false = each.0

  -- whoever joins with a part of its claim, and nothing twice, claims nothing new
  pub joined-shrinks : IsDistinct same_item held → (members : List Member) → AllByRecursion (λ o. (o.worker == w) ≡ true → AreAmong held o.claim) members →
      AllZip Shrinks members (with_change (joined_with held) w members)
  joined-shrinks once [] own = tt
  joined-shrinks once (o ∷ members) own = (pick (o.worker == w) refl, joined-shrinks once members own.1) where
    pick : (b : Bool) → (o.worker == w) ≡ b → Shrinks o (changed b o)
    pick true is = record { worker = refl; claim = own.0 is; once = λ _. once }
    pick false is = record { worker = refl; claim = λ x h. h; once = λ is. is }

-- ---- members get their shares

-- a member with its share was one before, and may run more
pub shares-stay : (v : ℕ) (members : List Member) (shares : List Share) (m : Member) → member_of v (with_shares members shares) ≡ Some m → Stays v members m
shares-stay v [] shares m found = absurd (cc)
shares-stay v (o ∷ members) [] m found = stays_as v (o ∷ members) m found
shares-stay v (o ∷ members) (share ∷ shares) m found = pick (o.worker == v) refl found (shares-stay v members shares m) where
  behind : (o.worker == v) ≡ false → Stays v members m → Stays v (o ∷ members) m
  behind is old = record {
    old = old.old;
    there = ap (λ (b : Bool). cond b (Some o) (member_of v members)) is ∙ old.there;
    incarnation = old.incarnation;
    claim = old.claim;
    joined = old.joined;
  }

  more : (x : Item) → has o.claim x ≡ true → has (o.claim ++ share.fresh) x ≡ true
  more x is = has-append o.claim share.fresh x ∙ or_left (has o.claim x) (has share.fresh x) is

  pick : (b : Bool) → (o.worker == v) ≡ b → cond b (Some (sharing o share)) (member_of v (with_shares members shares)) ≡ Some m →
      (member_of v (with_shares members shares) ≡ Some m → Stays v members m) → Stays v (o ∷ members) m
  pick true is found rest =
      let same : sharing o share ≡ m = cc in
      subst (λ (k : Member). Stays v (o ∷ members) k) same
      record { old = o; there = ap (λ (b : Bool). cond b (Some o) (member_of v members)) is; incarnation = refl; claim = more; joined = λ is. is }
  pick false is found rest = behind is (rest found)
