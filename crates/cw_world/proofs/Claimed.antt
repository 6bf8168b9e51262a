-- A worker that joins is never told that it holds what isn't in its claim: a member runs nothing outside its claim, and
-- whoever enters holds nothing.
use Rattle.std.proofs.Common.{◌≡◌, ◌≢◌, ℕ, Bool, true, false, not, ◌||◌, List, [], ◌∷◌, Option, Some, None, Result, Ok, Err, if◌then◌else◌, cond, refl, sym, ap, ◌∙◌, subst}
use Rattle.std.specs.List.{find}
use Rattle.cw_types.specs.declared.ids.Item.{Item}
use Rattle.cw_types.specs.declared.logs.DiskName.{DiskName}
use Rattle.cw_assign.specs.Items.{has, same_item}
use Rattle.cw_assign.proofs.ItemLemmas.{same_item-Decides}
use Rattle.cw_group.specs.declared.answers.GroupFault.{GroupFault}
use Rattle.cw_group.specs.declared.answers.GroupFault.TheVariants.{Unknown, NotClaimed, AlreadyJoined}
use Rattle.cw_group.specs.declared.member.Member.{Member}
use Rattle.cw_group.specs.Members.{member_of}
use Rattle.cw_group.specs.Group.{GroupState, enters, join_row, join_refusal, not_claimed, for_member, unless}
use Rattle.cw_model.specs.declared.fault.WorldFault.{WorldFault}
use Rattle.cw_model.specs.declared.fault.WorldFault.TheVariants.{Dead, Group, Memory}
use Rattle.cw_model.specs.State.{Cluster}
use Rattle.cw_model.specs.Lookups.{row_of, is_member, held}
use Rattle.cw_model.specs.Answers.{Answer, at_group, refused, unless_closed}
use Rattle.cw_model.specs.EventsGroups.{join, entered, incarnation_in, MayJoin}
use Rattle.cw_model.specs.FactsGroup.{GroupFacts}
use Rattle.cw_rows.specs.Kept.{Kept, IsOrWants}

-- the first of a list that isn't so stands in the list, and isn't so
first-stands : (P : Item → Bool) (xs : List Item) (x : Item) → find (λ y. not (P y)) xs ≡ Some x → (has xs x ≡ true) × (P x ≡ false)
first-stands P [] x is = absurd (cc)
first-stands P (y ∷ ys) x is = pick (P y) refl is (first-stands P ys x) where
  behind : (b : Bool) → has ys x ≡ true → (b || has ys x) ≡ true
  behind true there = refl
  behind false there = there

  pick : (b : Bool) → P y ≡ b → cond (not b) (Some y) (find (λ z. not (P z)) ys) ≡ Some x
      → (find (λ z. not (P z)) ys ≡ Some x → (has ys x ≡ true) × (P x ≡ false)) → (has (y ∷ ys) x ≡ true) × (P x ≡ false)
  pick false py is rest =
      let same : y ≡ x = cc in
      (ap (λ (b : Bool). b || has ys x) ((same_item-Decides x y).1 (sym same)), subst (λ (z : Item). P z ≡ false) same py)
  pick true py is rest = let found = rest is in (behind (same_item x y) found.0, found.1)

module _ (w : ℕ) (s : Cluster) (x : Item) where
  -- a member's refusal that names an item names the first that isn't in its claim
  unclaimed-first : (a b : Bool) (o : Option Item) → cond a (Some Unknown) (cond b (Some AlreadyJoined) (not_claimed o)) ≡ Some (NotClaimed x) → o ≡ Some x
  unclaimed-first true b o is = absurd (cc)
  unclaimed-first false true o is = absurd (cc)
  unclaimed-first false false None is = absurd (cc)
  unclaimed-first false false (Some y) is = cc

  none-outside : GroupFacts s → MayJoin w s → (b : Bool) → is_member w s ≡ b → (m : Member) → member_of w (if b then s.group else enters w s.group).members ≡ Some m
      → find (λ y. not (has m.claim y)) (held w s) ≡ Some x → ⊥
  none-outside f may true is m there first =
      let found = first-stands (has m.claim) (held w s) x first in
      let claimed : has m.claim x ≡ true = f.held w m.claim (record { member = m; there = there; current = is; is_claim = refl }) x found.0 in
      cc
  none-outside f may false is m there first =
      let none : None ≡ Some x = subst (λ (items : List Item). find (λ y. not (has m.claim y)) items ≡ Some x) (may is) first in
      cc

  row-refuses : {A : Type 0} (o : Option Member) (refusal : Member → Option GroupFault) (done : A) → ((m : Member) → o ≡ Some m → refusal m ≡ Some (NotClaimed x) → ⊥)
      → for_member o (λ m. unless (refusal m) done) ≡ Err (NotClaimed x) → ⊥
  row-refuses None refusal done never is = cc
  row-refuses (Some m) refusal done never is = pick (refusal m) (never m refl) is where
    pick : (o : Option GroupFault) → (o ≡ Some (NotClaimed x) → ⊥) → unless o done ≡ Err (NotClaimed x) → ⊥
    pick None never is = cc
    pick (Some fault) never is = never cc

  event-refuses : (o : Option (DiskName × ℕ)) (live : Bool) (r : Result (ℕ × GroupState) GroupFault) (does : ℕ × GroupState → Answer ℕ)
      → ((did : ℕ × GroupState) → (does did).0 ≡ Err (Group (NotClaimed x)) → ⊥) → (r ≡ Err (NotClaimed x) → ⊥)
      → (unless_closed o (if live then at_group r does s else refused (Dead w) s) s).0 ≡ Err (Group (NotClaimed x)) → ⊥
  event-refuses (Some fault) live r does done never is = cc
  event-refuses None false r does done never is = cc
  event-refuses None true (Ok did) does done never is = done did is
  event-refuses None true (Err fault) does done never is = never cc

  pub never-unclaimed : GroupFacts s → MayJoin w s → (join w s).0 ≡ Err (Group (NotClaimed x)) → ⊥
  never-unclaimed f may = event-refuses s.closed (row_of w s).live (join_row w (incarnation_in w (entered w s)) (held w s) (entered w s)) _ (λ did is. cc)
      (row-refuses (member_of w (entered w s).members) (join_refusal (incarnation_in w (entered w s)) (held w s) (entered w s).phase) _ (λ m there refused_is.
      none-outside f may (is_member w s) refl m there (unclaimed-first _ _ _ refused_is)))

-- where memory isn't wanting the answer is the event's
pub claimed : {w : ℕ} {old new : Kept} {result : Result ℕ WorldFault} → GroupFacts old.state → MayJoin w old.state → IsOrWants (join w) old new result
    → (x : Item) → result ≡ Err (Group (NotClaimed x)) → ⊥
claimed {w} {old} {new} {result} facts may did x is = never-unclaimed w old.state x facts may (ap (λ (a : Answer ℕ). a.0) (did.done other) ∙ is) where
  other : result ≢ Err Memory
  other wants = cc
