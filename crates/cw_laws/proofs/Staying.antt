-- A member that was one before: its worker is one still, and holds and is to run what it may.
use Rattle.std.proofs.Common.{◌≡◌, ℕ, ◌==◌, ◌<◌, ◌^◌, Bool, true, false, cond, List, Option, Some, None, refl, sym, ap, ◌∙◌, subst, arith}
use Rattle.cw_types.specs.declared.ids.Item.{Item}
use Rattle.cw_group.specs.declared.member.Member.{Member}
use Rattle.cw_group.specs.declared.answers.Phase.{Phase}
use Rattle.cw_group.specs.declared.answers.Phase.TheVariants.{Open, Closed, Planned}
use Rattle.cw_group.specs.Phases.{is_open}
use Rattle.cw_group.specs.Members.{member_of}
use Rattle.cw_group.specs.Group.{next}
use Rattle.cw_model.specs.State.{Cluster}
use Rattle.cw_model.specs.Lookups.{row_of, is_member, is_same_incarnation, held}
use Rattle.cw_model.specs.FactsGroup.{GroupFacts, AreAmong, Claims}
use Rattle.cw_laws.proofs.Members.{Stays}

same-incarnation : (incarnation : Option ℕ) (m o : Member) → m.incarnation ≡ o.incarnation → is_same_incarnation incarnation (Some m) ≡ is_same_incarnation incarnation (Some o)
same-incarnation None m o same = refl
same-incarnation (Some n) m o same = ap (λ (k : ℕ). k == n) same

-- a worker that is a member is looked up
pub record IsThere (w : ℕ) (members : List Member) : Type 0 where
  pub member : Member
  pub there : member_of w members ≡ Some member

looked-up : (w : ℕ) (members : List Member) (incarnation : Option ℕ) (o : Option Member) → member_of w members ≡ o → is_same_incarnation incarnation o ≡ true → IsThere w members
looked-up w members None o is current = absurd (cc)
looked-up w members (Some n) None is current = absurd (cc)
looked-up w members (Some n) (Some m) is current = record { member = m; there = is }

pub member-there : (w : ℕ) (s : Cluster) → is_member w s ≡ true → IsThere w s.group.members
member-there w s current = looked-up w s.group.members (row_of w s).incarnation (member_of w s.group.members) refl current

module _ (s t : Cluster) (v : ℕ) (same : (row_of v t).incarnation ≡ (row_of v s).incarnation) (f : GroupFacts s) where
  members-same : (m : Member) → member_of v t.group.members ≡ Some m → Stays v s.group.members m → is_member v t ≡ is_member v s
  members-same m found old =
      ap (λ (n : Option ℕ). is_same_incarnation n (member_of v t.group.members)) same
      ∙ ap (λ (o : Option Member). is_same_incarnation (row_of v s).incarnation o) found
      ∙ same-incarnation (row_of v s).incarnation m old.old old.incarnation
      ∙ sym (ap (λ (o : Option Member). is_same_incarnation (row_of v s).incarnation o) old.there)

  pub stays-known : (m : Member) → member_of v t.group.members ≡ Some m → Stays v s.group.members m → is_member v t ≡ true
  stays-known m found old = members-same m found old ∙ f.known v old.old old.there

  claims-before : (claim : List Item) (c : Claims t v claim) → (old : Stays v s.group.members c.member) → Claims s v old.old.claim
  claims-before claim c old = record { member = old.old; there = old.there; current = f.known v old.old old.there; is_claim = refl }

  within-claim : (claim items : List Item) (c : Claims t v claim) → (old : Stays v s.group.members c.member) → AreAmong items old.old.claim → AreAmong items claim
  within-claim claim items c old among = subst (λ (l : List Item). AreAmong items l) c.is_claim (λ x is. old.claim x (among x is))

  pub stays-held : (claim : List Item) (c : Claims t v claim) → Stays v s.group.members c.member → AreAmong (held v s) claim
  stays-held claim c old = within-claim claim (held v s) c old (f.held v old.old.claim (claims-before claim c old))

  pub stays-assigned : (claim : List Item) (c : Claims t v claim) → Stays v s.group.members c.member → AreAmong (row_of v s).assigned claim
  stays-assigned claim c old = within-claim claim (row_of v s).assigned c old (f.assigned v old.old.claim (claims-before claim c old))

-- ---- a round opens

pub open-unplanned : (phase : Phase) → is_open phase ≡ true → phase ≡ Planned → ⊥
open-unplanned Open is planned = cc
open-unplanned Closed is planned = cc
open-unplanned Planned is planned = cc

pub next-round : (b : Bool) (round : ℕ) → round < 2 ^ 64 → cond b round (next round) < 2 ^ 64
next-round true round few = few
next-round false round few = omega arith
