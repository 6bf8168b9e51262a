-- Where the facts of the group hold, current members hold nothing in common: it need not be shown for each event.
use Rattle.std.proofs.Common.{◌≡◌, ◌≢◌, ◌⊎◌, inl, inr, ℕ, ◌==◌, ◌||◌, ◌∷◌, ◌++◌, [], Bool, true, false, cond, List, Option, Some, None, refl, sym, subst, ◌∙◌}
use Rattle.std.proofs.lemmas.Bool.{or_right, or_left, false_from_ne_true}
use Rattle.std.proofs.lemmas.Bool.Decides.{Decides-eqb}
use Rattle.std.proofs.lemmas.List.Folds.{list_any-append}
use Rattle.cw_types.specs.declared.ids.Item.{Item}
use Rattle.cw_assign.specs.Items.{has, same_item}
use Rattle.cw_group.specs.declared.member.Member.{Member}
use Rattle.cw_group.specs.Members.{member_of, claims_of, AreApart}
use Rattle.cw_model.specs.State.{Cluster}
use Rattle.cw_model.specs.Lookups.{row_of, is_member, is_same_incarnation, held}
use Rattle.cw_model.specs.Safe.{IsDisjoint}
use Rattle.cw_model.specs.FactsGroup.{GroupFacts, Claims}
use Rattle.cw_group.proofs.GroupLemmas.{has-append}

-- a member that is looked up is the first, or is looked up behind it
pub first-or : (b : Bool) (m k : Member) (rest : Option Member) → cond b (Some m) rest ≡ Some k → ((b ≡ true) × (m ≡ k)) ⊎ (rest ≡ Some k)
first-or true m k rest found = inl (refl, cc)
first-or false m k rest found = inr found

claim-among : (w : ℕ) (x : Item) (members : List Member) (k : Member) → member_of w members ≡ Some k → has k.claim x ≡ true → has (claims_of members) x ≡ true
claim-among w x [] k found holds = absurd (cc)
claim-among w x (m ∷ members) k found holds = elim (first-or (m.worker == w) m k (member_of w members) found) [
  | inl here ↦ rw (has-append m.claim (claims_of members) x) (or_left (has m.claim x) (has (claims_of members) x) (subst (λ (k : Member). has k.claim x ≡ true) (sym here.1) holds))
  | inr there ↦ rw (has-append m.claim (claims_of members) x) (or_right (has m.claim x) (has (claims_of members) x) (claim-among w x members k there holds))
]

apart-claims : (v w : ℕ) → v ≢ w → (x : Item) (members : List Member) → AreApart members → (m k : Member) → member_of v members ≡ Some m → member_of w members ≡ Some k →
    has m.claim x ≡ true → has k.claim x ≡ true → ⊥
apart-claims v w ne x [] apart m k a b holds holds' = cc
apart-claims v w ne x (o ∷ members) apart m k a b holds holds' = elim (first-or (o.worker == v) o m (member_of v members) a) [
  | inl first ↦ elim (first-or (o.worker == w) o k (member_of w members) b) [
    | inl second ↦ ne (sym ((Decides-eqb o.worker v).0 first.0) ∙ (Decides-eqb o.worker w).0 second.0)
    | inr there ↦
        let none : has (claims_of members) x ≡ false = apart.0 x (subst (λ (k : Member). has k.claim x ≡ true) (sym first.1) holds) in
        let some : has (claims_of members) x ≡ true = claim-among w x members k there holds' in cc
  ]
  | inr there ↦ elim (first-or (o.worker == w) o k (member_of w members) b) [
    | inl second ↦
        let none : has (claims_of members) x ≡ false = apart.0 x (subst (λ (k : Member). has k.claim x ≡ true) (sym second.1) holds') in
        let some : has (claims_of members) x ≡ true = claim-among v x members m there holds in cc
    | inr there' ↦ apart-claims v w ne x members apart.1 m k there there' holds holds'
  ]
]

found : (incarnation : Option ℕ) (o : Option Member) → is_same_incarnation incarnation o ≡ true → (m : Member) × (o ≡ Some m)
found None o current = absurd (let no' : false ≡ true = current in cc)
found (Some n) None current = absurd (let no' : false ≡ true = current in cc)
found (Some n) (Some m) current = (m, refl)

claims : (s : Cluster) (w : ℕ) → is_member w s ≡ true → (m : Member) × Claims s w m.claim
claims s w current =
    let member = found (row_of w s).incarnation (member_of w s.group.members) current in
    (member.0, record { member = member.0; there = member.1; current = current; is_claim = refl })

pub group-disjoint : (s : Cluster) → GroupFacts s → IsDisjoint s
unfolding claims
group-disjoint s f v w x ne a b holds =
    let m = claims s v a in
    let k = claims s w b in
    false_from_ne_true (has (held w s) x) (λ holds'. apart-claims v w ne x s.group.members f.apart m.0 k.0 m.1.there k.1.there
    (f.held v m.0.claim m.1 x holds) (f.held w k.0.claim k.1 x holds'))
