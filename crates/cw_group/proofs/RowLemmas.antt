-- What a call does, where nothing refuses it.
use Rattle.std.proofs.Common.{◌≡◌, ℕ, zero, suc, ◌<◌, ◌==◌, Bool, true, false, not, ◌||◌, cond, List, [], ◌∷◌, length, get_or, set, map, Option, Some, None, Ok, Err, refl, sym, ap, ◌∙◌, subst, arith}
use Rattle.std.specs.Prelude.{unwrap_or, is_ok}
use Rattle.std.specs.List.{find, IsDistinct}
use Rattle.std.proofs.lemmas.List.{length-map}
use Rattle.std.proofs.lemmas.Bool.Decides.{nat_tests}
use Rattle.cw_types.specs.declared.ids.Item.{Item}
use Rattle.cw_assign.specs.declared.share.Share.{Share}
use Rattle.cw_assign.specs.Items.{has, same_item}
use Rattle.cw_assign.proofs.ItemLemmas.{same_item-Decides}
use Rattle.cw_group.specs.declared.member.Member.{Member}
use Rattle.cw_group.specs.declared.answers.Phase.{Phase}
use Rattle.cw_group.specs.declared.answers.Phase.TheVariants.{Open, Planned}
use Rattle.cw_group.specs.declared.answers.GroupFault.{GroupFault}
use Rattle.cw_group.specs.declared.answers.GroupFault.TheVariants.{Unknown, NotClaimed, AlreadyJoined, NotLeader, OldGeneration}
use Rattle.cw_group.specs.Phases.{is_open, is_closed}
use Rattle.cw_group.specs.Members.{member_of, without, with_change, with_shares, lowest_in, unjoined, joined_with}
use Rattle.cw_group.specs.Group.{GroupState, next, for_member, unless, opened, not_claimed, join_refusal, joins, join_row, expire_row, store_refusal, store_row}
use Rattle.cw_group.specs.Places.{IsPlace, IsGroup}
use Rattle.cw_group.proofs.PlaceLemmas.{set-change}
use Rattle.cw_group.proofs.GroupLemmas.{Shrinks, open_group, set_shrinks, group_shrinks}

if_false : {A : Type 0} (b : Bool) (x y : A) → b ≡ false → cond b x y ≡ y
if_false true x y e = cc
if_false false x y e = refl

equal : (a b : ℕ) → a ≡ b → (a == b) ≡ true
equal a b e = grind (arith, nat_tests)

pub store-allowed : (worker round : ℕ) (s : GroupState) → is_closed s.phase ≡ true → s.round ≡ round → unwrap_or (lowest_in s.members) worker ≡ worker → store_refusal worker round s ≡ None
store-allowed worker round s closed same lead =
    let leader : Option GroupFault = cond (not (unwrap_or (lowest_in s.members) worker == worker)) (Some NotLeader) None in
    if_false (not (is_closed s.phase)) (Some (OldGeneration s.round)) (cond (not (s.round == round)) (Some (OldGeneration s.round)) leader) (ap not closed)
    ∙ if_false (not (s.round == round)) (Some (OldGeneration s.round)) leader (ap not (equal s.round round same))
    ∙ if_false (not (unwrap_or (lowest_in s.members) worker == worker)) (Some NotLeader) None (ap not (equal (unwrap_or (lowest_in s.members) worker) worker lead))

pub stored : (worker round : ℕ) (shares : List Share) (planned : List Item) (s : GroupState) (m : Member) → member_of worker s.members ≡ Some m → store_refusal worker round s ≡ None
    → is_ok (store_row worker round shares planned s) ≡ true
stored worker round shares planned s m found allowed =
    let done : GroupState = record { round = s.round; phase = Planned; made = s.made; members = with_shares s.members shares; planned = planned } in
    ap is_ok (ap (λ (o : Option Member). for_member o (λ _. unless (store_refusal worker round s) done)) found ∙ ap (λ (o : Option GroupFault). unless o done) allowed)

pub expired : (worker : ℕ) (s : GroupState) (m : Member) (round : ℕ) (phase : Phase) (members : List Member) (claim : List Item)
    → member_of worker s.members ≡ Some m → claim ≡ m.claim → round ≡ cond (is_open s.phase) s.round (next s.round) → phase ≡ Open
    → members ≡ cond (is_open s.phase) (without worker s.members) (map unjoined (without worker s.members))
    → expire_row worker s ≡ Ok (claim, record { round = round; phase = phase; made = s.made; members = members; planned = s.planned })
expired worker s m round phase members claim found claim_is round_is phase_is members_is =
    let left : GroupState = opened (record { round = s.round; phase = s.phase; made = s.made; members = without worker s.members; planned = s.planned }) in
    ap (λ (o : Option Member). for_member o (λ n. Ok (n.claim, left))) found
    ∙ sym (ap (λ (c : List Item). Ok (c, record { round = round; phase = phase; made = s.made; members = members; planned = s.planned })) claim_is
    ∙ ap (λ (n : ℕ). Ok (m.claim, record { round = n; phase = phase; made = s.made; members = members; planned = s.planned })) round_is
    ∙ ap (λ (p : Phase). Ok (m.claim, record { round = cond (is_open s.phase) s.round (next s.round); phase = p; made = s.made; members = members; planned = s.planned })) phase_is
    ∙ ap (λ (ms : List Member). Ok (m.claim, record { round = cond (is_open s.phase) s.round (next s.round); phase = Open; made = s.made; members = ms; planned = s.planned })) members_is)

no_other : (P : Item → Bool) (xs : List Item) → find (λ x. not (P x)) xs ≡ None → (x : Item) → has xs x ≡ true → P x ≡ true
no_other P [] none x is = cc
no_other P (y ∷ ys) none x is = pick (P y) (same_item x y) refl refl none (no_other P ys) is where
  pick : (b s : Bool) → P y ≡ b → same_item x y ≡ s → cond (not b) (Some y) (find (λ z. not (P z)) ys) ≡ None
      → (find (λ z. not (P z)) ys ≡ None → (z : Item) → has ys z ≡ true → P z ≡ true) → has (y ∷ ys) x ≡ true → P x ≡ true
  pick false s py same none rest is = absurd (clash none) where
    clash : Some y ≡ None → ⊥
    clash e = cc
  pick true true py same none rest is = ap P ((same_item-Decides x y).0 same) ∙ py
  pick true false py same none rest is = rest none x (second (same_item x y) (has ys x) same is) where
    second : (a b : Bool) → a ≡ false → (a || b) ≡ true → b ≡ true
    second true b e f = cc
    second false b e f = f

passed : (b : Bool) (f : GroupFault) (o : Option GroupFault) → cond b (Some f) o ≡ None → o ≡ None
passed true f o e = absurd (clash e) where
  clash : Some f ≡ None → ⊥
  clash e = cc
passed false f o e = e

-- a member that may join holds nothing but what is in its claim
pub join-claims : (incarnation : ℕ) (held : List Item) (phase : Phase) (m : Member) → join_refusal incarnation held phase m ≡ None → (x : Item) → has held x ≡ true → has m.claim x ≡ true
join-claims incarnation held phase m allowed = no_other (has m.claim) held (all (find (λ x. not (has m.claim x)) held)
    (passed (cond (is_open phase) m.joined false) AlreadyJoined (not_claimed (find (λ x. not (has m.claim x)) held))
    (passed (not (m.incarnation == incarnation)) Unknown (cond (cond (is_open phase) m.joined false) (Some AlreadyJoined) (not_claimed (find (λ x. not (has m.claim x)) held))) allowed))) where
      all : (o : Option Item) → not_claimed o ≡ None → o ≡ None
      all None e = refl
      all (Some x) e = absurd (clash e) where
        clash : Some (NotClaimed x) ≡ None → ⊥
        clash e = cc

got : (ms : List Member) (at : ℕ) (d : Member) → at < length ms → get_or (map unjoined ms) at d ≡ unjoined (get_or ms at d)
got [] at d within = absurd (omega arith)
got (m ∷ ms) zero d within = refl
got (m ∷ ms) (suc at) d within = got ms at d (omega arith)

-- a member's place once a round is open
module _ (worker : ℕ) (ms : List Member) (at : ℕ) (place : IsPlace worker ms at) where
  abbrev after : Bool → List Member
  after b = cond b ms (map unjoined ms)

  open_within : (b : Bool) → at < length (after b)
  open_within true = place.within
  open_within false = omega (arith, place.within, length-map ms unjoined)

  open_here : (b : Bool) (d : Member) → (get_or (after b) at d).worker ≡ worker
  open_here true d = place.here d
  open_here false d = ap (λ (o : Member). o.worker) (got ms at d place.within) ∙ place.here d

  open_claim : (b : Bool) (d : Member) → (get_or (after b) at d).claim ≡ (get_or ms at d).claim
  open_claim true d = refl
  open_claim false d = ap (λ (o : Member). o.claim) (got ms at d place.within)

  module _ (b : Bool) (held : List Item) (once : IsDistinct same_item held) (group : IsGroup ms) (own : (d : Member) (x : Item) → has held x ≡ true → has (get_or ms at d).claim x ≡ true) where
    -- it has joined, and its claim has nothing new
    pub joined-group : (d o : Member) → o ≡ joined_with held (get_or (after b) at d) → IsGroup (set (after b) at o)
    joined-group d o is = group_shrinks (after b) (set (after b) at o) (set_shrinks (after b) at d o (open_within b) less) (open_group b ms group) where
      less : Shrinks (get_or (after b) at d) o
      less = record {
        worker = ap (λ (m : Member). m.worker) is;
        claim = λ x there. subst (λ (c : List Item). has c x ≡ true) (sym (open_claim b d)) (own d x (subst (λ (m : Member). has m.claim x ≡ true) is there));
        once = λ _. subst (λ (m : Member). IsDistinct same_item m.claim) (sym is) once;
      }

    pub joined-members : (d : Member) → set (after b) at (joined_with held (get_or (after b) at d)) ≡ with_change (joined_with held) worker (after b)
    joined-members d = set-change worker (joined_with held) (after b) at d (open_group b ms group).rising (open_within b) (open_here b d)

pub joined : (worker incarnation : ℕ) (held : List Item) (s : GroupState) (m : Member) (round : ℕ) (phase : Phase) (members : List Member)
    → member_of worker s.members ≡ Some m → join_refusal incarnation held s.phase m ≡ None → round ≡ cond (is_open s.phase) s.round (next s.round) → phase ≡ Open
    → members ≡ with_change (joined_with held) worker (cond (is_open s.phase) s.members (map unjoined s.members))
    → join_row worker incarnation held s ≡ Ok (round, record { round = round; phase = phase; made = s.made; members = members; planned = s.planned })
joined worker incarnation held s m round phase members found allowed round_is phase_is members_is =
    ap (λ (o : Option Member). for_member o (λ n. unless (join_refusal incarnation held s.phase n) ((opened s).round, joins worker held s))) found
    ∙ ap (λ (o : Option GroupFault). unless o ((opened s).round, joins worker held s)) allowed
    ∙ sym (ap (λ (n : ℕ). Ok (n, record { round = n; phase = phase; made = s.made; members = members; planned = s.planned })) round_is
    ∙ ap (λ (p : Phase). Ok (cond (is_open s.phase) s.round (next s.round), record { round = cond (is_open s.phase) s.round (next s.round); phase = p; made = s.made; members = members; planned = s.planned })) phase_is
    ∙ ap (λ (ms : List Member). Ok (cond (is_open s.phase) s.round (next s.round), record { round = cond (is_open s.phase) s.round (next s.round); phase = Open; made = s.made; members = ms; planned = s.planned })) members_is)

-- a member says that it holds what isn't in its claim
pub unclaimed : (worker incarnation : ℕ) (held : List Item) (s : GroupState) (m : Member) (x : Item)
    → member_of worker s.members ≡ Some m → m.incarnation ≡ incarnation → cond (is_open s.phase) m.joined false ≡ false → find (λ y. not (has m.claim y)) held ≡ Some x
    → join_row worker incarnation held s ≡ Err (NotClaimed x)
unclaimed worker incarnation held s m x found same new first =
    ap (λ (o : Option Member). for_member o (λ n. unless (join_refusal incarnation held s.phase n) ((opened s).round, joins worker held s))) found
    ∙ ap (λ (o : Option GroupFault). unless o ((opened s).round, joins worker held s))
    (if_false (not (m.incarnation == incarnation)) (Some Unknown) (cond (cond (is_open s.phase) m.joined false) (Some AlreadyJoined) (not_claimed (find (λ y. not (has m.claim y)) held))) (ap not (equal m.incarnation incarnation same))
    ∙ if_false (cond (is_open s.phase) m.joined false) (Some AlreadyJoined) (not_claimed (find (λ y. not (has m.claim y)) held)) new
    ∙ ap not_claimed first)
