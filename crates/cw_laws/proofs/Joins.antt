-- A worker that joins: all facts stay, since it claims what it holds, which it might run before.
use Rattle.std.proofs.Common.{◌≡◌, ◌≢◌, ◌⊎◌, inl, inr, ℕ, ◌<◌, ◌≤◌, ◌^◌, Bool, true, false, List, length, map, Option, Some, None, if◌then◌else◌, refl, sym, ap, ◌∙◌, subst, arith, get_or-set_same}
use Rattle.std.specs.Option.{option_map_or}
use Rattle.std.specs.List.{AllByRecursion, filter}
use Rattle.std.specs.List.Sorted.{IsStrictlySortedBy}
use Rattle.std.proofs.Math.ListN.{length-set}
use Rattle.cw_types.specs.declared.ids.Item.{Item}
use Rattle.cw_types.specs.declared.ids.Epoch.{Epoch}
use Rattle.cw_types.specs.Order.{item_cmp}
use Rattle.cw_assign.proofs.ItemLemmas.{once_rising}
use Rattle.cw_group.specs.declared.member.Member.{Member}
use Rattle.cw_group.specs.declared.answers.Phase.{Phase}
use Rattle.cw_group.specs.declared.answers.Phase.TheVariants.{Planned}
use Rattle.cw_group.specs.Phases.{is_open}
use Rattle.cw_group.specs.Members.{new_member, joined_with, member_of}
use Rattle.cw_group.specs.Group.{GroupState, next, enters, opened, joins, join_row, join_refusal}
use Rattle.cw_group.specs.Places.{IsGroup}
use Rattle.cw_group.proofs.GroupLemmas.{group_with, open_group, group_shrinks}
use Rattle.cw_group.proofs.RowLemmas.{join-claims}
use Rattle.cw_model.specs.declared.row.Row.{Row}
use Rattle.cw_model.specs.declared.row.Fencing.{Fencing}
use Rattle.cw_model.specs.declared.row.RowPhase.TheVariants.{Joining}
use Rattle.cw_model.specs.State.{Setting, Cluster}
use Rattle.cw_model.specs.Lookups.{row_of, no_row, is_member, is_same_incarnation, is_at, held}
use Rattle.cw_model.specs.Updates.{changes_row}
use Rattle.cw_model.specs.EventsGroups.{join, joining, entered, incarnation_in}
use Rattle.cw_model.specs.Facts.{AreFacts}
use Rattle.cw_model.specs.FactsGroup.{GroupFacts, AreAmong, Claims}
use Rattle.cw_model.specs.FactsRows.{IsSoundRow}
use Rattle.cw_laws.proofs.Wrappers.{worker-keeps, group-keeps}
use Rattle.cw_laws.proofs.Lists.{each-set, reads-set, set-cases}
use Rattle.cw_laws.proofs.Regroup.{regroup, regrouped}
use Rattle.cw_laws.proofs.Sync.{Did, call-done, live-within}
use Rattle.cw_laws.proofs.Workers.{sound_at}
use Rattle.cw_laws.proofs.ItemOrder.{in_order-rises}
use Rattle.cw_laws.proofs.Members.{Stays, all_numbered, opened-stays, opened-joined, opened-found, with-other, each-with, joined-same, joined-other, each-joined, joined-shrinks, same_or_not, same_itself}
use Rattle.cw_laws.proofs.Staying.{stays-known, stays-held, stays-assigned, open-unplanned, next-round}

-- the items of whoever has joined rise
abbrev Rises : Member → Type 0
Rises m = IsStrictlySortedBy item_cmp m.claim

-- ---- a worker enters

-- the group that a worker has entered: all others are as before
pub record IsEntered (w : ℕ) (old new : GroupState) : Type 0 where
  pub members : IsGroup new.members
  pub round : new.round ≡ old.round
  pub phase : new.phase ≡ old.phase
  pub others : (v : ℕ) → v ≢ w → member_of v new.members ≡ member_of v old.members
  pub rise : AllByRecursion (λ m. m.joined ≡ true → Rises m) old.members → AllByRecursion (λ m. m.joined ≡ true → Rises m) new.members

is-entered : (b : Bool) (w : ℕ) (group : GroupState) → IsGroup group.members → IsEntered w group (if b then group else enters w group)
is-entered true w group is = record { members = is; round = refl; phase = refl; others = λ v ne. refl; rise = λ rise. rise }
is-entered false w group is = record {
  members = group_with (new_member w (next group.made)) refl group.members is;
  round = refl;
  phase = refl;
  others = λ v ne. with-other v (new_member w (next group.made)) group.members ne;
  rise = each-with (λ m. m.joined ≡ true → Rises m) (new_member w (next group.made)) group.members (λ joined. absurd (cc));
}

-- ---- a worker is known as the member that joins

knows : (o : Option Member) (m : Member) → o ≡ Some m → is_same_incarnation (Some (option_map_or (λ m. m.incarnation) o 0)) o ≡ true
knows None m is = absurd (cc)
knows (Some m) n is = same_itself m.incarnation

-- ---- it joins

module _ (setting : Setting) (w : ℕ) (s : Cluster) (within : w < length s.rows) (g : GroupState) (is : IsEntered w s.group g) (m : Member)
    (there : member_of w g.members ≡ Some m) (claims : AreAmong (held w s) m.claim) (f : AreFacts setting s) where
  abbrev open_members : List Member
  open_members = (opened g).members

  abbrev did : GroupState
  did = joins w (held w s) g

  abbrev row : Row
  row = joining (incarnation_in w did) (held w s) (row_of w s)

  abbrev t : Cluster
  t = changes_row w (joining (incarnation_in w did) (held w s)) (record s { group = did })

  rises : IsStrictlySortedBy item_cmp (held w s)
  rises = in_order-rises (map (λ i. i.item) (filter (is_at w) s.instances))

  -- the members of the open round, who claim nothing new
  open_group_is : IsGroup open_members
  open_group_is = open_group (is_open g.phase) g.members is.members

  open_member : (k : Member) × (member_of w open_members ≡ Some k)
  open_member = opened-found (is_open g.phase) w g.members m there

  open_claims : AreAmong (held w s) open_member.0.claim
  open_claims =
      let old : Stays w g.members open_member.0 = (opened-stays (is_open g.phase) w g.members open_member.0 open_member.1).0 in
      let same : m ≡ old.old = let e : Some m ≡ Some old.old = sym there ∙ old.there in cc in
      λ x holds. old.claim x (subst (λ (k : Member). AreAmong (held w s) k.claim) same claims x holds)

  members : IsGroup did.members
  members = group_shrinks open_members did.members
      (joined-shrinks (held w s) w (once_rising (held w s) rises) open_members
      (all_numbered (λ k. AreAmong (held w s) k.claim) w open_members open_member.0 open_group_is.rising open_member.1 open_claims))
      open_group_is

  own : member_of w did.members ≡ Some (joined_with (held w s) open_member.0)
  own = joined-same (held w s) w open_members open_member.0 open_member.1

  own_row : row_of w t ≡ row
  own_row = get_or-set_same s.rows w row no_row within

  cases : (v : ℕ) → (v ≡ w) ⊎ (row_of v t ≡ row_of v s)
  cases = set-cases s.rows w row no_row

  other-row : (v : ℕ) → v ≢ w → row_of v t ≡ row_of v s
  other-row v ne = elim (cases v) [ inl same ↦ absurd (ne same) | inr other ↦ other ]

  -- all others are as they were
  opens : (v : ℕ) → v ≢ w → (k : Member) → member_of v did.members ≡ Some k → Stays v g.members k × (k.joined ≡ true → is_open g.phase ≡ true)
  opens v ne k found = opened-stays (is_open g.phase) v g.members k (sym (joined-other (held w s) w v open_members ne) ∙ found)

  stays : (v : ℕ) → v ≢ w → (k : Member) → member_of v did.members ≡ Some k → Stays v s.group.members k
  stays v ne k found =
      let old : Stays v g.members k = (opens v ne k found).0 in
      record { old = old.old; there = sym (is.others v ne) ∙ old.there; incarnation = old.incarnation; claim = old.claim; joined = old.joined }

  unplanned : is_open g.phase ≡ true → s.group.phase ≢ Planned
  unplanned opened = open-unplanned s.group.phase (subst (λ (p : Phase). is_open p ≡ true) is.phase opened)

  own-claim : (claim : List Item) → Claims t w claim → AreAmong (held w s) claim
  own-claim claim c =
      let same : joined_with (held w s) open_member.0 ≡ c.member = let e : Some (joined_with (held w s) open_member.0) ≡ Some c.member = sym own ∙ c.there in cc in
      let holds : held w s ≡ claim = ap (λ (k : Member). k.claim) same ∙ c.is_claim in
      subst (λ (l : List Item). AreAmong (held w s) l) holds (λ x there. there)

  held-now : (v : ℕ) (claim : List Item) → Claims t v claim → AreAmong (held v s) claim
  held-now v claim c = elim (same_or_not v w) [
    | inl same ↦ subst (λ (u : ℕ). Claims t u claim → AreAmong (held u s) claim) (sym same) (own-claim claim) c
    | inr ne ↦ stays-held s t v (ap (λ (r : Row). r.incarnation) (other-row v ne)) f.group claim c (stays v ne c.member c.there)
  ]

  assigned-now : (v : ℕ) (claim : List Item) → Claims t v claim → AreAmong (row_of v t).assigned claim
  assigned-now v claim c = elim (same_or_not v w) [
    | inl same ↦ subst (λ (u : ℕ). Claims t u claim → AreAmong (row_of u t).assigned claim) (sym same)
        (λ c. subst (λ (r : Row). AreAmong r.assigned claim) (sym own_row) (own-claim claim c)) c
    | inr ne ↦ subst (λ (r : Row). AreAmong r.assigned claim) (sym (other-row v ne))
        (stays-assigned s t v (ap (λ (r : Row). r.incarnation) (other-row v ne)) f.group claim c (stays v ne c.member c.there))
  ]

  known-now : (v : ℕ) (k : Member) → member_of v did.members ≡ Some k → is_member v t ≡ true
  known-now v k found = elim (same_or_not v w) [
    | inl same ↦ subst (λ (u : ℕ). is_member u t ≡ true) (sym same)
        (subst (λ (r : Row). is_same_incarnation r.incarnation (member_of w did.members) ≡ true) (sym own_row) (knows (member_of w did.members) (joined_with (held w s) open_member.0) own))
    | inr ne ↦ stays-known s t v (ap (λ (r : Row). r.incarnation) (other-row v ne)) f.group k found (stays v ne k found)
  ]

  waiting-now : (v : ℕ) (k : Member) → member_of v did.members ≡ Some k → k.joined ≡ true → (row_of v t).phase ≡ Joining
  waiting-now v k found joined = elim (same_or_not v w) [
    | inl same ↦ subst (λ (u : ℕ). (row_of u t).phase ≡ Joining) (sym same) (ap (λ (r : Row). r.phase) own_row)
    | inr ne ↦
        let old : Stays v s.group.members k = stays v ne k found in
        ap (λ (r : Row). r.phase) (other-row v ne) ∙ f.group.waiting (unplanned ((opens v ne k found).1 joined)) v old.old old.there (old.joined joined)
  ]

  group : GroupFacts (regrouped s t)
  group = record {
    rising = members.rising;
    apart = members.apart;
    held = held-now;
    assigned = assigned-now;
    known = known-now;
    no_repeat = members.no_repeat;
    in_order = λ other. each-joined (held w s) w (λ k. k.joined ≡ true → Rises k) open_members (λ k joined. rises)
        (opened-joined Rises (is_open g.phase) g.members (λ opened. is.rise (f.group.in_order (unplanned opened))));
    all_joined = λ closed. absurd (cc);
    waiting = λ other. waiting-now;
    within = λ planned. absurd (cc);
    once = λ planned. absurd (cc);
    told = λ planned. absurd (cc);
    all_given = λ planned. absurd (cc);
    round = next-round (is_open g.phase) g.round (subst (λ (n : ℕ). n < 2 ^ 64) (sym is.round) f.group.round);
  }

  abbrev Fences : Row → Row → Type 0
  Fences r q = (lead : Epoch) (fencing : Fencing) → q.lead ≡ Some lead → q.fencing ≡ Some fencing → (r.lead ≡ Some lead) × (r.fencing ≡ Some fencing)

  pub join-facts : AreFacts setting t
  join-facts =
      let sound : IsSoundRow s (row_of w s) = sound_at s f.rows w in
      regroup setting s t record {
        count = length-set s.rows w row;
        sound = each-set (IsSoundRow s) s.rows w row record { prefix = sound.prefix; lead = sound.lead; fencing = sound.fencing; round = sound.round } f.rows.rows;
        read = reads-set (λ (r q : Row). r.prefix ≤ q.prefix) s.rows w row no_row (λ r. omega arith) (omega arith);
        fences = reads-set Fences s.rows w row no_row (λ r lead fencing a b. (a, b)) (λ lead fencing a b. (a, b));
      } group f

-- no premise is needed: a worker that isn't a member may hold nothing then, or it is refused
pub join-keeps : (setting : Setting) (w : ℕ) (s : Cluster) → AreFacts setting s → AreFacts setting (join w s).1
join-keeps setting w s f = worker-keeps (AreFacts setting) w s _ f (λ live.
    let g : GroupState = entered w s in
    let before : IsGroup s.group.members = record { rising = f.group.rising; apart = f.group.apart; no_repeat = f.group.no_repeat } in
    let is : IsEntered w s.group g = is-entered (is_member w s) w s.group before in
    group-keeps (AreFacts setting) s (join_row w (incarnation_in w g) (held w s) g) _ f (λ did so.
    let call : Did (member_of w g.members) (join_refusal (incarnation_in w g) (held w s) g.phase) (λ m. ((opened g).round, joins w (held w s) g)) did =
    call-done (member_of w g.members) (join_refusal (incarnation_in w g) (held w s) g.phase) (λ m. ((opened g).round, joins w (held w s) g)) did so in
    subst (λ (did : ℕ × GroupState). AreFacts setting (changes_row w (joining (incarnation_in w did.1) (held w s)) (record s { group = did.1 }))) call.is
    (join-facts setting w s (live-within w s live) g is call.member call.there (join-claims (incarnation_in w g) (held w s) g.phase call.member call.allowed) f)))
