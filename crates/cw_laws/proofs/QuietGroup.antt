-- In a calm cluster the round is planned, each member has its assignment, and each configured item has one member.
use Rattle.std.proofs.Common.{◌≡◌, ◌≢◌, ◌⊎◌, inl, inr, ℕ, ◌+◌, ◌==◌, ◌≤◌, Bool, true, false, not, ◌&&◌, ◌||◌, cond, List, [], ◌∷◌, ◌++◌, length, nat_lt, Option, Some, option_map, refl, sym, ap, ◌∙◌, subst, arith}
use Rattle.std.proofs.lemmas.Bool.{or_cases, or_parts, not-false}
use Rattle.std.specs.Option.{is_none, option_map_or}
use Rattle.std.specs.List.{AllByRecursion, find, IsDistinct}
use Rattle.std.proofs.lemmas.List.{take_all}
use Rattle.std.proofs.lemmas.Bool.Decides.{Decides-eqb, nat_tests}
use Rattle.std.proofs.lemmas.Slice.Eq.{slice_eq-Decides}
use Rattle.cw_types.specs.declared.ids.Item.{Item}
use Rattle.cw_config.specs.declared.records.ConfigRecord.{ConfigRecord}
use Rattle.cw_assign.specs.Items.{has, same_item}
use Rattle.cw_assign.proofs.Counts.{count-append, once}
use Rattle.cw_assign.proofs.ItemLemmas.{same_item-Decides}
use Rattle.cw_group.specs.declared.member.Member.{Member}
use Rattle.cw_group.specs.declared.answers.Phase.{Phase}
use Rattle.cw_group.specs.declared.answers.Phase.TheVariants.{Open, Closed, Planned}
use Rattle.cw_group.specs.Phases.{is_open, is_closed}
use Rattle.cw_group.specs.Members.{member_of, lowest_missing_in, AreRising}
use Rattle.cw_group.proofs.GroupLemmas.{has-append}
use Rattle.cw_model.specs.declared.row.RowPhase.{RowPhase}
use Rattle.cw_model.specs.declared.row.RowPhase.TheVariants.{Out, Joining, Stable}
use Rattle.cw_model.specs.State.{Setting, Cluster}
use Rattle.cw_model.specs.Lookups.{row_of, seen, is_member, configured_items}
use Rattle.cw_model.specs.EventsLeading.{leads}
use Rattle.cw_model.specs.FactsGroup.{AreAmong, IsWithinPlan, IsAsTold, share_items, shared_items}
use Rattle.cw_model.specs.Ready.{is_stable_in}
use Rattle.cw_model.specs.TickRules.{is_planned, is_lowest, is_settled, is_to_plan, same_items, has_not_joined, close_applies, plan_applies, sync_applies}
use Rattle.cw_laws.specs.QuietLaws.{IsCalm, HasItsAssignment, IsSettledGroup, IsAssignedOnce, IsAssigned}
use Rattle.cw_laws.proofs.Held.{has-in_order}
use Rattle.cw_laws.proofs.Members.{same_itself, same_or_not}
use Rattle.cw_laws.proofs.Shares.{times, has-times}
use Rattle.cw_laws.proofs.Sync.{each-member}
use Rattle.cw_laws.proofs.Staying.{IsThere, member-there}
use Rattle.cw_laws.proofs.QuietRules.{NoRule, IsLowest, behind-found, first-found, each-found, group_facts, member-rule, member-join, calm-lowest, lowest-member}
use Rattle.cw_laws.proofs.Tests.{not-second, all-three}
use Rattle.cw_group.specs.Circle.{is_due}

-- ---- the round is planned

joined-now : (phase : Phase) (members : List Member) (v : ℕ) (m : Member) → phase ≡ Open → member_of v members ≡ Some m →
    (is_open phase && has_not_joined (member_of v members)) ≡ false → m.joined ≡ true
joined-now phase members v m opened found none =
    let missing : has_not_joined (member_of v members) ≡ false = not-second (is_open phase) (has_not_joined (member_of v members)) none (ap is_open opened) in
    not-false m.joined (sym (ap has_not_joined found) ∙ missing)

none-missing : (members : List Member) → AllByRecursion (λ m. m.joined ≡ true) members → is_none (lowest_missing_in members) ≡ true
none-missing [] all = refl
none-missing (m ∷ members) all =
    ap (λ (b : Bool). is_none (option_map (λ (k : Member). k.worker) (cond (not b) (Some m) (find (λ k. not k.joined) members)))) all.0 ∙ none-missing members all.1

module _ (setting : Setting) (s : Cluster) (c : IsCalm setting s) where
  abbrev lowest : IsLowest s.group.members
  lowest = calm-lowest setting s c

  leads-lowest : is_lowest lowest.leader s ≡ true
  leads-lowest = ap (λ (o : Option ℕ). option_map_or (λ n. n == lowest.leader) o false) lowest.lowest ∙ same_itself lowest.leader

  leader-rule : NoRule lowest.leader s
  leader-rule = member-rule setting s c lowest.leader (lowest-member setting s c)

  not-open : s.group.phase ≡ Open → ⊥
  not-open opened =
      let all : AllByRecursion (λ m. m.joined ≡ true) s.group.members = each-found (λ m. m.joined ≡ true) s.group.members (group_facts setting s c).rising
      (λ v m found. joined-now s.group.phase s.group.members v m opened found (member-join setting s c v ((group_facts setting s c).known v m found)).joined) in
      let applies : close_applies lowest.leader s ≡ true = all-three (is_open s.group.phase) (is_lowest lowest.leader s) (is_none (lowest_missing_in s.group.members))
      (ap is_open opened) leads-lowest (none-missing s.group.members all) in
      let none : close_applies lowest.leader s ≡ false = leader-rule.close in
      let clash : true ≡ false = sym applies ∙ none in cc

  not-closed : s.group.phase ≡ Closed → ⊥
  not-closed closed =
      let applies : plan_applies lowest.leader s ≡ true = ap (λ (p : Phase). is_closed p && is_lowest lowest.leader s) closed ∙ leads-lowest in
      let none : plan_applies lowest.leader s ≡ false = leader-rule.plan in
      let clash : true ≡ false = sym applies ∙ none in cc

  pick-planned : (phase : Phase) → s.group.phase ≡ phase → s.group.phase ≡ Planned
  pick-planned Open is = absurd (not-open is)
  pick-planned Closed is = absurd (not-closed is)
  pick-planned Planned is = is

  pub is-planned : s.group.phase ≡ Planned
  is-planned = pick-planned s.group.phase refl

-- ---- each member has its assignment

stable-in : (round : ℕ) (phase : RowPhase) → is_stable_in round phase ≡ true → (leader : ℕ) × (phase ≡ Stable round leader)
stable-in round Out is = absurd (cc)
stable-in round Joining is = absurd (cc)
stable-in round (Stable own leader) is = (leader, ap (λ (n : ℕ). Stable n leader) ((Decides-eqb own round).0 is))

empty : (items : List Item) → (length items == 0) ≡ true → items ≡ []
empty [] is = refl
empty (x ∷ items) is = absurd (let e : length (x ∷ items) ≡ 0 = (Decides-eqb (length (x ∷ items)) 0).0 is in omega (arith, e))

module _ (setting : Setting) (s : Cluster) (c : IsCalm setting s) where
  planned-true : is_planned s.group.phase ≡ true
  planned-true = ap is_planned (is-planned setting s c)

  pub member-stable : (w : ℕ) → is_member w s ≡ true → is_stable_in s.group.round (row_of w s).phase ≡ true
  member-stable w current =
      let none : sync_applies w s ≡ false = (member-rule setting s c w current).sync in
      not-false (is_stable_in s.group.round (row_of w s).phase)
      (not-second (is_planned s.group.phase && is_member w s) (not (is_stable_in s.group.round (row_of w s).phase)) none
      (ap (λ (b : Bool). b && is_member w s) planned-true ∙ current))

  settled : (w : ℕ) → is_member w s ≡ true → is_settled w s ≡ true
  settled w current = ap (λ (b : Bool). b && is_stable_in s.group.round (row_of w s).phase) planned-true ∙ member-stable w current

  pub has-assignment : (w : ℕ) → is_member w s ≡ true → HasItsAssignment s w
  has-assignment w current =
      let stable : (leader : ℕ) × ((row_of w s).phase ≡ Stable s.group.round leader) = stable-in s.group.round (row_of w s).phase (member-stable w current) in
      let none : not (length (row_of w s).revoked == 0) ≡ false = not-second (is_settled w s) (not (length (row_of w s).revoked == 0)) (member-join setting s c w current).nothing_revoked (settled w current) in
      record { leader = stable.0; stable = stable.1; nothing_revoked = empty (row_of w s).revoked (not-false (length (row_of w s).revoked == 0) none) }

  -- the first law
  pub quiet-settled : IsSettledGroup s
  quiet-settled = record { planned = is-planned setting s c; members = has-assignment }

  -- a member was told by the plan
  pub member-told : (w : ℕ) (current : is_member w s ≡ true) → IsAsTold s w (has-assignment w current).leader
  member-told w current = (group_facts setting s c).told (is-planned setting s c) w (has-assignment w current).leader current (has-assignment w current).stable

  -- all have one leader
  pub one-leader : (w : ℕ) (current : is_member w s ≡ true) → (has-assignment w current).leader ≡ (calm-lowest setting s c).leader
  one-leader w current =
      let both : Some (has-assignment w current).leader ≡ Some (calm-lowest setting s c).leader = sym (member-told w current).lowest ∙ (calm-lowest setting s c).lowest in cc

  pub member-leads : (w : ℕ) → is_member w s ≡ true → (row_of w s).phase ≡ Stable s.group.round (calm-lowest setting s c).leader
  member-leads w current = (has-assignment w current).stable ∙ ap (λ (n : ℕ). Stable s.group.round n) (one-leader w current)

-- ---- each configured item has one member

-- a member whose share has an item
pub record HasShareOf (members : List Member) (x : Item) : Type 0 where
  pub number : ℕ
  pub member : Member
  pub there : member_of number members ≡ Some member
  pub shares : has (share_items member.share) x ≡ true

in-a-share : (x : Item) (members : List Member) → AreRising members → has (shared_items members) x ≡ true → HasShareOf members x
in-a-share x [] rising is = absurd (cc)
in-a-share x (o ∷ members) rising is =
    pick (or_cases (has (share_items o.share) x) (has (shared_items members) x) (sym (has-append (share_items o.share) (shared_items members) x) ∙ is)) (in-a-share x members rising.1) where
      pick : (has (share_items o.share) x ≡ true) ⊎ (has (shared_items members) x ≡ true) → (has (shared_items members) x ≡ true → HasShareOf members x) → HasShareOf (o ∷ members) x
      pick (inl here) rest = record { number = o.worker; member = o; there = first-found o members; shares = here }
      pick (inr there) rest =
          let found : HasShareOf members x = rest there in
          record { number = found.number; member = found.member; there = behind-found found.number o members found.member rising found.there; shares = found.shares }

one-time : (x : Item) (v : ℕ) (members : List Member) (m : Member) → member_of v members ≡ Some m → times x (share_items m.share) ≤ times x (shared_items members)
one-time x v [] m found = absurd (cc)
one-time x v (o ∷ members) m found = pick (o.worker == v) found (one-time x v members m) where
  all : times x (shared_items (o ∷ members)) ≡ times x (share_items o.share) + times x (shared_items members)
  all = count-append (λ y. same_item x y) (share_items o.share) (shared_items members)

  pick : (b : Bool) → cond b (Some o) (member_of v members) ≡ Some m → (member_of v members ≡ Some m → times x (share_items m.share) ≤ times x (shared_items members)) →
      times x (share_items m.share) ≤ times x (shared_items (o ∷ members))
  pick true found rest =
      let same : o ≡ m = cc in
      let own : times x (share_items o.share) ≡ times x (share_items m.share) = ap (λ (k : Member). times x (share_items k.share)) same in
      omega (arith, all, own)
  pick false found rest = omega (arith, all, rest found)

two-times : (x : Item) (v w : ℕ) → v ≢ w → (members : List Member) (m k : Member) → member_of v members ≡ Some m → member_of w members ≡ Some k →
    times x (share_items m.share) + times x (share_items k.share) ≤ times x (shared_items members)
two-times x v w ne [] m k a b = absurd (cc)
two-times x v w ne (o ∷ members) m k a b = pick (o.worker == v) (o.worker == w) refl refl a b (two-times x v w ne members m k) where
  all : times x (shared_items (o ∷ members)) ≡ times x (share_items o.share) + times x (shared_items members)
  all = count-append (λ y. same_item x y) (share_items o.share) (shared_items members)

  own : (n : Member) → o ≡ n → times x (share_items o.share) ≡ times x (share_items n.share)
  own n same = ap (λ (k : Member). times x (share_items k.share)) same

  pick : (p q : Bool) → (o.worker == v) ≡ p → (o.worker == w) ≡ q → cond p (Some o) (member_of v members) ≡ Some m → cond q (Some o) (member_of w members) ≡ Some k →
      (member_of v members ≡ Some m → member_of w members ≡ Some k → times x (share_items m.share) + times x (share_items k.share) ≤ times x (shared_items members)) →
      times x (share_items m.share) + times x (share_items k.share) ≤ times x (shared_items (o ∷ members))
  pick true true first second a b rest = absurd (ne (sym ((Decides-eqb o.worker v).0 first) ∙ (Decides-eqb o.worker w).0 second))
  pick true false first second a b rest = let same : o ≡ m = cc in omega (arith, all, own m same, one-time x w members k b)
  pick false true first second a b rest = let same : o ≡ k = cc in omega (arith, all, own k same, one-time x v members m a)
  pick false false first second a b rest = omega (arith, all, rest a b)

one-share : (x : Item) (v w : ℕ) (members : List Member) (m k : Member) → IsDistinct same_item (shared_items members) → member_of v members ≡ Some m → member_of w members ≡ Some k →
    has (share_items m.share) x ≡ true → has (share_items k.share) x ≡ true → v ≡ w
one-share x v w members m k distinct a b holds holds' = elim (same_or_not v w) [
  | inl same ↦ same
  | inr ne ↦ absurd (omega (arith, two-times x v w ne members m k a b, once x (shared_items members) distinct, has-times x (share_items m.share) holds, has-times x (share_items k.share) holds'))
]

-- what a leader has read is all that there is
pub seen-all : (w : ℕ) (s : Cluster) → nat_lt (row_of w s).prefix (length s.configs) ≡ false → seen w s ≡ s.configs
seen-all w s none = take_all (row_of w s).prefix s.configs (enough (row_of w s).prefix (length s.configs) none) where
  enough : (a b : ℕ) → nat_lt a b ≡ false → b ≤ a
  enough a b is = grind (arith, nat_tests)

module _ (setting : Setting) (s : Cluster) (c : IsCalm setting s) where
  pub member-seen : (w : ℕ) → is_member w s ≡ true → seen w s ≡ s.configs
  member-seen w current = seen-all w s (member-rule setting s c w current).read

  abbrev leader : ℕ
  leader = (calm-lowest setting s c).leader

  leader-current : is_member leader s ≡ true
  leader-current = lowest-member setting s c

  planned-items : configured_items s.configs ≡ s.group.planned
  planned-items =
      let leads-it : leads leader (row_of leader s).phase ≡ true = ap (leads leader) (member-leads setting s c leader leader-current) ∙ same_itself leader in
      let not-anew : is_to_plan leader s ≡ false = not-second (is_settled leader s) (is_to_plan leader s) (member-join setting s c leader leader-current).as_planned (settled setting s c leader leader-current) in
      let as-planned : (not (same_items (configured_items (seen leader s)) s.group.planned) || is_due s.moment s.delay) ≡ false =
      not-second (leads leader (row_of leader s).phase) (not (same_items (configured_items (seen leader s)) s.group.planned) || is_due s.moment s.delay) not-anew leads-it in
      let same : same_items (configured_items (seen leader s)) s.group.planned ≡ true =
      not-false (same_items (configured_items (seen leader s)) s.group.planned) (or_parts (not (same_items (configured_items (seen leader s)) s.group.planned)) (is_due s.moment s.delay) as-planned).0 in
      ap (λ (records : List ConfigRecord). configured_items records) (sym (member-seen leader leader-current))
      ∙ (slice_eq-Decides same_item-Decides (configured_items (seen leader s)) s.group.planned (same_items (configured_items (seen leader s)) s.group.planned) refl).0 same

  -- what a member is assigned is what its share keeps and newly gives
  assigned-share : (w : ℕ) (m : Member) (current : is_member w s ≡ true) → member_of w s.group.members ≡ Some m → (x : Item) → has (row_of w s).assigned x ≡ has (m.share.kept ++ m.share.fresh) x
  assigned-share w m current found x =
      let told : IsAsTold s w (has-assignment setting s c w current).leader = member-told setting s c w current in
      let same : told.member ≡ m = let e : Some told.member ≡ Some m = sym told.there ∙ found in cc in
      ap (λ (items : List Item). has items x) told.assigned
      ∙ has-in_order x (told.member.share.kept ++ told.member.share.fresh)
      ∙ ap (λ (k : Member). has (k.share.kept ++ k.share.fresh) x) same

  -- and that is all of its share
  whole-share : (w : ℕ) (m : Member) (current : is_member w s ≡ true) → member_of w s.group.members ≡ Some m → (x : Item) → has (row_of w s).assigned x ≡ has (share_items m.share) x
  whole-share w m current found x =
      let told : IsAsTold s w (has-assignment setting s c w current).leader = member-told setting s c w current in
      let same : told.member ≡ m = let e : Some told.member ≡ Some m = sym told.there ∙ found in cc in
      let none : m.share.revoked ≡ [] = ap (λ (k : Member). k.share.revoked) (sym same) ∙ sym told.revoked ∙ (has-assignment setting s c w current).nothing_revoked in
      assigned-share w m current found x ∙ sym (has-append (m.share.kept ++ m.share.fresh) m.share.revoked x
      ∙ ap (λ (items : List Item). has (m.share.kept ++ m.share.fresh) x || has items x) none ∙ or-none (has (m.share.kept ++ m.share.fresh) x)) where
        or-none : (b : Bool) → (b || false) ≡ b
        or-none true = refl
        or-none false = refl

  assigned-once : (x : Item) → has (configured_items s.configs) x ≡ true → IsAssignedOnce s x
  assigned-once x configured =
      let shared : has (shared_items s.group.members) x ≡ true =
      (group_facts setting s c).all_given (is-planned setting s c) c.no_delay x (subst (λ (items : List Item). has items x ≡ true) planned-items configured) in
      let found : HasShareOf s.group.members x = in-a-share x s.group.members (group_facts setting s c).rising shared in
      let current : is_member found.number s ≡ true = (group_facts setting s c).known found.number found.member found.there in
      record {
        worker = found.number;
        member = current;
        assigned = whole-share found.number found.member current found.there x ∙ found.shares;
        only = λ other other-current assigned.
            let there : IsThere other s.group.members = member-there other s other-current in
            one-share x other found.number s.group.members there.member found.member ((group_facts setting s c).once (is-planned setting s c)) there.there found.there
            (sym (whole-share other there.member other-current there.there x) ∙ assigned) found.shares;
      }

  assigned-planned : (w : ℕ) → is_member w s ≡ true → AreAmong (row_of w s).assigned (configured_items s.configs)
  assigned-planned w current x assigned =
      let there : IsThere w s.group.members = member-there w s current in
      let within : IsWithinPlan s.group.planned there.member = each-member (IsWithinPlan s.group.planned) w s.group.members there.member there.there ((group_facts setting s c).within (is-planned setting s c)) in
      subst (λ (items : List Item). has items x ≡ true) (sym planned-items) (within.planned x (sym (assigned-share w there.member current there.there x) ∙ assigned))

  -- the second law
  pub quiet-assigned : IsAssigned s
  quiet-assigned = record { planned = sym planned-items; once = assigned-once; only = assigned-planned }
