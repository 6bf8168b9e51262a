-- The facts of the group and of the workers' rows by which members run nothing in common, whatever happens next
-- (KIP-415). They are this project's own.
use Rattle.std.specs.Prelude.{◌≡◌, ◌≢◌, ℕ, ◌<◌, ◌^◌, true, List, Some, ◌++◌}
use Rattle.std.specs.List.{flat_map, AllByRecursion, IsDistinct}
use Rattle.std.specs.List.Sorted.{IsStrictlySortedBy}
use Rattle.cw_types.specs.Order.{item_cmp}
use Rattle.cw_types.specs.declared.ids.Item.{Item}
use Rattle.cw_assign.specs.declared.delay.Delay.TheVariants.{Idle}
use Rattle.cw_assign.specs.declared.share.Share.{Share}
use Rattle.cw_assign.specs.Items.{has, same_item}
use Rattle.cw_group.specs.declared.answers.Phase.TheVariants.{Closed, Planned}
use Rattle.cw_group.specs.declared.member.Member.{Member}
use Rattle.cw_group.specs.Members.{member_of, lowest_in, AreRising, AreApart}
use Rattle.cw_group.specs.Group.{synced}
use Rattle.cw_model.specs.declared.row.RowPhase.TheVariants.{Joining, Stable}
use Rattle.cw_model.specs.State.{Cluster}
use Rattle.cw_model.specs.Lookups.{row_of, is_member, held}

-- each of these items is one of those
abbrev pub AreAmong : List Item → List Item → Type 0
AreAmong items others = (x : Item) → has items x ≡ true → has others x ≡ true

-- a worker is a member, which may run this claim
pub record Claims (s : Cluster) (w : ℕ) (claim : List Item) : Type 0 where
  pub member : Member
  pub there : member_of w s.group.members ≡ Some member
  pub current : is_member w s ≡ true
  pub is_claim : member.claim ≡ claim

-- all that a share of a plan keeps, newly gives and takes away
abbrev pub share_items : Share → List Item
share_items share = (share.kept ++ share.fresh) ++ share.revoked

-- the same of all members
abbrev pub shared_items : List Member → List Item
shared_items members = flat_map (λ m. share_items m.share) members

-- what a member keeps and is newly given it may run, and that is planned
pub record IsWithinPlan (items : List Item) (m : Member) : Type 0 where
  pub claimed : AreAmong (m.share.kept ++ m.share.fresh) m.claim
  pub planned : AreAmong (m.share.kept ++ m.share.fresh) items

-- a row says what the group told its worker of the round
pub record IsAsTold (s : Cluster) (w leader : ℕ) : Type 0 where
  pub member : Member
  pub there : member_of w s.group.members ≡ Some member
  pub lowest : lowest_in s.group.members ≡ Some leader
  pub assigned : (row_of w s).assigned ≡ (synced w s.group member).assigned
  pub revoked : (row_of w s).revoked ≡ (synced w s.group member).revoked

-- the facts of the group, and of what the rows say of it
pub record GroupFacts (s : Cluster) : Type 0 where
  -- the members stand in order, each once, so that each has one claim
  pub rising : AreRising s.group.members
  -- claims are apart: with the next field two members hold nothing in common
  pub apart : AreApart s.group.members
  -- a current member holds nothing outside its claim
  pub held : (w : ℕ) (claim : List Item) → Claims s w claim → AreAmong (held w s) claim
  -- nor is it to run anything outside it, so that what it starts is its own
  pub assigned : (w : ℕ) (claim : List Item) → Claims s w claim → AreAmong (row_of w s).assigned claim
  -- the group has no member that its worker doesn't know to be: each claim is one of a worker that may use it
  pub known : (w : ℕ) (member : Member) → member_of w s.group.members ≡ Some member → is_member w s ≡ true
  -- no claim has a repeat: `store_plan` needs it, since a plan that keeps one of two gives the other up
  pub no_repeat : AllByRecursion (λ m. IsDistinct same_item m.claim) s.group.members
  -- until the round is planned, who has joined claims in item order, as `join` has it: `store_plan` needs it, since
  -- plans are made of such claims. A plan adds what it newly gives at a claim's end
  pub in_order : s.group.phase ≢ Planned → AllByRecursion
      (λ m. m.joined ≡ true → IsStrictlySortedBy item_cmp m.claim) s.group.members
  -- all have joined a round that is closed: `store_plan` needs it, since it plans for all
  pub all_joined : s.group.phase ≡ Closed → AllByRecursion (λ m. m.joined ≡ true) s.group.members
  -- a member that has joined a round waits for its assignment until that is planned: `store_plan` needs it, so that a
  -- row that has one was told of this plan
  pub waiting : s.group.phase ≢ Planned → (w : ℕ) (member : Member) → member_of w s.group.members ≡ Some member →
      member.joined ≡ true →
      (row_of w s).phase ≡ Joining
  -- a plan gives members what they may run and what is configured: what a worker is told, it may start
  pub within : s.group.phase ≡ Planned → AllByRecursion (IsWithinPlan s.group.planned) s.group.members
  -- a plan gives an item to one member alone, and to nobody what another is still to give up
  pub once : s.group.phase ≡ Planned → IsDistinct same_item (shared_items s.group.members)
  -- a worker that was told of this round's plan runs by it, and knows who leads
  pub told : s.group.phase ≡ Planned → (w leader : ℕ) → is_member w s ≡ true →
      (row_of w s).phase ≡ Stable s.group.round leader → IsAsTold s w leader
  -- a plan forgets nothing, unless a departed member's return is waited for: once all is quiet, everything runs
  pub all_given : s.group.phase ≡ Planned → s.delay ≡ Idle → AreAmong s.group.planned (shared_items s.group.members)
  -- the round's number is one that a status can tell: `sync` needs it, which writes it to a row
  pub round : s.group.round < 2 ^ 64
