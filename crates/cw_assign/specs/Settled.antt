-- When a group has come to rest (KIP-415): the second of two plans takes nothing away, and every item has its member.
use Rattle.std.specs.Prelude.{◌≡◌, ℕ, ◌+◌, ◌≤◌, List, [], ◌++◌, length, map}
use Rattle.std.specs.List.{AllZip, AllByRecursion, IsDistinct, flat_map}
use Rattle.std.specs.List.Sorted.{IsStrictlySortedBy, IsPermutation}
use Rattle.std.specs.Ordering.{nat_cmp}
use Rattle.cw_types.specs.declared.ids.Item.{Item}
use Rattle.cw_types.specs.Order.{item_cmp}
use Rattle.cw_assign.specs.declared.items.Kind.{Kind}
use Rattle.cw_assign.specs.declared.share.Share.{Share}
use Rattle.cw_assign.specs.declared.share.Plan.{Plan}
use Rattle.cw_assign.specs.declared.share.Holder.{Holder}
use Rattle.cw_assign.specs.Items.{same_item, has, of_kind}
use Rattle.cw_assign.specs.Plan.{held_by}

-- what a share leaves a member with
abbrev pub given_by : Share → List Item
given_by share = (share.kept ++ share.fresh)

-- how many items of a class a share leaves a member with
abbrev pub share_load : Kind → Share → ℕ
share_load kind share = length (of_kind kind (given_by share))

-- members that hold what a plan gave them, in any order
abbrev pub HoldWhatWasGiven : List Share → List Holder → Type 0
HoldWhatWasGiven shares members =
    AllZip (λ share member. (member.worker ≡ share.worker) × IsPermutation (given_by share) member.held) shares members

-- members and items as they are planned: the members' numbers rise, nothing is held twice, and the configured items
-- rise
pub record IsReady (members : List Holder) (configured : List Item) : Type 0 where
  pub workers : IsStrictlySortedBy nat_cmp (map (λ member. member.worker) members)
  pub apart : IsDistinct same_item (held_by members)
  pub rising : IsStrictlySortedBy item_cmp configured

-- two members' loads in a class differ by at most one
abbrev pub AreEven : Kind → List Share → Type 0
AreEven kind shares =
    AllByRecursion (λ share. AllByRecursion (λ other. share_load kind share ≤ share_load kind other + 1) shares) shares

-- a plan with which a group has come to rest
pub record IsSettled (configured : List Item) (plan : Plan) : Type 0 where
  -- nothing is given up
  pub nothing_revoked : AllByRecursion (λ share. share.revoked ≡ []) plan.shares
  -- every configured item is kept or fresh at a member, and nothing else is
  pub all_given : (x : Item) → has (flat_map given_by plan.shares) x ≡ has configured x
  -- at one member alone
  pub once : IsDistinct same_item (flat_map given_by plan.shares)
  -- the loads are even in each class
  pub even : (kind : Kind) → AreEven kind plan.shares
