-- The members of a group, in the order of their numbers, and what each may run (Kafka's group membership; KIP-415).
use Rattle.std.specs.Prelude.{◌≡◌, ℕ, ◌<◌, ◌==◌, true, false, not, List, [], ◌∷◌, ◌++◌, map, nat_lt, Option, Some, None}
use Rattle.std.specs.Prelude.{if◌then◌else◌}
use Rattle.std.specs.Bool.{⊤}
use Rattle.std.specs.List.{find, filter, flat_map, AllByRecursion, IsDistinct}
use Rattle.std.specs.Option.{option_map}
use Rattle.cw_types.specs.declared.ids.Item.{Item}
use Rattle.cw_assign.specs.declared.share.Share.{Share}
use Rattle.cw_assign.specs.declared.share.Holder.{Holder}
use Rattle.cw_assign.specs.Items.{same_item, has}
use Rattle.cw_group.specs.declared.member.Member.{Member}

-- a share of nothing
abbrev pub no_share : ℕ → Share
no_share worker = record { worker = worker; kept = []; fresh = []; revoked = [] }

-- a member that has just entered
abbrev pub new_member : ℕ → ℕ → Member
new_member worker incarnation =
    record { worker = worker; incarnation = incarnation; claim = []; joined = false; share = no_share worker }

-- a member when a round opens: it hasn't joined
abbrev pub unjoined : Member → Member
unjoined m = record m { joined = false }

-- a member that has joined: it may run what it says it holds
abbrev pub joined_with : List Item → Member → Member
joined_with held m = record m { claim = held; joined = true }

-- a member with its share of a plan: it may also run what it is newly given
abbrev pub sharing : Member → Share → Member
sharing m share = record m { claim = m.claim ++ share.fresh; share = share }

-- the member with a number
abbrev pub member_of : ℕ → List Member → Option Member
member_of worker members = find (λ m. m.worker == worker) members

-- a member at its place among the others, or in place of the one with its number
abbrev pub with_member : Member → List Member → List Member
with_member member [] = member ∷ []
with_member member (m ∷ members) =
    if nat_lt member.worker m.worker then member ∷ m ∷ members else
    if member.worker == m.worker then member ∷ members else m ∷ with_member member members

-- all but the member with a number
abbrev pub without : ℕ → List Member → List Member
without worker members = filter (λ m. not (m.worker == worker)) members

-- one member changed
abbrev pub with_change : (Member → Member) → ℕ → List Member → List Member
with_change change worker members = map (λ m. if m.worker == worker then change m else m) members

-- the members with their shares
abbrev pub with_shares : List Member → List Share → List Member
with_shares [] shares = []
with_shares (m ∷ members) [] = m ∷ members
with_shares (m ∷ members) (share ∷ shares) = sharing m share ∷ with_shares members shares

-- the lowest member, which leads
abbrev pub lowest_in : List Member → Option ℕ
lowest_in [] = None
lowest_in (m ∷ members) = Some m.worker

-- the lowest member that hasn't joined
abbrev pub lowest_missing_in : List Member → Option ℕ
lowest_missing_in members = option_map (λ m. m.worker) (find (λ m. not m.joined) members)

-- the members with their claims, as a plan takes them
abbrev pub holders_of : List Member → List Holder
holders_of members = map (λ m. record { worker = m.worker; held = m.claim }) members

-- what the members may run
abbrev pub claims_of : List Member → List Item
claims_of members = flat_map (λ m. m.claim) members

-- the numbers rise
abbrev pub AreRising : List Member → Type 0
AreRising [] = ⊤
AreRising (m ∷ members) = AllByRecursion (λ o. m.worker < o.worker) members × AreRising members

-- no claim has an item twice
abbrev pub HaveNoRepeat : List Member → Type 0
HaveNoRepeat members = AllByRecursion (λ m. IsDistinct same_item m.claim) members

-- no item is in the claims of two members
abbrev pub AreApart : List Member → Type 0
AreApart [] = ⊤
AreApart (m ∷ members) = ((x : Item) → has m.claim x ≡ true → has (claims_of members) x ≡ false) × AreApart members
