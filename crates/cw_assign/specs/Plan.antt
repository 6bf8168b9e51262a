-- The plan of a round: what each member of the group keeps, gives up and is newly given (KIP-415, incremental
-- cooperative rebalancing with a scheduled delay). A revoked item is nobody's until the next round. The quotas and ties
-- are this project's own.
use Rattle.std.specs.Prelude.{ℕ, ◌+◌, Bool, ◌&&◌, not, List, [], ◌∷◌, ◌++◌, length, take, map, nat_le, if◌then◌else◌}
use Rattle.std.specs.List.{fold, filter, flat_map, list_all}
use Rattle.cw_types.specs.declared.ids.Item.{Item}
use Rattle.cw_assign.specs.declared.items.Kind.{Kind}
use Rattle.cw_assign.specs.declared.items.Kind.TheVariants.{Connectors, Tasks}
use Rattle.cw_assign.specs.declared.share.Share.{Share}
use Rattle.cw_assign.specs.declared.share.Plan.{Plan}
use Rattle.cw_assign.specs.declared.share.Holder.{Holder}
use Rattle.cw_assign.specs.declared.standing.Standing.{Standing}
use Rattle.cw_assign.specs.Items.{has, is_of, of_kind}
use Rattle.cw_assign.specs.Quota.{quota}

-- what a member has of a class when it is planned
pub record Hand : Type 0 where
  pub kept : List Item
  pub fresh : List Item

-- how many items a hand has
abbrev pub load_of : Hand → ℕ
load_of hand = length hand.kept + length hand.fresh

-- the items of a class that are held and configured
abbrev pub own : Kind → (Item → Bool) → List Item → List Item
own kind is_configured held = filter (λ x. is_of kind x && is_configured x) held

-- a member's number, and how many configured items of a class it holds
abbrev pub standing_of : Kind → (Item → Bool) → Holder → Standing
standing_of kind is_configured member =
    record { worker = member.worker; load = length (own kind is_configured member.held) }

-- what a member keeps: the first of its own items up to its quota, or all of them while a delay runs
abbrev pub kept_of : Kind → List Holder → ℕ → (Item → Bool) → Bool → Holder → List Item
kept_of kind members total is_configured running member =
    if running then own kind is_configured member.held else
    take (quota total (map (standing_of kind is_configured) members) (standing_of kind is_configured member))
    (own kind is_configured member.held)

-- whether an item is to be given: nobody holds it, and it isn't lost while a delay runs
abbrev pub is_free : Kind → (Item → Bool) → (Item → Bool) → Bool → Item → Bool
is_free kind is_held is_lost running x = is_of kind x && (not (is_held x) && not (running && is_lost x))

-- an item goes to the hand with the least load, and of several such to the first
abbrev pub give : List Hand → Item → List Hand
give [] x = []
give (hand ∷ hands) x =
    if list_all (λ other. nat_le (load_of hand) (load_of other)) hands
    then record { kept = hand.kept; fresh = hand.fresh ++ x ∷ [] } ∷ hands
    else hand ∷ give hands x

-- a hand with what its member keeps
abbrev pub first_hand : Kind → List Holder → ℕ → (Item → Bool) → Bool → Holder → Hand
first_hand kind members total is_configured running member =
    record { kept = kept_of kind members total is_configured running member; fresh = [] }

-- the hands of a class: what is kept, and then each free item in item order
abbrev pub hands_of : Kind → List Holder → List Item → (Item → Bool) → (Item → Bool) → (Item → Bool) → Bool → List Hand
hands_of kind members configured is_configured is_held is_lost running =
    fold give (map (first_hand kind members (length (of_kind kind configured)) is_configured running) members)
    (filter (is_free kind is_held is_lost running) configured)

-- what the members hold
abbrev pub held_by : List Holder → List Item
held_by members = flat_map (λ member. member.held) members

-- the hands of a class in a plan
abbrev pub class_hands : Kind → List Holder → List Item → List Item → Bool → List Hand
class_hands kind members configured lost running =
    hands_of kind members configured (has configured) (has (held_by members)) (has lost) running

-- a member's share, of its hands of both classes: it gives up what it holds and doesn't keep
abbrev pub share_of : Holder → Hand → Hand → Share
share_of member connectors tasks = record {
  worker = member.worker;
  kept = connectors.kept ++ tasks.kept;
  fresh = connectors.fresh ++ tasks.fresh;
  revoked = filter (λ x. not (has (connectors.kept ++ tasks.kept) x)) member.held;
}

-- the shares of members, in their order
abbrev pub shares_of : List Holder → List Hand → List Hand → List Share
shares_of (member ∷ members) (c ∷ connectors) (t ∷ tasks) = share_of member c t ∷ shares_of members connectors tasks
shares_of _ _ _ = []

-- the plan
abbrev pub plan_of : List Holder → List Item → List Item → Bool → Plan
plan_of members configured lost running = record {
  shares = shares_of members (class_hands Connectors members configured lost running)
      (class_hands Tasks members configured lost running);
}
