-- When a plan may be handed out (KIP-415): each member keeps its part, gives up the rest, and nobody is given what a
-- member still holds.
use Rattle.std.specs.Prelude.{◌≡◌, Bool, true, false, ◌&&◌, not, List, length, map}
use Rattle.std.specs.List.{AllZip, IsDistinct, filter, flat_map}
use Rattle.cw_types.specs.declared.ids.Item.{Item}
use Rattle.cw_assign.specs.declared.items.Kind.{Kind}
use Rattle.cw_assign.specs.declared.share.Share.{Share}
use Rattle.cw_assign.specs.declared.share.Plan.{Plan}
use Rattle.cw_assign.specs.declared.share.Holder.{Holder}
use Rattle.cw_assign.specs.Items.{same_item, has, of_kind}
use Rattle.cw_assign.specs.Plan.{kept_of, held_by}

-- what shares newly give, one share behind the other
abbrev pub fresh_in : List Share → List Item
fresh_in shares = flat_map (λ share. share.fresh) shares

-- of a class a member's share keeps what its quota allows, or all that is configured while a delay runs
abbrev pub KeepsItsPart : List Holder → List Item → Bool → Kind → Holder → Share → Type 0
KeepsItsPart members configured running kind member share =
    of_kind kind share.kept ≡ kept_of kind members (length (of_kind kind configured)) (has configured) running member

-- a member's share gives up what it holds and doesn't keep
abbrev pub GivesUpTheRest : Holder → Share → Type 0
GivesUpTheRest member share = share.revoked ≡ filter (λ x. not (has share.kept x)) member.held

-- whether an item is to be given: it is configured, held by nobody, and not lost while a delay runs
abbrev pub is_due : List Holder → List Item → List Item → Bool → Item → Bool
is_due members configured lost running x =
    has configured x && (not (has (held_by members) x) && not (running && has lost x))

-- a plan is valid for members with what they hold, configured and lost items, and whether a delay runs
pub record IsValid (members : List Holder) (configured lost : List Item) (running : Bool) (plan : Plan) : Type 0 where
  -- each member has a share, in their order
  pub workers : map (λ share. share.worker) plan.shares ≡ map (λ member. member.worker) members
  -- of each class it keeps its part
  pub kept : (kind : Kind) → AllZip (KeepsItsPart members configured running kind) members plan.shares
  -- it gives up the rest of what it holds
  pub revoked : AllZip GivesUpTheRest members plan.shares
  -- no fresh item is held by anybody
  pub unheld : (x : Item) → has (fresh_in plan.shares) x ≡ true → has (held_by members) x ≡ false
  -- no item is given twice
  pub apart : IsDistinct same_item (fresh_in plan.shares)
  -- what is due is given, and nothing else
  pub given : (x : Item) → has (fresh_in plan.shares) x ≡ is_due members configured lost running x
