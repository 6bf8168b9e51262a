use Rattle.std.proofs.Common.{◌≡◌, Bool, List, IfOk, map, ap, sym, subst, ◌∙◌}
use Rattle.std.proofs.lemmas.List.{map-id}
use Rattle.cw_types.specs.declared.ids.PartKey.{PartKey}
use Rattle.cw_txn.specs.Transactions.{ArePartsOf}
use Rattle.cw_rest.specs.Offsets.{parts_with_offsets}
use Rattle.cw_rest.specs.Pages as page
use Rattle.cw_reply.specs.declared.placed.Placed.{Placed}
use Rattle.cw_reply.specs.View.{seen_in}
use Rattle.cw_reply.proofs.Listing.{listing}
use Rattle.cw_reply.proofs.offset.parts_seen.Goals as goal

pub returns : goal.returns
returns c =
    let seen = seen_in c.args.seen.now in
    let name = c.args.name.now in
    let are : ArePartsOf name seen.entries c.deref.result.now =
    subst (ArePartsOf name seen.entries) (sym c.deref.ensures.value) c.in_ok-parts.ensures.parts in
    let parts : map (λ (placed : Placed). placed.part) c.in_ok-placed.placed.keys ≡ page.parts_seen name seen =
    ap (map (λ (placed : Placed). placed.part)) c.in_ok-placed.ensures.keys
    ∙ listing c.is_source_of.result name seen.entries c.deref.result.now are c.in_ok-placed.ensures.parts (λ (part : PartKey). part)
    ∙ map-id (parts_with_offsets c.is_source_of.result name seen.entries)
    ∙ ap (λ (is_source : Bool). parts_with_offsets is_source name seen.entries) c.is_source_of.ensures in
    subst (λ (those : List PartKey). IfOk c.parts_in.result (λ parts. parts.items ≡ those)) parts c.parts_in.ensures
