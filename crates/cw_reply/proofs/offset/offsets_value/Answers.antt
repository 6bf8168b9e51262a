use Rattle.std.proofs.Common.{◌≡◌, [], ◌∷◌, IfOk, List, Bool, map, codes, ap, sym, subst, ◌∙◌}
use Rattle.serde_json.specs.Data.{Data}
use Rattle.serde_json.specs.View.{view}
use Rattle.cw_txn.specs.Transactions.{ArePartsOf}
use Rattle.cw_rest.specs.Offsets.{parts_with_offsets}
use Rattle.cw_rest.specs.Pages as page
use Rattle.cw_reply.specs.declared.placed.Placed.{Placed}
use Rattle.cw_reply.specs.View.{seen_in}
use Rattle.cw_reply.proofs.Listing.{listing}
use Rattle.cw_reply.proofs.offset.offsets_value.Goals as goal

pub returns : goal.returns
returns c =
    let seen = seen_in c.args.seen.now in
    let name = c.args.name.now in
    let are : ArePartsOf name seen.entries c.deref.result.now =
    subst (ArePartsOf name seen.entries) (sym c.deref.ensures.value) c.in_ok-parts.ensures.parts in
    let values : map view c.in_ok-values.values.items ≡ map (page.offset_info seen) (page.parts_seen name seen) =
    c.in_ok-values.ensures ∙ ap (map (λ (placed : Placed). page.offset_info seen placed.part)) c.in_ok-parts-2.ensures.keys
    ∙ listing c.is_source_of.result name seen.entries c.deref.result.now are c.in_ok-parts-2.ensures.parts (page.offset_info seen)
    ∙ ap (λ (is_source : Bool). map (page.offset_info seen) (parts_with_offsets is_source name seen.entries)) c.is_source_of.ensures in
    subst (λ (ds : List Data). IfOk c.list_value.result (λ value. view value ≡ page.object_of ((codes "offsets", page.list_of ds) ∷ []))) values c.list_value.ensures
