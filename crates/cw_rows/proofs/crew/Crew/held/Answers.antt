use Rattle.std.proofs.Common.{◌≡◌, ℕ, List, get_or, subst, ap, ◌∙◌, map}
use Rattle.std.specs.List.{filter}
use Rattle.std.specs.Result.{IfOk}
use Rattle.cw_types.specs.declared.ids.Item.{Item}
use Rattle.cw_assign.specs.Items.{in_order}
use Rattle.cw_model.specs.declared.instance.Instance.{Instance}
use Rattle.cw_model.specs.Lookups.{is_at, no_instance}
use Rattle.cw_rows.proofs.CrewLemmas.{numbers-within, holds-at, numbers-read}
use Rattle.cw_rows.proofs.crew.Crew.held.Goals as goal

pub items_of-requires : goal.items_of-requires
items_of-requires c =
    let read = numbers-read _ _ _ _ c.self.invariant _ c.self.view_is c.args.w c.requires c.index.result.now c.index.ensures in
    rw (c.deref.ensures.value, c.as_slice.ensures, read) (numbers-within c.args.w c.self.inside.instances.items)

pub returns-clause-items : goal.returns-clause-items
returns-clause-items c =
    let read = numbers-read _ _ _ _ c.self.invariant _ c.self.view_is c.args.w c.requires c.index.result.now c.index.ensures in
    let items : c.in_ok-items.items.items ≡ map (λ i. i.item) (filter (is_at c.args.w) c.self.inside.instances.items) =
    c.in_ok-items.ensures ∙ ap (λ (xs : List Instance). map (λ n. (get_or xs n no_instance).item) c.as_slice.result.now) c.deref.ensures.value ∙
    ap (λ (ns : List ℕ). map (λ n. (get_or c.self.inside.instances.items n no_instance).item) ns) (c.as_slice.ensures ∙ read) ∙
    holds-at c.args.w c.self.inside.instances.items in
    rw (← c.self.view_is) (subst (λ (l : List Item). IfOk c.into_items.result (λ items'. items'.items ≡ l))
    (c.in_ok-set.ensures.items ∙ ap in_order (c.as_slice-2.ensures.value ∙ items)) c.into_items.ensures.items)
