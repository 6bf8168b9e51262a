use Rattle.std.proofs.Common.{◌≡◌, ◌&&◌, ℕ, ◌<◌, List, length, map, Option, slice_get, sym, ap, subst, ◌∙◌}
use Rattle.std.specs.List.{filter, AllByRecursion}
use Rattle.std.specs.Result.{IfOk}
use Rattle.cw_assign.specs.Items.{in_order}
use Rattle.cw_model.specs.Lookups.{is_at, instance_of, no_instance}
use Rattle.cw_rows.proofs.CrewLemmas.{numbers-within}
use Rattle.cw_types.specs.declared.ids.Item.{Item}
use Rattle.cw_ticks.specs.Running.{to_stop}
use Rattle.cw_ticks.proofs.Lists.{reads-second}
use Rattle.cw_ticks.proofs.stopping.first_item.Goals as goal

pub items_to_stop-requires-clause-within : goal.items_to_stop-requires-clause-within
items_to_stop-requires-clause-within c =
    let s = c.args.cluster.now.state in
    subst (λ (ns : List ℕ). AllByRecursion (λ n. n < length s.instances) ns) (sym c.requires.running) (numbers-within c.args.w s.instances)

pub returns : goal.returns
returns c =
    let s = c.args.cluster.now.state in
    let w = c.args.w in
    let items : c.as_slice-2.result.now ≡ map (λ i. i.item) (filter (λ i. is_at w i && to_stop c.args.all w s i) s.instances) =
    c.as_slice-2.ensures.value ∙ c.in_ok-items.ensures ∙
    ap (λ (ns : List ℕ). map (λ n. (instance_of n s).item) (filter (λ n. to_stop c.args.all w s (instance_of n s)) ns)) c.requires.running ∙
    reads-second (is_at w) (to_stop c.args.all w s) no_instance s.instances (λ i. i.item) in
    subst (λ (o : Option Item). IfOk c.first_of.result (λ f. f ≡ o))
    (ap (λ (l : List Item). slice_get l 0) (c.as_slice-3.ensures.value ∙ c.in_ok-ordered.ensures.items ∙ c.in_ok-set.ensures.items ∙ ap in_order items))
    c.first_of.ensures
