use Rattle.std.proofs.Common.{◌≡◌, ◌&&◌, Bool, true, ℕ, List, Option, None, is_some, slice_get, sym, ap, subst, ◌∙◌, if◌then◌else◌}
use Rattle.std.specs.List.{find, filter_map}
use Rattle.std.specs.Result.{IfOk}
use Rattle.cw_config.specs.declared.records.ConfigRecord.{ConfigRecord}
use Rattle.cw_config.specs.View.{is_pending}
use Rattle.cw_model.specs.declared.row.Row.{Row}
use Rattle.cw_model.specs.Lookups.{row_of, seen, configured_items}
use Rattle.cw_model.specs.Ready.{connector_in, is_stable, pending_connectors}
use Rattle.cw_model.specs.TickRules.{fence_applies}
use Rattle.cw_types.specs.declared.ids.Item.{Item}
use Rattle.cw_ticks.proofs.Lists.{first-filtered}
use Rattle.cw_ticks.proofs.fences.fence_applies.Goals as goal

pub returns-then-may_fence : goal.returns-then-may_fence
returns-then-may_fence c =
    let s = c.args.cluster.now.state in
    let w = c.args.w in
    let may : (is_some (row_of w s).lead && is_stable (row_of w s).phase) ≡ true =
    ap (λ (r : Row). is_some r.lead && is_stable r.phase) (sym c.row_of.ensures) ∙ sym c.may_fence.ensures ∙ c.if-may_fence.true in
    let found : find (λ name. is_pending name c.config_of-read.result.now) (filter_map connector_in c.as_slice.result.now) ≡ fence_applies w s =
    ap (λ (l : List Item). find (λ name. is_pending name c.config_of-read.result.now) (filter_map connector_in l)) (c.as_slice.ensures.value ∙ c.in_ok-items.ensures.items) ∙
    ap (λ (r : List ConfigRecord). find (λ name. is_pending name r) (filter_map connector_in (configured_items r))) c.config_of-read.ensures ∙
    sym (first-filtered (λ name. is_pending name (seen w s)) (filter_map connector_in (configured_items (seen w s)))) ∙
    ap (λ (b : Bool). if b then slice_get (pending_connectors w s) 0 else None) (sym may) in
    subst (λ (o : Option (List ℕ)). IfOk c.first_pending.result (λ f. f ≡ o)) found c.first_pending.ensures
