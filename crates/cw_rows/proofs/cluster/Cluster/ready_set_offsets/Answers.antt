use Rattle.std.proofs.Common.{unwrap_or, refl, sym, ◌∙◌, ap}
use Rattle.std.proofs.lemmas.Result.{err_from_is_err_and}
use Rattle.cw_types.specs.declared.ids.Epoch.{Epoch}
use Rattle.cw_config.specs.View.{fenced_count_of}
use Rattle.cw_rest.specs.Operations.{offset_entries}
use Rattle.cw_model.specs.declared.row.Row.{Row}
use Rattle.cw_model.specs.Lookups.{row_of}
use Rattle.cw_rows.specs.Kept.{Kept}
use Rattle.cw_rows.proofs.Halves.{set_offsets-readies, set_offsets-refuses}
use Rattle.cw_rows.proofs.cluster.Cluster.ready_set_offsets.Goals as goal

pub returns-in_err-test_leader-clause-due : goal.returns-in_err-test_leader-clause-due
returns-in_err-test_leader-clause-due c =
    let p = err_from_is_err_and c.from_residual.result c.from_residual.ensures.1 in
    let behind = c.in_err-test_leader.ensures.err c.in_err-test_leader.field-0.0 refl in
    rw (p.1, p.2) (set_offsets-refuses c.args.w c.args.name.now c.args.list.now c.args.self.now _ (ap (λ (k : Kept). k.setting) behind)
    c.in_err-test_leader.field-0.0 (sym c.in_err-test_leader.ensures.tested) (ap (λ (k : Kept). k.state) behind))

pub returns-clause-due : goal.returns-clause-due
returns-clause-due c =
    let same = c.self.view_is ∙ c.in_ok-test_leader.ensures.ok in
    rw (c.ready_offsets.ensures.same) (set_offsets-readies c.args.w c.args.name.now c.args.list.now c.args.self.now _ (ap (λ (k : Kept). k.setting) same) c.in-Ok.frame
    (sym c.in_ok-test_leader.ensures.tested)
    (c.in-Ok.ensures.frame ∙
    ap (λ (e : Epoch). offset_entries c.args.name.now (fenced_count_of c.args.name.now c.self.inside.topics.configs) e c.args.list.now)
    (c.unwrap_or-epoch.ensures ∙ ap (λ (r : Row). unwrap_or r.lead (record { 0 = 0 })) c.row.ensures) ∙
    ap (λ (k : Kept). offset_entries c.args.name.now (fenced_count_of c.args.name.now k.state.configs)
    (unwrap_or (row_of c.args.w k.state).lead (record { 0 = 0 })) c.args.list.now) same)
    (ap (λ (k : Kept). k.state) same))
