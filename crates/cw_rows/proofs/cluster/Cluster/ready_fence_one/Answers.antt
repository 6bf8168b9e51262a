use Rattle.std.proofs.Common.{◌<◌, ◌∷◌, [], length, refl, sym, ◌∙◌, ap, subst}
use Rattle.std.proofs.lemmas.Result.{err_from_is_err_and}
use Rattle.cw_txn.specs.declared.entry.Entry.TheVariants.{Bump}
use Rattle.cw_model.specs.declared.row.Fencing.{Fencing}
use Rattle.cw_model.specs.EventsLeading.{fencing_of, fenced_tid}
use Rattle.cw_rows.specs.Kept.{Kept}
use Rattle.cw_rows.proofs.Halves.{fence_one-readies, fence_one-refuses, fencing-kept}
use Rattle.cw_rows.proofs.cluster.Cluster.ready_fence_one.Goals as goal

pub returns-in_err-test_leader-clause-due : goal.returns-in_err-test_leader-clause-due
returns-in_err-test_leader-clause-due c =
    let p = err_from_is_err_and c.from_residual.result c.from_residual.ensures.1 in
    let behind = c.in_err-test_leader.ensures.err c.in_err-test_leader.field-0.0 refl in
    rw (p.1, p.2) (fence_one-refuses c.args.w c.args.name.now c.args.self.now _ (ap (λ (k : Kept). k.setting) behind) c.in_err-test_leader.field-0.0
    (sym c.in_err-test_leader.ensures.tested) (ap (λ (k : Kept). k.state) behind))

pub returns-clause-due : goal.returns-clause-due
returns-clause-due c =
    let same = c.self.view_is ∙ c.in_ok-test_leader.ensures.ok in
    let fencing = fencing-kept c.self.inside.topics c.self.inside.crew c.self.invariant c.args.w c.args.name.now c.row.result.now c.read_by.result.now
    (subst (λ (k : Kept). c.args.w < length k.state.rows) (sym same) c.requires) c.row.ensures c.read_by.ensures in
    rw (c.ready_fence.ensures.same) (fence_one-readies c.args.w c.args.name.now c.args.self.now _ (ap (λ (k : Kept). k.setting) same) c.in-Ok.frame.frame
    (sym c.in_ok-test_leader.ensures.tested)
    (c.in-Ok.ensures.frame ∙ ap (λ (f : Fencing). Bump (fenced_tid f) ∷ []) (fencing ∙ ap (λ (k : Kept). fencing_of c.args.w c.args.name.now k.state) same))
    (ap (λ (k : Kept). k.state) same))

pub returns-clause-fencing : goal.returns-clause-fencing
returns-clause-fencing c =
    let same = c.self.view_is ∙ c.in_ok-test_leader.ensures.ok in
    let fencing = fencing-kept c.self.inside.topics c.self.inside.crew c.self.invariant c.args.w c.args.name.now c.row.result.now c.read_by.result.now
    (subst (λ (k : Kept). c.args.w < length k.state.rows) (sym same) c.requires) c.row.ensures c.read_by.ensures in
    c.in-Ok.ensures.fencing ∙ fencing ∙ ap (λ (k : Kept). fencing_of c.args.w c.args.name.now k.state) same

pub returns-clause-frame : goal.returns-clause-frame
returns-clause-frame c =
    let same = c.self.view_is ∙ c.in_ok-test_leader.ensures.ok in
    let fencing = fencing-kept c.self.inside.topics c.self.inside.crew c.self.invariant c.args.w c.args.name.now c.row.result.now c.read_by.result.now
    (subst (λ (k : Kept). c.args.w < length k.state.rows) (sym same) c.requires) c.row.ensures c.read_by.ensures in
    c.in-Ok.ensures.frame ∙ ap (λ (f : Fencing). Bump (fenced_tid f) ∷ []) (fencing ∙ ap (λ (k : Kept). fencing_of c.args.w c.args.name.now k.state) same)
