use Rattle.std.proofs.Common.{◌∷◌, [], refl, sym, ◌∙◌, ap}
use Rattle.std.proofs.lemmas.Result.{err_from_is_err_and}
use Rattle.cw_txn.specs.declared.entry.Entry.TheVariants.{Bump}
use Rattle.cw_model.specs.declared.instance.Instance.{Instance}
use Rattle.cw_model.specs.Lookups.{instance_of}
use Rattle.cw_model.specs.Updates.{tid_of}
use Rattle.cw_rows.specs.Kept.{Kept}
use Rattle.cw_rows.proofs.Halves.{init-readies, init-refuses}
use Rattle.cw_rows.proofs.cluster.Cluster.ready_init.Goals as goal

pub returns-in_err-test_instance-clause-due : goal.returns-in_err-test_instance-clause-due
returns-in_err-test_instance-clause-due c =
    let p = err_from_is_err_and c.from_residual.result c.from_residual.ensures.1 in
    rw (p.1, p.2) (init-refuses c.args.i c.args.self.now _ refl c.in_err-test_instance.field-0.0 (sym c.in_err-test_instance.ensures) refl)

pub returns-clause-due : goal.returns-clause-due
returns-clause-due c = rw (c.ready_task_bump.ensures.same) (init-readies c.args.i c.args.self.now _ (ap (λ (k : Kept). k.setting) c.self.view_is) c.in-Ok.frame
    (sym c.in_ok-test_instance.ensures) (c.in-Ok.ensures.frame ∙ ap (λ (x : Instance). Bump (tid_of x.item) ∷ []) (c.instance.ensures ∙ ap (λ (k : Kept). instance_of c.args.i k.state) c.self.view_is)) (ap (λ (k : Kept). k.state) c.self.view_is))
