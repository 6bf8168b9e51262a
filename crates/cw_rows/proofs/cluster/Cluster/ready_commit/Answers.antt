use Rattle.std.proofs.Common.{◌∷◌, [], refl, ◌∙◌, ap}
use Rattle.std.proofs.lemmas.Result.{err_from_is_err_and}
use Rattle.cw_model.specs.declared.instance.Instance.{Instance}
use Rattle.cw_model.specs.Lookups.{instance_of}
use Rattle.cw_rows.specs.Entries.{commit_of}
use Rattle.cw_rows.specs.Kept.{Kept}
use Rattle.cw_rows.proofs.Halves.{commit-readies, commit-refuses}
use Rattle.cw_rows.proofs.cluster.Cluster.ready_commit.Goals as goal

pub returns-in_err-tid-clause-due : goal.returns-in_err-tid-clause-due
returns-in_err-tid-clause-due c =
    let p = err_from_is_err_and c.from_residual.result c.from_residual.ensures.1 in
    rw (p.1, p.2) (commit-refuses c.args.i c.args.self.now _ refl c.in_err-tid.field-0.0 (λ other. c.in_err-tid.ensures.refused c.in_err-tid.field-0.0 refl other) refl)

pub returns-clause-due : goal.returns-clause-due
returns-clause-due c = rw (c.ready_commit.ensures.same) (commit-readies c.args.i c.args.self.now _ (ap (λ (k : Kept). k.setting) c.self.view_is) c.in-Ok.frame
    c.in_ok-tid.ensures.passed
    (c.in-Ok.ensures.frame ∙ ap (λ (x : Instance). commit_of x ∷ []) (c.instance.ensures ∙ ap (λ (k : Kept). instance_of c.args.i k.state) c.self.view_is))
    (ap (λ (k : Kept). k.state) c.self.view_is))
