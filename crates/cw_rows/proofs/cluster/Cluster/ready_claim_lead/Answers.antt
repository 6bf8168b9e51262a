use Rattle.std.proofs.Common.{refl, sym, ap}
use Rattle.std.proofs.lemmas.Result.{err_from_is_err_and}
use Rattle.cw_rows.specs.Kept.{Kept}
use Rattle.cw_rows.proofs.Halves.{claim_lead-readies, claim_lead-refuses}
use Rattle.cw_rows.proofs.cluster.Cluster.ready_claim_lead.Goals as goal

pub returns-in_err-test_worker-clause-due : goal.returns-in_err-test_worker-clause-due
returns-in_err-test_worker-clause-due c =
    let p = err_from_is_err_and c.from_residual.result c.from_residual.ensures.1 in
    rw (p.1, p.2) (claim_lead-refuses c.args.w c.args.self.now _ refl c.in_err-test_worker.field-0.0 (sym c.in_err-test_worker.ensures) refl)

pub returns-clause-due : goal.returns-clause-due
returns-clause-due c = rw (c.ready_entry.ensures.same) (claim_lead-readies c.args.w c.args.self.now _ (ap (λ (k : Kept). k.setting) c.self.view_is) c.in-Ok.frame
    (sym c.in_ok-test_worker.ensures) c.in-Ok.ensures.frame (ap (λ (k : Kept). k.state) c.self.view_is))
