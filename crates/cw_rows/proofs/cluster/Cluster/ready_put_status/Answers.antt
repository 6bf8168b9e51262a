use Rattle.std.proofs.Common.{◌≡◌, true, refl, sym, ap, subst, ◌∙◌}
use Rattle.std.proofs.lemmas.Result.{err_from_is_err_and}
use Rattle.cw_model.specs.declared.fault.WorldFault.{WorldFault}
use Rattle.cw_model.specs.EventsReports.{put_status}
use Rattle.cw_model.specs.State.{StampedStatus}
use Rattle.cw_model.specs.Updates.{is_offset}
use Rattle.cw_rows.specs.Kept.{Kept}
use Rattle.cw_rows.specs.Writes.{Refuses}
use Rattle.cw_rows.proofs.Due.{wants-memory}
use Rattle.cw_topics.proofs.StatusLists.{has-some}
use Rattle.cw_rows.proofs.StatusLemmas.{status-readies, status-refuses, status-full, record-reported}
use Rattle.cw_rows.proofs.cluster.Cluster.ready_put_status.Goals as goal

pub returns-in_err-test_worker-clause-due : goal.returns-in_err-test_worker-clause-due
returns-in_err-test_worker-clause-due c =
    let p = err_from_is_err_and c.from_residual.result c.from_residual.ensures.1 in
    rw (p.1, p.2) (status-refuses c.args.w c.args.item.now c.args.self.now _ c.in_err-test_worker.field-0.0 (sym c.in_err-test_worker.ensures) refl refl)

pub returns-in_err-value-clause-due : goal.returns-in_err-value-clause-due
returns-in_err-value-clause-due c =
    let p = err_from_is_err_and c.from_residual-in_err-value.result c.from_residual-in_err-value.ensures.1 in
    rw (p.1, p.2) (subst (λ (f : WorldFault). Refuses (put_status c.args.w c.args.item.now) f c.args.self.now c.args.self.now) (sym c.in_err-value.ensures.memory)
    (wants-memory (put_status c.args.w c.args.item.now) c.args.self.now c.args.self.now refl refl))

pub returns-in_err-frame-clause-due : goal.returns-in_err-frame-clause-due
returns-in_err-frame-clause-due c =
    let p = err_from_is_err_and c.from_residual-in_err-frame.result c.from_residual-in_err-frame.ensures.1 in
    let inside = c.self.inside in
    rw (p.1, p.2, c.ready_status.ensures.same) (status-full c.args.w c.args.item.now c.args.self.now _ c.args.size _ c.in_err-frame.field-0.0 (sym c.in_ok-test_worker.ensures)
    (record-reported inside.topics inside.crew inside.circle inside.journal.items inside.closed c.args.self.now.state (ap (λ (k : Kept). k.state) c.self.view_is)
    c.args.w c.args.item.now c.in_ok-value.value c.in_ok-value.ensures.value)
    c.requires.size (c.in_err-frame.ensures.refused c.in_err-frame.field-0.0 refl) (ap (λ (k : Kept). k.state) c.self.view_is) (ap (λ (k : Kept). k.setting) c.self.view_is))

pub returns-clause-frame : goal.returns-clause-frame
returns-clause-frame c =
    let inside = c.self.inside in
    c.in_ok-frame.ensures.frame ∙
    record-reported inside.topics inside.crew inside.circle inside.journal.items inside.closed c.args.self.now.state (ap (λ (k : Kept). k.state) c.self.view_is)
    c.args.w c.args.item.now c.in_ok-value.value c.in_ok-value.ensures.value

pub returns-clause-due : goal.returns-clause-due
returns-clause-due c =
    let inside = c.self.inside in
    rw (c.ready_status.ensures.same) (status-readies c.args.w c.args.item.now c.args.self.now _ c.in_ok-frame.frame (sym c.in_ok-test_worker.ensures)
    (c.in_ok-frame.ensures.frame ∙
    record-reported inside.topics inside.crew inside.circle inside.journal.items inside.closed c.args.self.now.state (ap (λ (k : Kept). k.state) c.self.view_is)
    c.args.w c.args.item.now c.in_ok-value.value c.in_ok-value.ensures.value)
    (subst (λ (r : StampedStatus). is_offset r.status.offset ≡ true) (sym c.in_ok-frame.ensures.frame) c.in_ok-frame.ensures.offset)
    (has-some c.in_ok-frame.frame) (ap (λ (k : Kept). k.state) c.self.view_is) (ap (λ (k : Kept). k.setting) c.self.view_is))
