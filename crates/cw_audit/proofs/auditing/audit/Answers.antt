use Rattle.std.proofs.Common.{◌≡◌, ◌⊎◌, ℕ, List, sym, subst, ◌∙◌}
use Rattle.cw_io.specs.Told.{with_back}
use Rattle.cw_open.specs.Judged.{stored_by}
use Rattle.cw_open.specs.Opened.{logs_in, opened_by}
use Rattle.cw_open.specs.OpenedFrom.{DisksStay}
use Rattle.cw_open.proofs.ReopenLemmas.{judged-stand}
use Rattle.cw_open.proofs.StayLemmas.{none-fell, stay-of}
use Rattle.cw_audit.specs.Audited.{HasReportOf, IsRefused, Writes}
use Rattle.cw_audit.specs.declared.end.AuditEnd.{AuditEnd}
use Rattle.cw_audit.specs.declared.end.AuditEnd.TheVariants.{Done, Memory}
use Rattle.cw_audit.proofs.Ends.{calm-open, calm-why, damaged-why, failed-why, is-refused, one-report, open-refuses, open-undamaged, open-unfailed, stopped-on, undone, unwriting, unwritten, written-of}
use Rattle.cw_audit.proofs.auditing.audit.Goals as goal
use Rattle.cw_open.proofs.LeavingLemmas.{holds-lists}

-- ---- disks that were opened

pub returns-in-Ok-clause-written : goal.returns-in-Ok-clause-written
returns-in-Ok-clause-written g c =
    written-of g.D.Disk g.O.Sink c.args.disks c.args.feeds.now c.args.group.now (opened_by c.in-Ok.judged)
    (stopped-on g.D.Disk c.args.disks c.in-Ok.judged c.in-Ok.ensures.sound c.in-Ok.ensures.files) c.args.output.now c.print.new.output c.print.result.end c.print.ensures.written

pub returns-in-Ok-clause-stay : goal.returns-in-Ok-clause-stay
returns-in-Ok-clause-stay g c = subst (DisksStay g.D.Disk c.args.disks) (sym c.print.ensures.disks) (stay-of g.D.Disk c.args.disks (logs_in c.in-Ok.judged) c.in-Ok.ensures.from)

pub returns-in-Ok-clause-one_text : goal.returns-in-Ok-clause-one_text
returns-in-Ok-clause-one_text g c = λ files tell stored s lists stand done.
    one-report g.D.Disk c.args.disks c.args.feeds.now c.args.group.now files tell stored s (λ other t others stands. c.files_open_one_way.ensures.state files stored other s t lists stand others stands)
    (λ (text : List ℕ). g.O.Sink.held c.print.new.output ≡ with_back text (g.O.Sink.held c.args.output.now))
    (subst (λ (end : AuditEnd). Writes g.O.Sink (HasReportOf g.D.Disk c.args.disks c.args.feeds.now c.args.group.now) c.args.output.now c.print.new.output end) done (returns-in-Ok-clause-written g c))

pub returns-in-Ok-clause-damaged_only : goal.returns-in-Ok-clause-damaged_only
returns-in-Ok-clause-damaged_only g c = λ disk at harm is. open-undamaged c.print.result.end disk at harm c.print.ensures.ends is

pub returns-in-Ok-clause-damaged : goal.returns-in-Ok-clause-damaged
returns-in-Ok-clause-damaged g c = λ files tell disk at harm has.
    open-refuses c.print.result.end c.print.ensures.ends
    (c.files_open_one_way.ensures.harm files (stored_by c.in-Ok.judged) (opened_by c.in-Ok.judged) disk at harm (holds-lists files (stored_by c.in-Ok.judged) (c.in-Ok.ensures.files files tell))
    (judged-stand c.in-Ok.judged c.in-Ok.ensures.sound) has)

pub returns-in-Ok-clause-store_fault : goal.returns-in-Ok-clause-store_fault
returns-in-Ok-clause-store_fault g c = λ disk count is. open-unfailed c.print.result.end disk count c.print.ensures.ends is

pub returns-in-Ok-clause-later_disks : goal.returns-in-Ok-clause-later_disks
returns-in-Ok-clause-later_disks g c = none-fell g.D.Disk c.args.disks c.print.result.disks (returns-in-Ok-clause-stay g c)

pub returns-in-Ok-clause-complete : goal.returns-in-Ok-clause-complete
returns-in-Ok-clause-complete g c = λ files tell stored s lists stand calm_out calm_disks. calm-open c.print.result.end c.print.ensures.ends (λ is. calm_out (c.print.ensures.rose is))

-- ---- disks that were not

pub returns-in-Err-clause-written : goal.returns-in-Err-clause-written
returns-in-Err-clause-written g c =
    subst (Writes g.O.Sink (HasReportOf g.D.Disk c.args.disks c.args.feeds.now c.args.group.now) c.args.output.now c.args.output.now) (sym c.of.ensures)
    (unwritten g.O.Sink (HasReportOf g.D.Disk c.args.disks c.args.feeds.now c.args.group.now) c.args.output.now c.in-Err.fault.cause)

pub returns-in-Err-clause-one_text : goal.returns-in-Err-clause-one_text
returns-in-Err-clause-one_text g c = λ files tell stored s lists stand done. absurd (undone c.in-Err.fault.cause (sym c.of.ensures ∙ done))

pub returns-in-Err-clause-damaged_only : goal.returns-in-Err-clause-damaged_only
returns-in-Err-clause-damaged_only g c = λ disk at harm is. damaged-why g.D.Disk c.args.disks c.in-Err.fault.disks c.in-Err.fault.cause c.in-Err.ensures.cause disk at harm (sym c.of.ensures ∙ is)

pub returns-in-Err-clause-damaged : goal.returns-in-Err-clause-damaged
returns-in-Err-clause-damaged g c = λ files tell disk at harm has. subst IsRefused (sym c.of.ensures) (is-refused c.in-Err.fault.cause)

pub returns-in-Err-clause-store_fault : goal.returns-in-Err-clause-store_fault
returns-in-Err-clause-store_fault g c = λ disk count is. failed-why g.D.Disk c.args.disks c.in-Err.fault.disks c.in-Err.fault.cause c.in-Err.ensures.cause disk count (sym c.of.ensures ∙ is)

pub returns-in-Err-clause-write_fault : goal.returns-in-Err-clause-write_fault
returns-in-Err-clause-write_fault g c = λ is. absurd (unwriting c.in-Err.fault.cause (sym c.of.ensures ∙ is))

pub returns-in-Err-clause-later_disks : goal.returns-in-Err-clause-later_disks
returns-in-Err-clause-later_disks g c = none-fell g.D.Disk c.args.disks c.in-Err.fault.disks c.in-Err.ensures.stay

pub returns-in-Err-clause-complete : goal.returns-in-Err-clause-complete
returns-in-Err-clause-complete g c = λ files tell stored s lists stand calm_out calm_disks.
    subst (λ (end : AuditEnd). (end ≡ Done) ⊎ (end ≡ Memory)) (sym c.of.ensures)
    (calm-why c.in-Err.fault.cause
    (λ disk at harm is. c.files_open_one_way.ensures.harm files stored s disk at harm lists stand (damaged-why g.D.Disk c.args.disks c.in-Err.fault.disks c.in-Err.fault.cause c.in-Err.ensures.cause disk at harm is files tell))
    (λ disk count is. calm_disks disk (failed-why g.D.Disk c.args.disks c.in-Err.fault.disks c.in-Err.fault.cause c.in-Err.ensures.cause disk count is).rose))
