use Rattle.std.proofs.Common.{◌≡◌, ◌⊎◌, ◌∙◌, subst, sym}
use Rattle.cw_connect.proofs.FirstHarm.{first_harm_is_one}
use Rattle.cw_connect.proofs.Reported.{audited, done_or_memory, is_damaged, is_store, is_write, refused_for}
use Rattle.cw_connect.specs.Audited.{IsAudited}
use Rattle.cw_connect.specs.Outcomes.{IsRefusedFor}
use Rattle.cw_connect.specs.declared.status.Status.{Status}
use Rattle.cw_connect.specs.declared.status.Status.TheVariants.{Done, Memory}
use Rattle.cw_connect.proofs.auditing.open_and_audit.Goals as goal

pub returns-in-Ok-clause-due : goal.returns-in-Ok-clause-due
returns-in-Ok-clause-due g c = subst
    (λ (s : Status). IsAudited g.D.Disk g.O.Sink g.H.Shelf c.args.options s c.args.shelf.now c.args.output.now c.audit-end.new.output c.args.disks c.audit-end.result.disks)
    (sym c.of_audit.ensures)
    (audited g.D.Disk g.O.Sink g.H.Shelf c.args.options c.args.shelf.now c.args.output.now c.audit-end.new.output c.args.disks c.audit-end.result.disks c.in-Ok.feeds
    (λ held told. c.in-Ok.ensures.loaded held told) c.audit-end.ensures.stay c.audit-end.result.end c.audit-end.ensures.written)

pub returns-in-Ok-clause-damaged_only : goal.returns-in-Ok-clause-damaged_only
returns-in-Ok-clause-damaged_only g c = λ disk at harm is.
    c.audit-end.ensures.damaged_only disk at harm (is_damaged c.audit-end.result.end disk at harm (sym c.of_audit.ensures ∙ is))

pub returns-in-Ok-clause-damaged : goal.returns-in-Ok-clause-damaged
returns-in-Ok-clause-damaged g c = λ files tell at place harm has. subst (λ (s : Status). IsRefusedFor at place harm s) (sym c.of_audit.ensures)
    (refused_for at place harm c.audit-end.result.end (c.audit-end.ensures.damaged files tell at place harm has)
    (λ disk gate what is. first_harm_is_one files disk at gate place what harm (c.audit-end.ensures.damaged_only disk gate what is files tell) has))

pub returns-in-Ok-clause-store_fault : goal.returns-in-Ok-clause-store_fault
returns-in-Ok-clause-store_fault g c = λ disk count is. c.audit-end.ensures.store_fault disk count (is_store c.audit-end.result.end disk count (sym c.of_audit.ensures ∙ is))

pub returns-in-Ok-clause-write_fault : goal.returns-in-Ok-clause-write_fault
returns-in-Ok-clause-write_fault g c = λ is. c.audit-end.ensures.write_fault (is_write c.audit-end.result.end (sym c.of_audit.ensures ∙ is))

pub returns-in-Ok-clause-complete : goal.returns-in-Ok-clause-complete
returns-in-Ok-clause-complete g c = λ files tell stored s lists stand calm_out calm_shelf calm_disks.
    subst (λ (it : Status). (it ≡ Done) ⊎ (it ≡ Memory)) (sym c.of_audit.ensures) (done_or_memory c.audit-end.result.end (c.audit-end.ensures.complete files tell stored s lists stand calm_out calm_disks))
