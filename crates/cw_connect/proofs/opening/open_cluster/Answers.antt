use Rattle.std.proofs.Common.{◌∙◌, ℕ, sym}
use Rattle.cw_log.specs.declared.fault.Harm.{Harm}
use Rattle.cw_open.specs.Judged.{HasFirstHarm}
use Rattle.cw_open.specs.Reopened.{DiskFiles, FailedAt, TellAll}
use Rattle.cw_types.specs.declared.logs.DiskName.{DiskName}
use Rattle.cw_connect.proofs.Refused.{damaged_by}
use Rattle.cw_connect.proofs.opening.open_cluster.Goals as goal

pub returns-in-Err-open_disks-clause-damaged : goal.returns-in-Err-open_disks-clause-damaged
returns-in-Err-open_disks-clause-damaged g c = λ disk at harm is.
    damaged_by (λ (d : DiskName) (n : ℕ) (h : Harm). (files : DiskFiles) → TellAll g.D.Disk c.args.disks files → HasFirstHarm files d n h)
    (FailedAt g.D.Disk.count c.args.disks c.in-Err-open_disks.fault.disks) (Unit {0}) c.in-Err-open_disks.fault.cause c.in-Err-open_disks.ensures.cause disk at harm (sym c.of_cause.ensures ∙ is)
