use Rattle.std.proofs.Common.{length}
use Rattle.cw_disk.proofs.Moments.{adds_call}
use Rattle.cw_log.specs.Compaction.{IsClosed}
use Rattle.cw_log.proofs.Gates.{told_too}
use Rattle.cw_log.proofs.Replaced.{closed_torn}
use Rattle.cw_log.proofs.compact.write_behind.Goals as goal

pub returns-clause-closed : goal.returns-clause-closed
returns-clause-closed g c now told image left =
    let old = told_too (g.D.Disk.holds c.args.disk.now) (g.D.Disk.holds c.write_at.new.self) c.write_at.ensures.told now told in
    let from = c.write_at.ensures.crash image left in
    closed_torn c.args.at (length c.args.from.now) from.0 image c.requires.behind (c.requires.closed old.0 old.1 from.0 from.1) from.2

pub returns-clause-adds : goal.returns-clause-adds
returns-clause-adds g c file is =
    adds_call g.D.Disk.moment g.D.Disk.left_since g.D.Disk.may_leave c.args.disk.now c.write_at.new.self IsClosed c.write_at.ensures.time
    (λ image left. let from = c.write_at.ensures.crash image left in
    closed_torn c.args.at (length c.args.from.now) from.0 image c.requires.behind (c.requires.closed file is from.0 from.1) from.2)
