use Rattle.std.proofs.Common.{length}
use Rattle.cw_disk.specs.Disk.{Torn}
use Rattle.cw_disk.proofs.Moments.{adds_call}
use Rattle.cw_log.proofs.Gates.{stepped, steps_adds}
use Rattle.cw_log.proofs.calls.put.Goals as goal

pub returns-in_err-write_at-clause-left : goal.returns-in_err-write_at-clause-left
returns-in_err-write_at-clause-left g c file is = stepped file (g.D.Disk.may_leave c.args.disk.now) (g.D.Disk.may_leave c.write_at.new.self) (Torn c.args.at (length c.args.from.now)) (c.requires.settled file is) c.write_at.ensures.crash

pub returns-in_err-write_at-clause-adds : goal.returns-in_err-write_at-clause-adds
returns-in_err-write_at-clause-adds g c file is = adds_call g.D.Disk.moment g.D.Disk.left_since g.D.Disk.may_leave c.args.disk.now c.write_at.new.self (Torn c.args.at (length c.args.from.now) file) c.write_at.ensures.time
    (stepped file (g.D.Disk.may_leave c.args.disk.now) (g.D.Disk.may_leave c.write_at.new.self) (Torn c.args.at (length c.args.from.now)) (c.requires.settled file is) c.write_at.ensures.crash)

pub returns-clause-left : goal.returns-clause-left
returns-clause-left g c file is image left = stepped file (g.D.Disk.may_leave c.args.disk.now) (g.D.Disk.may_leave c.write_at.new.self) (Torn c.args.at (length c.args.from.now)) (c.requires.settled file is) c.write_at.ensures.crash image (c.sync.ensures.crash image left)

pub returns-clause-adds : goal.returns-clause-adds
returns-clause-adds g c file is = steps_adds g.D.Disk.holds g.D.Disk.may_leave g.D.Disk.moment g.D.Disk.left_since g.D.Disk.count g.D.Disk.reserved g.met.D.Disk.counts_now c.args.disk.now c.write_at.new.self (Torn c.args.at (length c.args.from.now) file) c.write_at.ensures.time
    (stepped file (g.D.Disk.may_leave c.args.disk.now) (g.D.Disk.may_leave c.write_at.new.self) (Torn c.args.at (length c.args.from.now)) (c.requires.settled file is) c.write_at.ensures.crash)
    c.sync.new.self c.sync.ensures.crash c.sync.ensures.time
