use Rattle.std.proofs.Common.{arith}
use Rattle.cw_log.proofs.Gates.{reads_none}
use Rattle.cw_log.proofs.Appended.{log_read, room_read}
use Rattle.cw_log.proofs.topic.TopicLog.reserve.Goals as goal

pub invariant_of-self-in_err-reserve-2 : goal.invariant_of-self-in_err-reserve-2
invariant_of-self-in_err-reserve-2 g c =
    log_read g.D.Disk.holds g.D.Disk.may_leave g.D.Disk.moment g.D.Disk.left_since g.D.Disk.count g.D.Disk.reserved c.self.inside.disk c.self.inside.disk c.self.inside.kind c.self.inside.number c.self.inside.ready c.self.inside.ready c.self.inside.frames c.reserve-2.new.self c.self.inside.tail c.reserve.new.self c.self.inside.ahead c.self.inside.ahead c.self.inside.shut c.self.invariant
    (reads_none g.D.Disk.holds g.D.Disk.may_leave g.D.Disk.moment g.D.Disk.left_since g.D.Disk.count g.D.Disk.reserved g.met.D.Disk.counts_now c.self.inside.disk) c.reserve-2.ensures.keeps (λ file is. c.reserve-2.ensures.known (c.self.invariant.known file is))
    (λ some. room_read g.D.Disk.holds g.D.Disk.may_leave g.D.Disk.moment g.D.Disk.left_since g.D.Disk.count g.D.Disk.reserved c.self.inside.disk c.self.inside.disk c.self.inside.ready c.self.inside.frames c.reserve-2.new.self c.self.inside.tail c.reserve.new.self (c.self.invariant.room some) (omega arith)
    (omega (arith, c.clear.ensures.capacity, c.reserve.ensures.capacity)) c.reserve-2.ensures.keeps) c.self.invariant.ahead_is

pub invariant_of-self-in_err-prepare : goal.invariant_of-self-in_err-prepare
invariant_of-self-in_err-prepare g c =
    log_read g.D.Disk.holds g.D.Disk.may_leave g.D.Disk.moment g.D.Disk.left_since g.D.Disk.count g.D.Disk.reserved c.self.inside.disk c.prepare.new.disk c.self.inside.kind c.self.inside.number c.self.inside.ready c.self.inside.ready c.self.inside.frames c.reserve-2.new.self c.self.inside.tail c.reserve.new.self c.self.inside.ahead c.self.inside.ahead c.self.inside.shut c.self.invariant
    c.prepare.ensures.reads c.reserve-2.ensures.keeps (λ file is. c.reserve-2.ensures.known (c.self.invariant.known file is))
    (λ some. room_read g.D.Disk.holds g.D.Disk.may_leave g.D.Disk.moment g.D.Disk.left_since g.D.Disk.count g.D.Disk.reserved c.self.inside.disk c.prepare.new.disk c.self.inside.ready c.self.inside.frames c.reserve-2.new.self c.self.inside.tail c.reserve.new.self (c.self.invariant.room some) c.prepare.ensures.reads.room
    (omega (arith, c.clear.ensures.capacity, c.reserve.ensures.capacity)) c.reserve-2.ensures.keeps) c.self.invariant.ahead_is

pub invariant_of-self-2 : goal.invariant_of-self-2
invariant_of-self-2 g c =
    log_read g.D.Disk.holds g.D.Disk.may_leave g.D.Disk.moment g.D.Disk.left_since g.D.Disk.count g.D.Disk.reserved c.self.inside.disk c.prepare.new.disk c.self.inside.kind c.self.inside.number c.self.inside.ready c.args.body c.self.inside.frames c.reserve-2.new.self c.self.inside.tail c.reserve.new.self c.self.inside.ahead c.self.inside.ahead c.self.inside.shut c.self.invariant
    c.prepare.ensures.reads c.reserve-2.ensures.keeps (λ file is. c.reserve-2.ensures.known (c.self.invariant.known file is))
    (λ some. record {
      frame = omega (arith, c.in_ok-reserve.ensures.ok, c.saturating_add.ensures);
      place = c.in_ok-reserve-2.ensures.room;
      bytes = omega (arith, c.reserve-2.ensures.keeps.gate, c.in_ok-prepare.ensures.room, c.saturating_add-2.ensures, c.saturating_add-3.ensures);
    }) c.self.invariant.ahead_is
