use Rattle.std.proofs.Common.{◌∙◌, ℕ, List, [], get_or, ap, arith}
use Rattle.cw_log.specs.Log.{bodies_at, places_of}
use Rattle.cw_log.proofs.Gates.{told_before}
use Rattle.cw_log.proofs.Appended.{log_read, room_read}
use Rattle.cw_log.proofs.topic.TopicLog.read_body.Goals as goal

pub read_one-requires-clause-known : goal.read_one-requires-clause-known
read_one-requires-clause-known g c file is = ((c.self.invariant.kept file is).begins, c.self.invariant.known file is)

pub invariant_of-self : goal.invariant_of-self
invariant_of-self g c =
    log_read g.D.Disk.holds g.D.Disk.may_leave g.D.Disk.moment g.D.Disk.left_since g.D.Disk.count g.D.Disk.reserved c.self.inside.disk c.read_one.new.disk c.self.inside.kind c.self.inside.number c.self.inside.ready c.self.inside.ready c.self.inside.frames c.read_one.new.frames c.self.inside.tail c.self.inside.tail c.self.inside.ahead c.read_one.new.ahead c.self.inside.shut c.self.invariant c.read_one.ensures.reads c.read_one.ensures.keeps c.read_one.ensures.known
    (λ some. room_read g.D.Disk.holds g.D.Disk.may_leave g.D.Disk.moment g.D.Disk.left_since g.D.Disk.count g.D.Disk.reserved c.self.inside.disk c.read_one.new.disk c.self.inside.ready c.self.inside.frames c.read_one.new.frames c.self.inside.tail c.self.inside.tail (c.self.invariant.room some) c.read_one.ensures.reads.room (omega arith) c.read_one.ensures.keeps) c.read_one.ensures.ahead

pub invariant_of-self-in-Err-Memory : goal.invariant_of-self-in-Err-Memory
invariant_of-self-in-Err-Memory g c =
    log_read g.D.Disk.holds g.D.Disk.may_leave g.D.Disk.moment g.D.Disk.left_since g.D.Disk.count g.D.Disk.reserved c.self.inside.disk c.read_one.new.disk c.self.inside.kind c.self.inside.number c.self.inside.ready c.self.inside.ready c.self.inside.frames c.read_one.new.frames c.self.inside.tail c.self.inside.tail c.self.inside.ahead c.read_one.new.ahead c.self.inside.shut c.self.invariant c.read_one.ensures.reads c.read_one.ensures.keeps c.read_one.ensures.known
    (λ some. room_read g.D.Disk.holds g.D.Disk.may_leave g.D.Disk.moment g.D.Disk.left_since g.D.Disk.count g.D.Disk.reserved c.self.inside.disk c.read_one.new.disk c.self.inside.ready c.self.inside.frames c.read_one.new.frames c.self.inside.tail c.self.inside.tail (c.self.invariant.room some) c.read_one.ensures.reads.room (omega arith) c.read_one.ensures.keeps) c.read_one.ensures.ahead

pub invariant_of-self-in-Err-Failed : goal.invariant_of-self-in-Err-Failed
invariant_of-self-in-Err-Failed g c =
    log_read g.D.Disk.holds g.D.Disk.may_leave g.D.Disk.moment g.D.Disk.left_since g.D.Disk.count g.D.Disk.reserved c.self.inside.disk c.read_one.new.disk c.self.inside.kind c.self.inside.number c.self.inside.ready c.self.inside.ready c.self.inside.frames c.read_one.new.frames c.self.inside.tail c.self.inside.tail c.self.inside.ahead c.read_one.new.ahead c.self.inside.shut c.self.invariant c.read_one.ensures.reads c.read_one.ensures.keeps c.read_one.ensures.known
    (λ some. room_read g.D.Disk.holds g.D.Disk.may_leave g.D.Disk.moment g.D.Disk.left_since g.D.Disk.count g.D.Disk.reserved c.self.inside.disk c.read_one.new.disk c.self.inside.ready c.self.inside.frames c.read_one.new.frames c.self.inside.tail c.self.inside.tail (c.self.invariant.room some) c.read_one.ensures.reads.room (omega arith) c.read_one.ensures.keeps) c.read_one.ensures.ahead

pub returns-in-Ok-clause-body : goal.returns-in-Ok-clause-body
returns-in-Ok-clause-body g c bodies told =
    let file = told_before (bodies_at (places_of c.self.inside.frames)) (g.D.Disk.holds c.self.inside.disk) bodies (ap (λ v. v.bodies) c.self.view_is ∙ told) in
    c.in-Ok.ensures.body file.0 file.1 ∙ ap (λ (bs : List (List ℕ)). get_or bs c.args.index []) file.2
