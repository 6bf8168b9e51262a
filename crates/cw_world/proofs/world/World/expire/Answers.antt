use Rattle.std.proofs.Common.{Ok}
use Rattle.cw_model.specs.EventsWorkers.{clock, expire}
use Rattle.cw_world.specs.Logs.{logs_of}
use Rattle.cw_world.proofs.Quiet.{quiet-keeps}
use Rattle.cw_world.proofs.world.World.expire.Goals as goal

pub invariant_of-self : goal.invariant_of-self
invariant_of-self g c =
    let timed = quiet-keeps g.D.Disk (logs_of c.self.inside.logs.config c.self.inside.logs.offsets c.self.inside.logs.status c.self.inside.logs.txn c.self.inside.logs.batches) (clock c.args.now) c.self.inside.cluster c.clock.new.self (Ok c.clock.result)
    (c.workers_keep_facts.ensures.clock c.self.inside.cluster.setting c.self.inside.cluster.state c.args.now) c.clock.ensures c.self.invariant in
    quiet-keeps g.D.Disk (logs_of c.self.inside.logs.config c.self.inside.logs.offsets c.self.inside.logs.status c.self.inside.logs.txn c.self.inside.logs.batches) (expire c.clock.new.self.setting c.args.w) c.clock.new.self c.expire.new.self c.expire.result
    (c.rounds_keep_facts.ensures.expire c.clock.new.self.setting c.clock.new.self.state c.args.w) c.expire.ensures timed
