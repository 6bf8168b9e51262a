use Rattle.std.proofs.Common.{Ok}
use Rattle.cw_model.specs.EventsWorkers.{clock}
use Rattle.cw_world.specs.Logs.{logs_of}
use Rattle.cw_world.proofs.Quiet.{quiet-keeps}
use Rattle.cw_world.proofs.world.World.clock.Goals as goal

pub invariant_of-self : goal.invariant_of-self
invariant_of-self g c = quiet-keeps g.D.Disk (logs_of c.self.inside.logs.config c.self.inside.logs.offsets c.self.inside.logs.status c.self.inside.logs.txn c.self.inside.logs.batches) (clock c.args.to) c.self.inside.cluster c.clock.new.self (Ok c.clock.result)
    (c.workers_keep_facts.ensures.clock c.self.inside.cluster.setting c.self.inside.cluster.state c.args.to) c.clock.ensures c.self.invariant
