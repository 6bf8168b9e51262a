use Rattle.cw_model.specs.EventsWorkers.{deaf}
use Rattle.cw_world.specs.Logs.{logs_of}
use Rattle.cw_world.proofs.Quiet.{quiet-keeps}
use Rattle.cw_world.proofs.world.World.deaf.Goals as goal

pub invariant_of-self : goal.invariant_of-self
invariant_of-self g c = quiet-keeps g.D.Disk (logs_of c.self.inside.logs.config c.self.inside.logs.offsets c.self.inside.logs.status c.self.inside.logs.txn c.self.inside.logs.batches) (deaf c.args.w) c.self.inside.cluster c.deaf.new.self c.deaf.result
    (c.workers_keep_facts.ensures.deaf c.self.inside.cluster.setting c.self.inside.cluster.state c.args.w) c.deaf.ensures c.self.invariant
