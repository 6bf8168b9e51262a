use Rattle.cw_model.specs.EventsWorkers.{hear}
use Rattle.cw_world.specs.Logs.{logs_of}
use Rattle.cw_world.proofs.Quiet.{quiet-keeps}
use Rattle.cw_world.proofs.world.World.hear.Goals as goal

pub invariant_of-self : goal.invariant_of-self
invariant_of-self g c = quiet-keeps g.D.Disk (logs_of c.self.inside.logs.config c.self.inside.logs.offsets c.self.inside.logs.status c.self.inside.logs.txn c.self.inside.logs.batches) (hear c.args.w) c.self.inside.cluster c.hear.new.self c.hear.result
    (c.workers_keep_facts.ensures.hear c.self.inside.cluster.setting c.self.inside.cluster.state c.args.w) c.hear.ensures c.self.invariant
