use Rattle.cw_model.specs.EventsGroups.{sync}
use Rattle.cw_world.specs.Logs.{logs_of}
use Rattle.cw_world.proofs.Quiet.{wanting-keeps}
use Rattle.cw_world.proofs.world.World.sync.Goals as goal

pub invariant_of-self : goal.invariant_of-self
invariant_of-self g c = wanting-keeps g.D.Disk (logs_of c.self.inside.logs.config c.self.inside.logs.offsets c.self.inside.logs.status c.self.inside.logs.txn c.self.inside.logs.batches) (sync c.args.w) c.self.inside.cluster c.sync.new.self c.sync.result
    (c.rounds_keep_facts.ensures.sync c.self.inside.cluster.setting c.self.inside.cluster.state c.args.w) c.sync.ensures c.self.invariant
