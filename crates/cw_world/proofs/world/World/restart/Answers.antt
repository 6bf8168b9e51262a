use Rattle.cw_model.specs.EventsItems.{restart}
use Rattle.cw_world.specs.Logs.{logs_of}
use Rattle.cw_world.proofs.Quiet.{quiet-keeps}
use Rattle.cw_world.proofs.world.World.restart.Goals as goal

pub invariant_of-self : goal.invariant_of-self
invariant_of-self g c = quiet-keeps g.D.Disk (logs_of c.self.inside.logs.config c.self.inside.logs.offsets c.self.inside.logs.status c.self.inside.logs.txn c.self.inside.logs.batches) (restart c.args.w c.args.item.now) c.self.inside.cluster c.restart.new.self c.restart.result
    (c.items_keep_facts.ensures.restart c.self.inside.cluster.setting c.self.inside.cluster.state c.args.w c.args.item.now) c.restart.ensures c.self.invariant
