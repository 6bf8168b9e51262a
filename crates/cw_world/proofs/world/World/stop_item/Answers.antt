use Rattle.cw_model.specs.EventsItems.{stop_item}
use Rattle.cw_world.specs.Logs.{logs_of}
use Rattle.cw_world.proofs.Quiet.{quiet-keeps}
use Rattle.cw_world.proofs.world.World.stop_item.Goals as goal

pub invariant_of-self : goal.invariant_of-self
invariant_of-self g c = quiet-keeps g.D.Disk (logs_of c.self.inside.logs.config c.self.inside.logs.offsets c.self.inside.logs.status c.self.inside.logs.txn c.self.inside.logs.batches) (stop_item c.args.i) c.self.inside.cluster c.stop_item.new.self c.stop_item.result
    (c.items_keep_facts.ensures.stop_item c.self.inside.cluster.setting c.self.inside.cluster.state c.args.i) c.stop_item.ensures c.self.invariant
