use Rattle.std.proofs.Common.{refl}
use Rattle.cw_model.specs.EventsWorkers.{spawn}
use Rattle.cw_world.specs.Logs.{logs_of}
use Rattle.cw_world.proofs.Quiet.{wanting-keeps}
use Rattle.cw_world.proofs.world.World.spawn.Goals as goal

pub invariant_of-self : goal.invariant_of-self
invariant_of-self g c = wanting-keeps g.D.Disk (logs_of c.self.inside.logs.config c.self.inside.logs.offsets c.self.inside.logs.status c.self.inside.logs.txn c.self.inside.logs.batches) spawn c.self.inside.cluster c.spawn.new.self c.spawn.result
    (c.workers_keep_facts.ensures.spawn c.self.inside.cluster.setting c.self.inside.cluster.state) c.spawn.ensures c.self.invariant

pub returns : goal.returns
returns g c = rw (← c.self.view_is) record {
  done = c.spawn.ensures.done;
  wants = c.spawn.ensures.wants;
  setting = c.spawn.ensures.setting;
  logs = refl;
  name = refl;
}
