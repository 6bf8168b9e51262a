use Rattle.cw_model.specs.EventsReports.{fail}
use Rattle.cw_world.specs.Logs.{logs_of}
use Rattle.cw_world.proofs.Quiet.{quiet-keeps}
use Rattle.cw_world.proofs.world.World.fail.Goals as goal

pub invariant_of-self : goal.invariant_of-self
invariant_of-self g c = quiet-keeps g.D.Disk (logs_of c.self.inside.logs.config c.self.inside.logs.offsets c.self.inside.logs.status c.self.inside.logs.txn c.self.inside.logs.batches) (fail c.args.i c.args.trace) c.self.inside.cluster c.fail.new.self c.fail.result
    (c.reports_keep_facts.ensures.fail c.self.inside.cluster.setting c.self.inside.cluster.state c.args.i c.args.trace) c.fail.ensures c.self.invariant
