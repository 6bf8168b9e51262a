use Rattle.cw_model.specs.EventsGroups.{close_round}
use Rattle.cw_world.specs.Logs.{logs_of}
use Rattle.cw_world.proofs.Quiet.{quiet-keeps}
use Rattle.cw_world.proofs.world.World.close_round.Goals as goal

pub invariant_of-self : goal.invariant_of-self
invariant_of-self g c = quiet-keeps g.D.Disk (logs_of c.self.inside.logs.config c.self.inside.logs.offsets c.self.inside.logs.status c.self.inside.logs.txn c.self.inside.logs.batches) (close_round c.args.w) c.self.inside.cluster c.close_round.new.self c.close_round.result
    (c.rounds_keep_facts.ensures.close_round c.self.inside.cluster.setting c.self.inside.cluster.state c.args.w) c.close_round.ensures c.self.invariant
