use Rattle.std.proofs.Common.{sym, subst}
use Rattle.cw_model.specs.EventsSinks.{deliver, MayDeliver}
use Rattle.cw_world.specs.World.{WorldState}
use Rattle.cw_world.specs.Logs.{logs_of}
use Rattle.cw_world.proofs.Quiet.{quiet-keeps}
use Rattle.cw_world.proofs.world.World.deliver.Goals as goal

pub invariant_of-self : goal.invariant_of-self
invariant_of-self g c = quiet-keeps g.D.Disk (logs_of c.self.inside.logs.config c.self.inside.logs.offsets c.self.inside.logs.status c.self.inside.logs.txn c.self.inside.logs.batches) (deliver c.args.i c.args.turn c.args.to) c.self.inside.cluster c.deliver.new.self c.deliver.result
    (c.sinks_keep_facts.ensures.deliver c.self.inside.cluster.setting c.self.inside.cluster.state c.args.i c.args.turn c.args.to (subst (λ (v : WorldState g.row.D.Denot). MayDeliver c.args.i c.args.turn c.args.to v.state) (sym c.self.view_is) c.requires.may)) c.deliver.ensures c.self.invariant
