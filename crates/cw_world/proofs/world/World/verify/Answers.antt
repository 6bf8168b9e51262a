use Rattle.std.proofs.Common.{sym, subst}
use Rattle.cw_model.specs.EventsSources.{verify, MayVerify}
use Rattle.cw_world.specs.World.{WorldState}
use Rattle.cw_world.specs.Logs.{logs_of}
use Rattle.cw_world.proofs.Quiet.{quiet-keeps}
use Rattle.cw_world.proofs.world.World.verify.Goals as goal

pub invariant_of-self : goal.invariant_of-self
invariant_of-self g c = quiet-keeps g.D.Disk (logs_of c.self.inside.logs.config c.self.inside.logs.offsets c.self.inside.logs.status c.self.inside.logs.txn c.self.inside.logs.batches) (verify c.args.i) c.self.inside.cluster c.verify.new.self c.verify.result
    (c.verifying_keeps_facts.ensures.verify c.self.inside.cluster.setting c.self.inside.cluster.state c.args.i (subst (λ (v : WorldState g.row.D.Denot). MayVerify c.args.i v.state) (sym c.self.view_is) c.requires.may)) c.verify.ensures c.self.invariant
