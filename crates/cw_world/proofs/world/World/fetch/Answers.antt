use Rattle.std.proofs.Common.{sym, subst}
use Rattle.cw_model.specs.EventsSources.{fetch, MayFetch}
use Rattle.cw_world.specs.World.{WorldState}
use Rattle.cw_world.specs.Logs.{logs_of}
use Rattle.cw_world.proofs.Quiet.{wanting-keeps}
use Rattle.cw_world.proofs.world.World.fetch.Goals as goal

pub invariant_of-self : goal.invariant_of-self
invariant_of-self g c = wanting-keeps g.D.Disk (logs_of c.self.inside.logs.config c.self.inside.logs.offsets c.self.inside.logs.status c.self.inside.logs.txn c.self.inside.logs.batches) (fetch c.args.i) c.self.inside.cluster c.fetch.new.self c.fetch.result
    (c.sources_begin_and_keep_facts.ensures.fetch c.self.inside.cluster.setting c.self.inside.cluster.state c.args.i (subst (λ (v : WorldState g.row.D.Denot). MayFetch c.args.i v.state) (sym c.self.view_is) c.requires.may)) c.fetch.ensures c.self.invariant
