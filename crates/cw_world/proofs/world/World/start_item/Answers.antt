use Rattle.std.proofs.Common.{sym, subst}
use Rattle.cw_model.specs.EventsItems.{start_item, MayStart}
use Rattle.cw_world.specs.World.{WorldState}
use Rattle.cw_world.specs.Logs.{logs_of}
use Rattle.cw_world.proofs.Quiet.{wanting-keeps}
use Rattle.cw_world.proofs.world.World.start_item.Goals as goal

pub invariant_of-self : goal.invariant_of-self
invariant_of-self g c = wanting-keeps g.D.Disk (logs_of c.self.inside.logs.config c.self.inside.logs.offsets c.self.inside.logs.status c.self.inside.logs.txn c.self.inside.logs.batches) (start_item c.args.w c.args.item.now) c.self.inside.cluster c.start_item.new.self c.start_item.result
    (c.starts_keep_facts.ensures.start_item c.self.inside.cluster.setting c.self.inside.cluster.state c.args.w c.args.item.now (subst (λ (v : WorldState g.row.D.Denot). MayStart c.args.w c.args.item.now v.state) (sym c.self.view_is) c.requires.may)) c.start_item.ensures c.self.invariant
