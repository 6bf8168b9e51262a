use Rattle.std.proofs.Common.{sym, ap, ◌∙◌}
use Rattle.cw_world.specs.Logs.{logs_of, view_in}
use Rattle.cw_world.specs.World.{WorldState}
use Rattle.cw_world.proofs.Ended.{held-size}
use Rattle.cw_world.proofs.world.World.log_size.Goals as goal

pub returns-clause-held : goal.returns-clause-held
returns-clause-held g c = let l = c.self.inside.logs in rw (← c.self.view_is)
    (held-size g.D.Disk c.args.log c.self.inside.cluster.state (logs_of l.config l.offsets l.status l.txn l.batches) c.told_size.result c.self.invariant.holds
    (c.told_size.ensures ∙ ap (λ (w : WorldState g.row.D.Denot). ((view_in g.D.Disk c.args.log w.logs).size, (view_in g.D.Disk c.args.log w.logs).bytes)) (sym c.self.view_is)))
