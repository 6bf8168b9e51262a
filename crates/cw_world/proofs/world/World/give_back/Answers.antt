use Rattle.cw_model.specs.Reopening.{stored_of}
use Rattle.cw_world.specs.Logs.{logs_of}
use Rattle.cw_world.proofs.Ended.{leaves-stored}
use Rattle.cw_world.proofs.world.World.give_back.Goals as goal

pub returns-clause-stored : goal.returns-clause-stored
returns-clause-stored g c = let l = c.self.inside.logs in rw (← c.self.view_is) (λ alive. leaves-stored g.D.Disk (stored_of c.self.inside.cluster.state)
    (logs_of l.config l.offsets l.status l.txn l.batches) c.give_back_logs-disks.result (c.self.invariant.holds alive) c.give_back_logs-disks.ensures.left)
