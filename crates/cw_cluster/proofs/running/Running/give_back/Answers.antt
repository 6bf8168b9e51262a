use Rattle.cw_model.specs.Reopening.{stored_of}
use Rattle.cw_cluster.proofs.Left.{left-alive, left-broken}
use Rattle.cw_cluster.proofs.running.Running.give_back.Goals as goal

pub returns-clause-left : goal.returns-clause-left
returns-clause-left g c = let p = c.args.self in let given = c.give_back-disks.result.0 in
    λ alive. left-alive g.D.Disk g.U.Outlet p.world p.outlet given alive
    (λ kinds tells. c.given_disks_leave_what_was_stored.ensures p.world.logs given (stored_of p.world.state) kinds tells (c.give_back-disks.ensures.stored alive.alive))

pub returns-clause-broken : goal.returns-clause-broken
returns-clause-broken g c = let p = c.args.self in
    λ number line ran said broken. left-broken g.D.Disk g.U.Outlet p.world p.outlet c.give_back-disks.result.0 c.give_back-disks.ensures.disks c.give_back-disks.ensures.told number line ran said broken
