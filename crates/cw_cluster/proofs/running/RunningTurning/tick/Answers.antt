use Rattle.std.proofs.Common.{ap, ◌∙◌}
use Rattle.cw_model.specs.State.{Cluster}
use Rattle.cw_cluster.proofs.TurnsTaken.{tick-done, tick-refused}
use Rattle.cw_cluster.proofs.running.RunningTurning.tick.Goals as goal

pub returns-in-Ok : goal.returns-in-Ok
returns-in-Ok g c =
    let p = c.args.self.now in
    let taken = tick-done g.D.Disk g.U.Outlet c.args.w c.moment-now.result p.world c.tick.new.world p.outlet c.requires.alive (c.is_safe.ensures.holds c.requires.alive.alive)
    (c.moment-now.ensures ∙ ap (λ (s : Cluster). s.moment) c.cluster.ensures.state) c.tick.result c.tick.ensures c.in-Ok.did c.in-Ok.is in
    record { turn = taken.turn; setting = taken.setting; alive = taken.alive; later = taken.later; caused = tt }

pub returns-in-Err : goal.returns-in-Err
returns-in-Err g c =
    let p = c.args.self.now in
    let taken = tick-refused g.D.Disk g.U.Outlet c.args.w c.moment-now.result p.world c.tick.new.world p.outlet c.requires.alive (c.is_safe.ensures.holds c.requires.alive.alive)
    (c.moment-now.ensures ∙ ap (λ (s : Cluster). s.moment) c.cluster.ensures.state) c.tick.result c.tick.ensures c.in-Err.fault c.fault_of_turn.result c.in-Err.is c.fault_of_turn.ensures in
    record { turn = taken.turn; setting = taken.setting; alive = taken.alive; later = taken.later; caused = taken.caused }
