use Rattle.std.proofs.Common.{Err, ap, ◌∙◌}
use Rattle.cw_cluster.proofs.TurnsTaken.{step-made, step-refused}
use Rattle.cw_cluster.proofs.running.RunningTurning.step.Goals as goal

pub returns-in-Ok : goal.returns-in-Ok
returns-in-Ok g c =
    let p = c.args.self.now in
    let taken = step-made g.D.Disk g.U.Outlet c.args.i p.world c.step.new.world p.outlet c.step.new.outlet c.requires.alive (c.is_safe.ensures.holds c.requires.alive.alive)
    c.step.result c.step.ensures c.in-Ok.did c.in-Ok.is in
    record { turn = taken.turn; setting = taken.setting; alive = taken.alive; later = taken.later; caused = tt }

pub returns-in-Err-World : goal.returns-in-Err-World
returns-in-Err-World g c =
    let p = c.args.self.now in
    let taken = step-refused g.D.Disk g.U.Outlet c.args.i p.world c.step.new.world p.outlet c.step.new.outlet c.requires.alive (c.is_safe.ensures.holds c.requires.alive.alive)
    c.step.result c.step.ensures c.in-Err-World.fault c.fault_of_turn.result (c.in-Err-World.is ∙ ap Err c.in-Err-World.field-0-is) c.fault_of_turn.ensures in
    record { turn = taken.turn; setting = taken.setting; alive = taken.alive; later = taken.later; caused = taken.caused }
