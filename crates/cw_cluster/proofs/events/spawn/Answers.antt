use Rattle.std.proofs.Common.{Ok, Err, refl, sym, ap}
use Rattle.cw_script.specs.declared.directive.Directive.TheVariants as directive
use Rattle.cw_model.specs.EventsWorkers.{spawn}
use Rattle.cw_cluster.specs.declared.outcome.Outcome.TheVariants as came
use Rattle.cw_cluster.specs.Events.{came_to, event_of}
use Rattle.cw_cluster.proofs.Coming.{wants-comes}
use Rattle.cw_cluster.proofs.events.spawn.Goals as goal

pub returns-in-Ok : goal.returns-in-Ok
unfolding event_of
returns-in-Ok g c =
    wants-comes g.D.Disk spawn (event_of c.args.world.now.setting directive.Spawn) came.Spawned c.args.world.now c.spawn.new.self c.spawn.result (Ok (came.Spawned c.in-Ok.w)) refl
    (sym (ap (came_to came.Spawned) c.in-Ok.is)) c.spawn.ensures

pub returns-in-Err : goal.returns-in-Err
unfolding event_of
returns-in-Err g c =
    wants-comes g.D.Disk spawn (event_of c.args.world.now.setting directive.Spawn) came.Spawned c.args.world.now c.spawn.new.self c.spawn.result (Err c.in-Err.fault) refl
    (sym (ap (came_to came.Spawned) c.in-Err.is)) c.spawn.ensures
