use Rattle.std.proofs.Common.{Ok, Err, refl, sym, ap}
use Rattle.cw_script.specs.declared.directive.Directive.TheVariants as directive
use Rattle.cw_types.specs.declared.logs.LogName.TheVariants.{Txn}
use Rattle.cw_model.specs.EventsRaw.{raw_init}
use Rattle.cw_cluster.specs.declared.outcome.Outcome.TheVariants as came
use Rattle.cw_cluster.specs.Events.{came_to, event_of}
use Rattle.cw_cluster.proofs.Coming.{writes-comes}
use Rattle.cw_cluster.proofs.events.init.Goals as goal

pub returns-in-Ok : goal.returns-in-Ok
unfolding event_of
returns-in-Ok g c =
    writes-comes g.D.Disk (raw_init c.args.n) (event_of c.args.world.now.setting (directive.Init c.args.n)) came.Epoch c.args.world.now c.raw_init.new.self c.raw_init.result (Ok (came.Epoch c.in-Ok.epoch)) refl
    (sym (ap (came_to came.Epoch) c.in-Ok.is)) Txn c.raw_init.ensures

pub returns-in-Err : goal.returns-in-Err
unfolding event_of
returns-in-Err g c =
    writes-comes g.D.Disk (raw_init c.args.n) (event_of c.args.world.now.setting (directive.Init c.args.n)) came.Epoch c.args.world.now c.raw_init.new.self c.raw_init.result (Err c.in-Err.fault) refl
    (sym (ap (came_to came.Epoch) c.in-Err.is)) Txn c.raw_init.ensures
