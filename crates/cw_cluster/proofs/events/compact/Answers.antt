use Rattle.std.proofs.Common.{Ok, Err, refl, sym, ap}
use Rattle.cw_script.specs.declared.directive.Directive.TheVariants as directive
use Rattle.cw_model.specs.EventsCompaction.{compact}
use Rattle.cw_cluster.specs.declared.outcome.Outcome.TheVariants as came
use Rattle.cw_cluster.specs.Events.{came_to, compacted, event_of}
use Rattle.cw_cluster.proofs.Coming.{writes-comes}
use Rattle.cw_cluster.proofs.events.compact.Goals as goal

pub returns-in-Ok : goal.returns-in-Ok
unfolding event_of
returns-in-Ok g c =
    writes-comes g.D.Disk (compact c.args.log) (event_of c.args.world.now.setting (directive.Compact c.args.log)) (compacted c.args.log) c.args.world.now c.compact.new.self c.compact.result (Ok (came.Compacted c.args.log c.in-Ok.before c.in-Ok.after)) refl
    (sym (ap (came_to (compacted c.args.log)) c.in-Ok.is)) c.args.log c.compact.ensures

pub returns-in-Err : goal.returns-in-Err
unfolding event_of
returns-in-Err g c =
    writes-comes g.D.Disk (compact c.args.log) (event_of c.args.world.now.setting (directive.Compact c.args.log)) (compacted c.args.log) c.args.world.now c.compact.new.self c.compact.result (Err c.in-Err.fault) refl
    (sym (ap (came_to (compacted c.args.log)) c.in-Err.is)) c.args.log c.compact.ensures
