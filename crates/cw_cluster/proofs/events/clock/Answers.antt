use Rattle.std.proofs.Common.{Ok, refl}
use Rattle.cw_script.specs.declared.directive.Directive.TheVariants as directive
use Rattle.cw_model.specs.EventsWorkers.{clock}
use Rattle.cw_cluster.specs.declared.outcome.Outcome.TheVariants as came
use Rattle.cw_cluster.specs.Events.{event_of}
use Rattle.cw_cluster.proofs.Coming.{does-comes}
use Rattle.cw_cluster.proofs.events.clock.Goals as goal

pub returns : goal.returns
unfolding event_of
returns g c =
    does-comes g.D.Disk (clock c.args.to) (event_of c.args.world.now.setting (directive.Clock c.args.to)) came.Clock c.args.world.now c.clock.new.self (Ok c.clock.result) (Ok (came.Clock c.clock.result)) refl refl
    c.clock.ensures
