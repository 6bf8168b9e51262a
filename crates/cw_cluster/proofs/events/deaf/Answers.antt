use Rattle.std.proofs.Common.{ℕ, Ok, Err, sym, ap}
use Rattle.cw_script.specs.declared.directive.Directive.TheVariants as directive
use Rattle.cw_model.specs.EventsWorkers.{deaf}
use Rattle.cw_cluster.specs.declared.outcome.Outcome.{Outcome}
use Rattle.cw_cluster.specs.declared.outcome.Outcome.TheVariants as came
use Rattle.cw_cluster.specs.Events.{came_to, comes_to, event_of}
use Rattle.cw_cluster.proofs.Coming.{does-comes}
use Rattle.cw_cluster.proofs.events.deaf.Goals as goal

abbrev outcome : ℕ → Unit {0} → Outcome
outcome n done = came.Deaf n

pub returns-in-Ok : goal.returns-in-Ok
unfolding event_of
returns-in-Ok g c =
    does-comes g.D.Disk (deaf c.number_of-number.result) (event_of c.args.world.now.setting (directive.Deaf c.args.w)) (outcome c.number_of-number.result) c.args.world.now c.deaf.new.self c.deaf.result (Ok (came.Deaf c.number_of-number.result))
    (ap (λ (n : ℕ). comes_to (outcome n) (deaf n c.args.world.now.state)) (sym c.number_of-number.ensures)) (sym (ap (came_to (outcome c.number_of-number.result)) c.in-Ok.is)) c.deaf.ensures

pub returns-in-Err : goal.returns-in-Err
unfolding event_of
returns-in-Err g c =
    does-comes g.D.Disk (deaf c.number_of-number.result) (event_of c.args.world.now.setting (directive.Deaf c.args.w)) (outcome c.number_of-number.result) c.args.world.now c.deaf.new.self c.deaf.result (Err c.in-Err.fault)
    (ap (λ (n : ℕ). comes_to (outcome n) (deaf n c.args.world.now.state)) (sym c.number_of-number.ensures)) (sym (ap (came_to (outcome c.number_of-number.result)) c.in-Err.is)) c.deaf.ensures
