use Rattle.std.proofs.Common.{ℕ, Ok, Err, sym, ap}
use Rattle.cw_script.specs.declared.directive.Directive.TheVariants as directive
use Rattle.cw_model.specs.EventsWorkers.{kill}
use Rattle.cw_cluster.specs.declared.outcome.Outcome.{Outcome}
use Rattle.cw_cluster.specs.declared.outcome.Outcome.TheVariants as came
use Rattle.cw_cluster.specs.Events.{came_to, comes_to, event_of}
use Rattle.cw_cluster.proofs.Coming.{does-comes}
use Rattle.cw_cluster.proofs.events.kill.Goals as goal

abbrev outcome : ℕ → Unit {0} → Outcome
outcome n done = came.Killed n

pub returns-in-Ok : goal.returns-in-Ok
unfolding event_of
returns-in-Ok g c =
    does-comes g.D.Disk (kill c.number_of-number.result) (event_of c.args.world.now.setting (directive.Kill c.args.w)) (outcome c.number_of-number.result) c.args.world.now c.kill.new.self c.kill.result (Ok (came.Killed c.number_of-number.result))
    (ap (λ (n : ℕ). comes_to (outcome n) (kill n c.args.world.now.state)) (sym c.number_of-number.ensures)) (sym (ap (came_to (outcome c.number_of-number.result)) c.in-Ok.is)) c.kill.ensures

pub returns-in-Err : goal.returns-in-Err
unfolding event_of
returns-in-Err g c =
    does-comes g.D.Disk (kill c.number_of-number.result) (event_of c.args.world.now.setting (directive.Kill c.args.w)) (outcome c.number_of-number.result) c.args.world.now c.kill.new.self c.kill.result (Err c.in-Err.fault)
    (ap (λ (n : ℕ). comes_to (outcome n) (kill n c.args.world.now.state)) (sym c.number_of-number.ensures)) (sym (ap (came_to (outcome c.number_of-number.result)) c.in-Err.is)) c.kill.ensures
