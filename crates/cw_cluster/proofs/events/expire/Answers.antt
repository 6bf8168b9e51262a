use Rattle.std.proofs.Common.{◌≡◌, ℕ, Ok, Err, sym, ap, subst, ◌∙◌}
use Rattle.cw_script.specs.declared.directive.Directive.TheVariants as directive
use Rattle.cw_model.specs.State.{Cluster}
use Rattle.cw_model.specs.EventsWorkers.{expire}
use Rattle.cw_world.specs.World.{Does, WorldState}
use Rattle.cw_herder.proofs.Asked.{at-own}
use Rattle.cw_cluster.specs.declared.outcome.Outcome.{Outcome}
use Rattle.cw_cluster.specs.declared.outcome.Outcome.TheVariants as came
use Rattle.cw_cluster.specs.Events.{came_to, comes_to, event_of}
use Rattle.cw_cluster.proofs.Coming.{does-comes}
use Rattle.cw_cluster.proofs.events.expire.Goals as goal

abbrev outcome : ℕ → Unit {0} → Outcome
outcome n done = came.Expired n

pub returns-in-Ok : goal.returns-in-Ok
unfolding event_of
returns-in-Ok g c =
    let n : ℕ = c.number_of-number.result in
    let own : c.moment-now.result ≡ c.args.world.now.state.moment = c.moment-now.ensures ∙ ap (λ (t : Cluster). t.moment) c.cluster.ensures.state in
    does-comes g.D.Disk (expire c.args.world.now.setting n) (event_of c.args.world.now.setting (directive.Expire c.args.w)) (outcome n) c.args.world.now c.expire.new.self c.expire.result (Ok (came.Expired n))
    (ap (λ (m : ℕ). comes_to (outcome m) (expire c.args.world.now.setting m c.args.world.now.state)) (sym c.number_of-number.ensures)) (sym (ap (came_to (outcome n)) c.in-Ok.is))
    (subst (λ (o : WorldState _). Does (expire c.args.world.now.setting n) o c.expire.new.self c.expire.result) (at-own c.args.world.now c.moment-now.result own) c.expire.ensures)

pub returns-in-Err : goal.returns-in-Err
unfolding event_of
returns-in-Err g c =
    let n : ℕ = c.number_of-number.result in
    let own : c.moment-now.result ≡ c.args.world.now.state.moment = c.moment-now.ensures ∙ ap (λ (t : Cluster). t.moment) c.cluster.ensures.state in
    does-comes g.D.Disk (expire c.args.world.now.setting n) (event_of c.args.world.now.setting (directive.Expire c.args.w)) (outcome n) c.args.world.now c.expire.new.self c.expire.result (Err c.in-Err.fault)
    (ap (λ (m : ℕ). comes_to (outcome m) (expire c.args.world.now.setting m c.args.world.now.state)) (sym c.number_of-number.ensures)) (sym (ap (came_to (outcome n)) c.in-Err.is))
    (subst (λ (o : WorldState _). Does (expire c.args.world.now.setting n) o c.expire.new.self c.expire.result) (at-own c.args.world.now c.moment-now.result own) c.expire.ensures)
