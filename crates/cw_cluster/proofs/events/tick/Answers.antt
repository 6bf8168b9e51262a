use Rattle.std.proofs.Common.{◌≡◌, ℕ, Ok, Err, sym, ap, subst, ◌∙◌}
use Rattle.cw_script.specs.declared.directive.Directive.TheVariants as directive
use Rattle.cw_model.specs.State.{Cluster}
use Rattle.cw_model.specs.Tick.{tick}
use Rattle.cw_world.specs.World.{Acts, WorldState}
use Rattle.cw_herder.proofs.Asked.{at-own}
use Rattle.cw_cluster.specs.declared.outcome.Outcome.TheVariants as came
use Rattle.cw_cluster.specs.Events.{came_to, comes_to, event_of}
use Rattle.cw_cluster.proofs.Coming.{acts-comes}
use Rattle.cw_cluster.proofs.events.tick.Goals as goal

pub returns-in-Ok : goal.returns-in-Ok
unfolding event_of
returns-in-Ok g c =
    let n : ℕ = c.number_of-number.result in
    let own : c.moment-now.result ≡ c.args.world.now.state.moment = c.moment-now.ensures ∙ ap (λ (t : Cluster). t.moment) c.cluster.ensures.state in
    acts-comes g.D.Disk (tick n) (event_of c.args.world.now.setting (directive.Tick c.args.w)) (came.Tick n) c.args.world.now c.tick.new.world c.tick.result (Ok (came.Tick n c.in-Ok.tick))
    (ap (λ (m : ℕ). comes_to (came.Tick m) (tick m c.args.world.now.state)) (sym c.number_of-number.ensures)) (sym (ap (came_to (came.Tick n)) c.in-Ok.is))
    (subst (λ (o : WorldState _). Acts g.D.Disk (tick n) o c.tick.new.world c.tick.result) (at-own c.args.world.now c.moment-now.result own) c.tick.ensures)

pub returns-in-Err : goal.returns-in-Err
unfolding event_of
returns-in-Err g c =
    let n : ℕ = c.number_of-number.result in
    let own : c.moment-now.result ≡ c.args.world.now.state.moment = c.moment-now.ensures ∙ ap (λ (t : Cluster). t.moment) c.cluster.ensures.state in
    acts-comes g.D.Disk (tick n) (event_of c.args.world.now.setting (directive.Tick c.args.w)) (came.Tick n) c.args.world.now c.tick.new.world c.tick.result (Err c.in-Err.fault)
    (ap (λ (m : ℕ). comes_to (came.Tick m) (tick m c.args.world.now.state)) (sym c.number_of-number.ensures)) (sym (ap (came_to (came.Tick n)) c.in-Err.is))
    (subst (λ (o : WorldState _). Acts g.D.Disk (tick n) o c.tick.new.world c.tick.result) (at-own c.args.world.now c.moment-now.result own) c.tick.ensures)
