use Rattle.std.proofs.Common.{Ok, refl, sym, ap, subst}
use Rattle.cw_data.specs.Log.{taken}
use Rattle.cw_script.specs.declared.directive.Directive.{Directive}
use Rattle.cw_script.specs.declared.directive.Directive.TheVariants as directive
use Rattle.cw_model.specs.Answers.{answered}
use Rattle.cw_model.specs.Lookups.{held}
use Rattle.cw_world.specs.World.{Acts}
use Rattle.cw_cluster.specs.declared.outcome.Outcome.{Outcome}
use Rattle.cw_cluster.specs.declared.outcome.Outcome.TheVariants as came
use Rattle.cw_cluster.specs.Events.{event_of, found}
use Rattle.cw_cluster.proofs.Coming.{looked, looks-acts}
use Rattle.cw_cluster.proofs.directives.act.Goals as goal

pub returns-in-Held : goal.returns-in-Held
unfolding event_of
returns-in-Held g c =
    subst (λ (d : Directive). Acts g.D.Disk (event_of c.args.world.now.setting d) c.args.world.now c.args.world.now c.held.result) (sym c.in-Held.is)
    (looks-acts g.D.Disk (event_of c.args.world.now.setting (directive.Held c.in-Held.w)) c.args.world.now (came.Held c.in-Held.w (held c.in-Held.w c.args.world.now.state)) c.held.result refl c.held.ensures)

pub returns-in-Member : goal.returns-in-Member
unfolding event_of
returns-in-Member g c =
    subst (λ (d : Directive). Acts g.D.Disk (event_of c.args.world.now.setting d) c.args.world.now c.args.world.now (Ok c.member.result)) (sym c.in-Member.is)
    (looked g.D.Disk (event_of c.args.world.now.setting (directive.Member c.in-Member.w)) c.args.world.now c.member.result (ap (λ (o : Outcome). answered o c.args.world.now.state) (sym c.member.ensures)))

pub returns-in-Take : goal.returns-in-Take
unfolding event_of
returns-in-Take g c =
    subst (λ (d : Directive). Acts g.D.Disk (event_of c.args.world.now.setting d) c.args.world.now c.args.world.now c.take.result) (sym c.in-Take.is)
    (looks-acts g.D.Disk (event_of c.args.world.now.setting (directive.Take c.in-Take.topic c.in-Take.from)) c.args.world.now (found (taken c.in-Take.topic c.in-Take.from c.args.world.now.state.batches)) c.take.result refl c.take.ensures)
