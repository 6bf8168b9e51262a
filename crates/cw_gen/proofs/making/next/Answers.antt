use Rattle.std.proofs.Common.{◌≡◌, ℕ, ◌<◌, ◌^◌, length, ap, ◌∙◌, arith}
use Rattle.std.proofs.lemmas.Result.{IfOk-weaker}
use Rattle.cw_script.specs.declared.directive.Directive.{Directive}
use Rattle.cw_model.specs.State.{Cluster}
use Rattle.cw_world.specs.World.{WorldState}
use Rattle.cw_gen.specs.Directives.{due}
use Rattle.cw_gen.specs.Playing.{IsPlayable}
use Rattle.cw_gen.proofs.Turned.{is-playable}
use Rattle.cw_gen.proofs.making.next.Goals as goal

pub returns-clause-playable : goal.returns-clause-playable
returns-clause-playable g c =
    let s : Cluster = c.args.player.now.running.world.state in
    let i : ℕ = c.instances-instances.result in
    let m : ℕ = c.moment-moment.result in
    let state-is : c.cluster-cluster.result.now.state ≡ s =
    c.cluster-cluster.ensures.state ∙ ap (λ (v : WorldState g.row.D.Denot). v.state) c.world.ensures in
    let instances-are : i ≡ length s.instances = c.instances-instances.ensures ∙ ap (λ (t : Cluster). length t.instances) state-is in
    let moment-is : m ≡ s.moment = c.moment-moment.ensures ∙ ap (λ (t : Cluster). t.moment) state-is in
    let fit : i < 2 ^ 64 = omega arith in
    IfOk-weaker c.due.result
    (λ (d : Directive). due c.args.made i m c.args.draws.now ≡ record { directive = d; number = c.due.new.draws })
    (λ (d : Directive). IsPlayable d s)
    (λ d is. is-playable s c.args.made i m c.args.draws.now d c.due.new.draws instances-are moment-is fit is c.requires)
    c.due.ensures
