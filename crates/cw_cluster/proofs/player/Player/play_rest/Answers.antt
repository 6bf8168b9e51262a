use Rattle.std.proofs.Common.{◌∙◌}
use Rattle.cw_script.specs.declared.directive.Directive.TheVariants as directive
use Rattle.cw_cluster.proofs.Lined.{over-directive, untouched}
use Rattle.cw_cluster.proofs.player.Player.play_rest.Goals as goal

pub invariant_of-self : goal.invariant_of-self
invariant_of-self g c = let p = c.args.self.now.running in
    record { setting = (c.play_rest.ensures.played (g.U.Outlet.files p.outlet)).setting ∙ p.setting; told = p.told }

pub returns : goal.returns
returns g c = let p = c.args.self.now in let out = p.running.outlet in
    over-directive g.D.Disk g.U.Outlet (directive.Rest c.args.worker c.args.method.now c.args.target.now c.args.body.now) p.running.world c.play_rest.new.world out out p.answers c.play_rest.new.answers
    c.play_rest.result (c.play_rest.ensures.played (g.U.Outlet.files out)) (untouched g.U.Outlet out c.play_rest.result c.play_rest.ensures.outlet)
