use Rattle.std.proofs.Common.{◌∙◌}
use Rattle.cw_cluster.proofs.Lined.{over-directive, untouched}
use Rattle.cw_cluster.proofs.player.Player.play_plain.Goals as goal

pub invariant_of-self : goal.invariant_of-self
invariant_of-self g c = let p = c.args.self.now.running in
    record { setting = (c.play.ensures.played (g.U.Outlet.files p.outlet)).setting ∙ p.setting; told = p.told }

pub returns : goal.returns
returns g c = let p = c.args.self.now in let out = p.running.outlet in
    over-directive g.D.Disk g.U.Outlet c.args.directive.now p.running.world c.play.new.world out out p.answers c.play.new.answers c.play.result
    (c.play.ensures.played (g.U.Outlet.files out)) (untouched g.U.Outlet out c.play.result c.play.ensures.outlet)
