use Rattle.std.proofs.Common.{◌∙◌}
use Rattle.cw_script.specs.declared.directive.Directive.TheVariants as directive
use Rattle.cw_cluster.proofs.Lined.{over-directive}
use Rattle.cw_cluster.proofs.player.Player.play_step.Goals as goal

pub invariant_of-self : goal.invariant_of-self
invariant_of-self g c = let p = c.args.self.now.running in
    record { setting = c.play_step.ensures.played.setting ∙ p.setting; told = c.play_step.ensures.outlet.told ∙ p.told }

pub returns : goal.returns
returns g c = let p = c.args.self.now in
    over-directive g.D.Disk g.U.Outlet (directive.Step c.args.i) p.running.world c.play_step.new.world p.running.outlet c.play_step.new.outlet p.answers c.play_step.new.answers c.play_step.result
    c.play_step.ensures.played c.play_step.ensures.outlet
