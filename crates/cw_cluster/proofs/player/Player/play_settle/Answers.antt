use Rattle.std.proofs.Common.{sym, subst, ◌∙◌}
use Rattle.cw_script.specs.declared.directive.Directive.TheVariants.{Settle}
use Rattle.cw_cluster.specs.declared.running.Running.{Running}
use Rattle.cw_cluster.specs.Lined.{PlaysOver}
use Rattle.cw_cluster.proofs.Settled.{settled-over}
use Rattle.cw_cluster.proofs.player.Player.play_settle.Goals as goal

pub returns : goal.returns
returns g c =
    let G = g.D.Disk in let O = g.U.Outlet in
    let p = c.args.self.now in let mid = c.settle-settled.new.turning in let q = c.say_settled.new.self in
    subst (λ (x : Running g.row.K.Denot g.row.D.Denot g.row.U.Denot g.K.Begun g.D.Disk g.U.Outlet).
    PlaysOver G O (Settle c.args.most) p.running.world x.world p.running.outlet x.outlet p.answers q.answers c.say_settled.result) (sym c.say_settled.ensures.running)
    (settled-over G O c.args.most p.running.world mid.world p.running.outlet mid.outlet p.answers q.answers c.requires.alive c.settle-settled.ensures.setting (mid.told ∙ sym p.running.told) c.settle-settled.ensures.later
    c.settle-settled.result c.say_settled.result c.settle-settled.ensures.settles c.settle-settled.ensures.alive c.settle-settled.ensures.caused c.say_settled.ensures.says)
