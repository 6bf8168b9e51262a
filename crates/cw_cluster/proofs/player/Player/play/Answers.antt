use Rattle.std.proofs.Common.{◌≡◌, Some, None, sym, ap, ◌∙◌}
use Rattle.cw_run.specs.Run.{missing}
use Rattle.cw_cluster.proofs.Lined.{missing-said, over-said}
use Rattle.cw_cluster.proofs.player.Player.play.Goals as goal

pub play_there-requires-clause-there : goal.play_there-requires-clause-there
play_there-requires-clause-there g c = ap (missing c.args.directive.now) (sym c.cluster.ensures.state) ∙ sym c.in-None.ensures

pub returns-in-Some : goal.returns-in-Some
returns-in-Some g c = let p = c.args.self.now in
    missing-said g.D.Disk g.U.Outlet c.args.number p.running.world p.running.outlet p.answers c.requires.alive c.args.directive.now c.in-Some.kind
    (ap (missing c.args.directive.now) (sym c.cluster.ensures.state) ∙ sym c.in-Some.ensures)

pub returns-in-None : goal.returns-in-None
returns-in-None g c = let p = c.args.self.now in let q = c.play_there.new.self in
    over-said g.D.Disk g.U.Outlet c.args.number c.args.directive.now p.running.world q.running.world p.running.outlet q.running.outlet p.answers q.answers
    (ap (missing c.args.directive.now) (sym c.cluster.ensures.state) ∙ sym c.in-None.ensures) c.play_there.result c.play_there.ensures
