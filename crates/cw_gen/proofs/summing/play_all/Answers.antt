use Rattle.std.proofs.Common.{◌≡◌, ap, subst, ◌∙◌}
use Rattle.std.specs.Prelude.{IfOk, IfErr}
use Rattle.cw_world.specs.World.{WorldState}
use Rattle.cw_cluster.specs.declared.running.Running.{Running}
use Rattle.cw_gen.specs.Playing.{AreBehind, EndsSo}
use Rattle.cw_gen.specs.Scripts.{making, run_of}
use Rattle.cw_gen.proofs.summing.play_all.Goals as goal

pub returns-clause-behind : goal.returns-clause-behind
returns-clause-behind g c =
    let world-is = ap (λ (r : Running g.row.K.Denot g.row.D.Denot g.row.U.Denot g.K.Begun g.D.Disk g.U.Outlet). r.world) c.new.ensures.running ∙ c.new-running.ensures.world in
    subst (λ (w : WorldState g.row.D.Denot). IfOk c.play_over.result (AreBehind g.D.Disk w.setting c.args.start c.args.count)) world-is
    c.play_over.ensures.behind

pub returns-clause-ends : goal.returns-clause-ends
returns-clause-ends g c =
    let world-is = ap (λ (r : Running g.row.K.Denot g.row.D.Denot g.row.U.Denot g.K.Begun g.D.Disk g.U.Outlet). r.world) c.new.ensures.running ∙ c.new-running.ensures.world in
    subst (λ (w : WorldState g.row.D.Denot). IfErr c.play_over.result (EndsSo (run_of w.setting (making w.setting c.args.start c.args.count).lines))) world-is
    c.play_over.ensures.ends
