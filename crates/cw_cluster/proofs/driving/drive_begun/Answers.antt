use Rattle.std.proofs.Common.{ℕ, List, sym, ap, subst, ◌∙◌}
use Rattle.cw_types.specs.Faults.{Rose}
use Rattle.cw_lines.specs.Due.{Drives}
use Rattle.cw_lines.specs.Players.{IsAt, player_of}
use Rattle.cw_model.specs.State.{Setting}
use Rattle.cw_world.specs.World.{WorldState}
use Rattle.cw_run.specs.Ran.{Ran}
use Rattle.cw_run.specs.Rules.{drive_rules}
use Rattle.cw_cluster.specs.declared.running.Running.{Running}
use Rattle.cw_cluster.specs.Breaking.{IsAlive, ran_of}
use Rattle.cw_cluster.specs.Driven.{IsLeft, IsLeftBroken}
use Rattle.cw_cluster.specs.Lined.{IsBrokenInLine, playing_of}
use Rattle.cw_cluster.proofs.Drives.{drives-to}
use Rattle.cw_cluster.proofs.driving.drive_begun.Goals as goal

pub returns-clause-drives : goal.returns-clause-drives
returns-clause-drives g c =
    let G = g.D.Disk in let O = g.U.Outlet in
    let before = c.new-player.result.running in let player = c.drive_lines-end.new.player in let running = player.running in
    let disks = c.give_back-disks.result.0 in let out = c.give_back-disks.result.1 in
    let end = c.drive_lines-end.result in
    let at : Ran → Type 0 = λ r. IsAt (IsAlive G running.world) (playing_of G O running.world running.outlet player.answers) r in
    let broken : ℕ → List ℕ → Ran → List ℕ → Type 0 = λ number line r words. IsBrokenInLine G O running.world running.outlet number line r words in
    let over : WorldState g.row.D.Denot → g.row.U.Denot → List ℕ → Type 0 = λ w o bytes.
    Drives (player_of drive_rules w.setting) (drive_rules.amid w.setting) end (ran_of G O w o) bytes (g.I.Source.left c.drive_lines-end.new.input)
    (g.O.Sink.held c.args.output.now) (g.O.Sink.held c.drive_lines-end.new.output)
    (Rose (g.O.Sink.faults c.args.output.now) (g.O.Sink.faults c.drive_lines-end.new.output)) at broken in
    let world_is = ap (λ (r : Running g.row.K.Denot g.row.D.Denot g.row.U.Denot g.K.Begun g.D.Disk g.U.Outlet). r.world) c.new-player.ensures.running ∙ c.new-running.ensures.world in
    let outlet_is = ap (λ (r : Running g.row.K.Denot g.row.D.Denot g.row.U.Denot g.K.Begun g.D.Disk g.U.Outlet). r.outlet) c.new-player.ensures.running ∙ c.new-running.ensures.outlet in
    λ bytes told. drives-to _ _ end _ bytes _ _ _ _ at (IsLeft G O disks out) broken (IsLeftBroken G O c.args.world.setting disks out)
    (λ r stands. subst (IsLeft G O disks out) stands.is (c.give_back-disks.ensures.left stands.alive))
    (λ number line r words failed. subst (λ (s : Setting). IsLeftBroken G O s disks out number line r words) (running.setting ∙ sym c.requires.setting)
    (c.give_back-disks.ensures.broken number line r words failed))
    (subst (λ (o : g.row.U.Denot). over c.args.world o bytes) outlet_is
    (subst (λ (w : WorldState g.row.D.Denot). over w before.outlet bytes) world_is (c.drive_lines-end.ensures.drives bytes told)))
