use Rattle.std.proofs.Common.{ℕ, ap, ◌∙◌}
use Rattle.cw_types.specs.declared.logs.DiskName.{DiskName}
use Rattle.cw_types.specs.declared.logs.LogName.{LogName}
use Rattle.cw_lines.specs.Plays.{Played}
use Rattle.cw_model.specs.State.{Cluster}
use Rattle.cw_world.specs.Ending.{disks_of}
use Rattle.cw_open.specs.Reopened.{disk_in}
use Rattle.cw_cluster.specs.Breaking.{ran_of}
use Rattle.cw_run.specs.Run.{play_line}
use Rattle.cw_gen.proofs.Ends.{ends-same, stops-full, stops-unfinished, whole-line}
use Rattle.cw_gen.proofs.Turned.{played-so}
use Rattle.cw_gen.proofs.making.play.Goals as goal

pub why_unfinished-requires : goal.why_unfinished-requires
why_unfinished-requires g c =
    let old = c.args.player.now.running in
    let new = c.play_line.new.self.running in
    stops-unfinished old.world.setting c.args.number c.args.line.now (ran_of g.D.Disk g.U.Outlet old.world old.outlet)
    c.requires.says.0 c.requires.says.1 c.requires.says.2 c.in-Err.end _ _ _ _ _ _ _
    (λ (name : DiskName). c.requires.steady (disk_in name (disks_of old.world.logs)))
    (λ (name : DiskName). c.requires.steady (disk_in name (disks_of new.world.logs)))
    (c.requires.lasting old.outlet) (c.requires.lasting new.outlet) c.in-Err.ensures.stop c.in-Err.ensures.caused

pub returns-in-Ok-clause-played : goal.returns-in-Ok-clause-played
returns-in-Ok-clause-played g c =
    let old = c.args.player.now in
    let new = c.play_line.new.self in
    played-so g.D.Disk g.U.Outlet old.running.world new.running.world old.running.outlet new.running.outlet old.answers new.answers
    c.args.number c.args.line.now c.requires.few c.requires.short c.requires.silent c.in-Ok.ensures.go c.in-Ok.ensures.alive

pub returns-in-Err-clause-ends : goal.returns-in-Err-clause-ends
returns-in-Err-clause-ends g c =
    let old = c.args.player.now.running in
    ends-same (play_line old.world.setting c.args.number c.args.line.now old.world.state) c.in-Err.end c.why_unfinished.result c.why_unfinished.ensures
    (λ (log : LogName) (length frame : ℕ) is.
    ap (λ (p : Played Cluster). p.stop) (whole-line old.world.setting c.args.number c.args.line.now old.world.state c.requires.few c.requires.short)
    ∙ stops-full old.world.setting c.args.number c.args.line.now (ran_of g.D.Disk g.U.Outlet old.world old.outlet)
    c.requires.says.0 c.requires.says.1 c.requires.says.2 c.in-Err.end _ _ _ _ _ c.in-Err.ensures.stop log length frame is)
