use Rattle.std.proofs.Common.{◌∙◌, inr, refl, sym, subst}
use Rattle.cw_open.specs.Reopened.{disk_in}
use Rattle.cw_types.specs.Faults.{Rose}
use Rattle.cw_world.specs.Ending.{disks_of}
use Rattle.cw_cluster.specs.Breaking.{ran_of}
use Rattle.cw_cluster.specs.Driven.{faults_at, faults_of}
use Rattle.cw_connect.specs.Making.{AreMade}
use Rattle.cw_connect.proofs.Opened.{all_made}
use Rattle.cw_connect.proofs.Refused.{ended_store, rose_from}
use Rattle.cw_connect.proofs.Runs.{not_done}
use Rattle.cw_connect.proofs.driving.open_and_drive.Goals as goal

pub returns-in-Ok-clause-runs : goal.returns-in-Ok-clause-runs
returns-in-Ok-clause-runs g c = inr (record {
  setting = c.in-Ok.world.setting;
  ran = ran_of g.D.Disk g.U.Outlet c.in-Ok.world c.args.outlet;
  set = c.in-Ok.ensures.set;
  from = c.in-Ok.ensures.from;
  files = refl;
  end = c.drive-end.result.end;
  status_is = c.of_end.ensures;
  drives = λ bytes told. c.drive-end.ensures.drives bytes told;
})

pub returns-in-Ok-clause-store_fault : goal.returns-in-Ok-clause-store_fault
returns-in-Ok-clause-store_fault g c = λ disk count is.
    let risen = ended_store (Rose (g.I.Source.faults c.args.input.now) (g.I.Source.faults c.drive-end.new.input)) (Rose (g.O.Sink.faults c.args.output.now) (g.O.Sink.faults c.drive-end.new.output))
    (faults_of g.D.Disk g.U.Outlet c.in-Ok.world c.args.outlet) (faults_at g.D.Disk g.U.Outlet c.drive-end.result.disks c.drive-end.result.outlet)
    c.drive-end.result.end c.drive-end.ensures.caused disk count (sym c.of_end.ensures ∙ is) in
    record {
      now_is = risen.is;
      rose = rose_from (g.D.Disk.count (disk_in disk c.args.disks)) (g.D.Disk.count (disk_in disk (disks_of c.in-Ok.world.logs))) (g.D.Disk.count (disk_in disk c.drive-end.result.disks))
          (c.in-Ok.ensures.later_disks disk) risen.rose;
    }

pub returns-in-Ok-clause-makes : goal.returns-in-Ok-clause-makes
returns-in-Ok-clause-makes g c = λ empty done files tell unmade.
    subst (AreMade g.D.Disk files) (sym (c.drive-end.ensures.idle empty).0) (all_made g.D.Disk c.args.disks c.in-Ok.world.logs files c.in-Ok.ensures.logs tell unmade)

pub returns-in-Err-clause-makes : goal.returns-in-Err-clause-makes
returns-in-Err-clause-makes g c = λ empty done files tell unmade. absurd (not_done g.D.Disk c.args.disks c.in-Err.refusal.disks c.in-Err.refusal.status c.in-Err.ensures.left done)
