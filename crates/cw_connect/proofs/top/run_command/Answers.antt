use Rattle.std.proofs.Common.{◌≡◌, ◌∙◌, ◌⊎◌, Some, ap, arith, refl, subst}
use Rattle.cw_model.specs.Reopening.{reopened, stored_of}
use Rattle.cw_words.specs.Asked.{command_of}
use Rattle.cw_words.specs.declared.command.Command.TheVariants.{Gen}
use Rattle.cw_words.specs.declared.command.GenOptions.{GenOptions}
use Rattle.cw_words.specs.declared.command.Options.{Options}
use Rattle.cw_words.specs.declared.command.ServeOptions.{ServeOptions}
use Rattle.cw_connect.specs.Audited.{IsAudited}
use Rattle.cw_connect.specs.Ended.{OpensDisks}
use Rattle.cw_connect.specs.Generated.{IsGenerated, run_asked}
use Rattle.cw_connect.specs.Opening.{IsSetFor}
use Rattle.cw_connect.specs.Outcomes.{IsRun}
use Rattle.cw_connect.specs.Served.{IsServeRun}
use Rattle.cw_connect.specs.Statuses.{status_of_stop}
use Rattle.cw_connect.specs.declared.status.Status.{Status}
use Rattle.cw_connect.specs.declared.status.Status.TheVariants.{Usage, ReadFault, StoreFault, Damaged, ShelfFault, OutletFault, NetFault, Memory}
use Rattle.cw_connect.proofs.Commands.{audit_or_gen, audit_or_serve, drive_or_audit, drive_or_gen, drive_or_serve, gen_or_serve, same_audit, same_command, same_drive, same_gen, same_serve, some_or_none}
use Rattle.cw_connect.proofs.Runs.{calm, completed, refused}
use Rattle.cw_connect.proofs.Server.{no_read, no_usage, no_write, serve_completed, serve_refused}
use Rattle.cw_connect.proofs.top.run_command.Goals as goal

pub returns-in-Drive : goal.returns-in-Drive
returns-in-Drive g c = λ words asked.
    let is = asked ∙ ap Some c.in-Drive.is in
    let done = c.open_and_drive-status.ensures in
    record {
      drives = λ options also. subst (λ (o : Options). IsRun g.D.Disk g.I.Source g.O.Sink g.H.Shelf g.U.Outlet o c.open_and_drive-status.result.status c.args.shelf.now c.args.input.now c.open_and_drive-status.new.input
          c.args.output.now c.open_and_drive-status.new.output c.args.disks c.open_and_drive-status.result.disks c.args.outlet c.open_and_drive-status.result.outlet) (same_drive (command_of words) c.in-Drive.options options is also) done.runs;
      audits = λ options also. absurd (drive_or_audit (command_of words) c.in-Drive.options options is also);
      audits_apart = λ options also. absurd (drive_or_audit (command_of words) c.in-Drive.options options is also);
      generates = λ options also. absurd (drive_or_gen (command_of words) c.in-Drive.options options is also);
      generates_apart = λ options also. absurd (drive_or_gen (command_of words) c.in-Drive.options options is also);
      serves = λ options also. absurd (drive_or_serve (command_of words) c.in-Drive.options options is also);
      serves_apart = λ options also. absurd (drive_or_serve (command_of words) c.in-Drive.options options is also);
      net_apart = λ other. record { same_net = refl; no_journal = c.none.ensures; no_receipts = c.new.ensures.items };
      makes = λ options also. done.makes;
      usage = λ it. absurd (done.never_usage it);
      no_command = λ none. absurd (some_or_none (command_of words) _ is none);
      untouched = λ none. absurd (some_or_none (command_of words) _ is none);
      damaged_only = done.damaged_only;
      damaged = λ other also opens files tell at place harm has.
          refused g.D.Disk g.I.Source g.O.Sink g.H.Shelf g.U.Outlet c.in-Drive.options c.open_and_drive-status.result.status c.args.shelf.now c.args.input.now c.open_and_drive-status.new.input c.args.output.now
          c.open_and_drive-status.new.output c.args.disks c.open_and_drive-status.result.disks c.args.outlet c.open_and_drive-status.result.outlet done.runs done.damaged_only
          (λ setting s files at place harm facts stand. c.files_open_one_way.ensures.harm files (stored_of s) (reopened s) at place harm stand (c.written_logs_open_again.ensures.stand setting s facts))
          files tell at place harm has;
      store_fault = done.store_fault;
      shelf_fault = done.shelf_fault;
      outlet_fault = done.outlet_fault;
      net_fault = λ it. absurd (done.never_net it);
      read_fault = done.read_fault;
      write_fault = done.write_fault;
      later_in = done.later_in;
      later_out = done.later_out;
      later_shelf = done.later_shelf;
      later_outlet = done.later_outlet;
      later_net = omega arith;
      later_disks = done.later_disks;
      complete = λ options also bytes told files tell stored s lists stand fine calm_in calm_out calm_shelf calm_outlet calm_disks.
          calm c.open_and_drive-status.result.status
          (completed g.D.Disk g.I.Source g.O.Sink g.H.Shelf g.U.Outlet c.in-Drive.options c.open_and_drive-status.result.status c.args.shelf.now c.args.input.now c.open_and_drive-status.new.input c.args.output.now
          c.open_and_drive-status.new.output c.args.disks c.open_and_drive-status.result.disks c.args.outlet c.open_and_drive-status.result.outlet done.runs
          (λ disk at harm it. c.files_open_one_way.ensures.harm files stored s disk at harm lists stand (done.damaged_only disk at harm it files tell))
          c.each_script_is_played_alike.ensures.whole bytes told
          (λ setting t tells set from. fine setting t tells (subst (λ (o : Options). IsSetFor g.H.Shelf o c.args.shelf.now setting) (same_drive (command_of words) c.in-Drive.options options is also) set) from))
          (λ it. calm_in (done.read_fault it)) (λ it. calm_out (done.write_fault it)) (λ it. calm_shelf (done.shelf_fault it)) (λ it. calm_outlet (done.outlet_fault it))
          (λ disk count it. calm_disks disk (done.store_fault disk count it).rose);
      reported = λ options also. absurd (drive_or_audit (command_of words) c.in-Drive.options options is also);
      summed = λ options also. absurd (drive_or_gen (command_of words) c.in-Drive.options options is also);
      served_complete = λ options also. absurd (drive_or_serve (command_of words) c.in-Drive.options options is also);
    }

pub returns-in-Audit : goal.returns-in-Audit
returns-in-Audit g c = λ words asked.
    let is = asked ∙ ap Some c.in-Audit.is in
    let done = c.open_and_audit-status.ensures in
    let never : (status : Status) → c.open_and_audit-status.result.status ≡ status → IsAudited g.D.Disk g.O.Sink g.H.Shelf c.in-Audit.options status c.args.shelf.now c.args.output.now c.open_and_audit-status.new.output c.args.disks c.open_and_audit-status.result.disks
    = λ status it. subst (λ (s : Status). IsAudited g.D.Disk g.O.Sink g.H.Shelf c.in-Audit.options s c.args.shelf.now c.args.output.now c.open_and_audit-status.new.output c.args.disks c.open_and_audit-status.result.disks) it done.due in
    record {
      drives = λ options also. absurd (drive_or_audit (command_of words) options c.in-Audit.options also is);
      audits = λ options also. subst (λ (o : Options). IsAudited g.D.Disk g.O.Sink g.H.Shelf o c.open_and_audit-status.result.status c.args.shelf.now c.args.output.now c.open_and_audit-status.new.output c.args.disks c.open_and_audit-status.result.disks)
          (same_audit (command_of words) c.in-Audit.options options is also) done.due;
      audits_apart = λ options also. (refl, refl);
      generates = λ options also. absurd (audit_or_gen (command_of words) c.in-Audit.options options is also);
      generates_apart = λ options also. absurd (audit_or_gen (command_of words) c.in-Audit.options options is also);
      serves = λ options also. absurd (audit_or_serve (command_of words) c.in-Audit.options options is also);
      serves_apart = λ options also. absurd (audit_or_serve (command_of words) c.in-Audit.options options is also);
      net_apart = λ other. record { same_net = refl; no_journal = c.none-in-Audit.ensures; no_receipts = c.new-in-Audit.ensures.items };
      makes = λ options also. absurd (drive_or_audit (command_of words) options c.in-Audit.options also is);
      usage = λ it. absurd (never Usage it);
      no_command = λ none. absurd (some_or_none (command_of words) _ is none);
      untouched = λ none. absurd (some_or_none (command_of words) _ is none);
      damaged_only = done.damaged_only;
      damaged = λ command also opens. done.damaged;
      store_fault = done.store_fault;
      shelf_fault = done.shelf_fault;
      outlet_fault = λ it. absurd (never OutletFault it);
      net_fault = λ it. absurd (never NetFault it);
      read_fault = λ it. absurd (never ReadFault it);
      write_fault = done.write_fault;
      later_in = omega arith;
      later_out = done.later_out;
      later_shelf = done.later_shelf;
      later_outlet = omega arith;
      later_net = omega arith;
      later_disks = done.later_disks;
      complete = λ options also. absurd (drive_or_audit (command_of words) options c.in-Audit.options also is);
      reported = λ options also. done.complete;
      summed = λ options also. absurd (audit_or_gen (command_of words) c.in-Audit.options options is also);
      served_complete = λ options also. absurd (audit_or_serve (command_of words) c.in-Audit.options options is also);
    }

pub returns-in-Gen : goal.returns-in-Gen
returns-in-Gen g c = λ words asked.
    let is = asked ∙ ap Some c.in-Gen.is in
    let done = c.make_and_play.ensures in
    let never : (status : Status) → c.make_and_play.result ≡ status → IsGenerated g.O.Sink c.in-Gen.options status c.args.output.now c.make_and_play.new.output
    = λ status it. subst (λ (s : Status). IsGenerated g.O.Sink c.in-Gen.options s c.args.output.now c.make_and_play.new.output) it done.due in
    record {
      drives = λ options also. absurd (drive_or_gen (command_of words) options c.in-Gen.options also is);
      audits = λ options also. absurd (audit_or_gen (command_of words) options c.in-Gen.options also is);
      audits_apart = λ options also. absurd (audit_or_gen (command_of words) options c.in-Gen.options also is);
      generates = λ options also. subst (λ (o : GenOptions). IsGenerated g.O.Sink o c.make_and_play.result c.args.output.now c.make_and_play.new.output)
          (same_gen (command_of words) c.in-Gen.options options is also) done.due;
      generates_apart = λ options also. refl;
      serves = λ options also. absurd (gen_or_serve (command_of words) c.in-Gen.options options is also);
      serves_apart = λ options also. absurd (gen_or_serve (command_of words) c.in-Gen.options options is also);
      net_apart = λ other. record { same_net = refl; no_journal = c.none-in-Gen.ensures; no_receipts = c.new-in-Gen.ensures.items };
      makes = λ options also. absurd (drive_or_gen (command_of words) options c.in-Gen.options also is);
      usage = λ it. absurd (never Usage it);
      no_command = λ none. absurd (some_or_none (command_of words) _ is none);
      untouched = λ none. absurd (some_or_none (command_of words) _ is none);
      damaged_only = λ disk at harm it. absurd (never (Damaged disk at harm) it);
      damaged = λ command also opens. absurd (subst OpensDisks (same_command (command_of words) command (Gen c.in-Gen.options) also is) opens);
      store_fault = λ disk count it. absurd (never (StoreFault disk count) it);
      shelf_fault = λ it. absurd (never ShelfFault it);
      outlet_fault = λ it. absurd (never OutletFault it);
      net_fault = λ it. absurd (never NetFault it);
      read_fault = λ it. absurd (never ReadFault it);
      write_fault = done.write_fault;
      later_in = omega arith;
      later_out = done.later_out;
      later_shelf = omega arith;
      later_outlet = omega arith;
      later_net = omega arith;
      later_disks = λ disk. omega arith;
      complete = λ options also. absurd (drive_or_gen (command_of words) options c.in-Gen.options also is);
      reported = λ options also. absurd (audit_or_gen (command_of words) options c.in-Gen.options also is);
      summed = λ options also calm. subst (λ (o : GenOptions). (c.make_and_play.result ≡ status_of_stop (run_asked o).stop) ⊎ (c.make_and_play.result ≡ Memory))
          (same_gen (command_of words) c.in-Gen.options options is also) (done.complete calm);
      served_complete = λ options also. absurd (gen_or_serve (command_of words) c.in-Gen.options options is also);
    }

pub returns-in-Serve : goal.returns-in-Serve
returns-in-Serve g c = λ words asked.
    let is = asked ∙ ap Some c.in-Serve.is in
    let done = c.open_and_serve.ensures in
    record {
      drives = λ options also. absurd (drive_or_serve (command_of words) options c.in-Serve.options also is);
      audits = λ options also. absurd (audit_or_serve (command_of words) options c.in-Serve.options also is);
      audits_apart = λ options also. absurd (audit_or_serve (command_of words) options c.in-Serve.options also is);
      generates = λ options also. absurd (gen_or_serve (command_of words) options c.in-Serve.options also is);
      generates_apart = λ options also. absurd (gen_or_serve (command_of words) options c.in-Serve.options also is);
      serves = λ options also. subst (λ (o : ServeOptions). IsServeRun g.D.Disk g.H.Shelf g.N.Listener g.N.Link.Link o c.open_and_serve.result.status c.args.shelf.now c.args.disks c.open_and_serve.result.disks c.args.outlet
          c.open_and_serve.result.outlet c.args.net c.open_and_serve.result.net c.open_and_serve.result.journal c.open_and_serve.result.receipts.items) (same_serve (command_of words) c.in-Serve.options options is also) done.runs;
      serves_apart = λ options also. (refl, refl);
      net_apart = λ other. absurd (other c.in-Serve.options is);
      makes = λ options also. absurd (drive_or_serve (command_of words) options c.in-Serve.options also is);
      usage = λ it. absurd (no_usage g.D.Disk g.H.Shelf g.N.Listener g.N.Link.Link c.in-Serve.options c.open_and_serve.result.status c.args.shelf.now c.args.disks c.open_and_serve.result.disks c.args.outlet
          c.open_and_serve.result.outlet c.args.net c.open_and_serve.result.net c.open_and_serve.result.journal c.open_and_serve.result.receipts.items done.runs it);
      no_command = λ none. absurd (some_or_none (command_of words) _ is none);
      untouched = λ none. absurd (some_or_none (command_of words) _ is none);
      damaged_only = done.damaged_only;
      damaged = λ other also opens files tell at place harm has.
          serve_refused g.D.Disk g.H.Shelf g.N.Listener g.N.Link.Link c.in-Serve.options c.open_and_serve.result.status c.args.shelf.now c.args.disks c.open_and_serve.result.disks c.args.outlet
          c.open_and_serve.result.outlet c.args.net c.open_and_serve.result.net c.open_and_serve.result.journal c.open_and_serve.result.receipts.items done.runs done.damaged_only
          (λ setting s files at place harm facts stand. c.files_open_one_way.ensures.harm files (stored_of s) (reopened s) at place harm stand (c.written_logs_open_again.ensures.stand setting s facts))
          files tell at place harm has;
      store_fault = done.store_fault;
      shelf_fault = done.shelf_fault;
      outlet_fault = done.outlet_fault;
      net_fault = done.net_fault;
      read_fault = λ it. absurd (no_read g.D.Disk g.H.Shelf g.N.Listener g.N.Link.Link c.in-Serve.options c.open_and_serve.result.status c.args.shelf.now c.args.disks c.open_and_serve.result.disks c.args.outlet
          c.open_and_serve.result.outlet c.args.net c.open_and_serve.result.net c.open_and_serve.result.journal c.open_and_serve.result.receipts.items done.runs it);
      write_fault = λ it. absurd (no_write g.D.Disk g.H.Shelf g.N.Listener g.N.Link.Link c.in-Serve.options c.open_and_serve.result.status c.args.shelf.now c.args.disks c.open_and_serve.result.disks c.args.outlet
          c.open_and_serve.result.outlet c.args.net c.open_and_serve.result.net c.open_and_serve.result.journal c.open_and_serve.result.receipts.items done.runs it);
      later_in = omega arith;
      later_out = omega arith;
      later_shelf = done.later_shelf;
      later_outlet = done.later_outlet;
      later_net = done.later_net;
      later_disks = done.later_disks;
      complete = λ options also. absurd (drive_or_serve (command_of words) options c.in-Serve.options also is);
      reported = λ options also. absurd (audit_or_serve (command_of words) options c.in-Serve.options also is);
      summed = λ options also. absurd (gen_or_serve (command_of words) options c.in-Serve.options also is);
      served_complete = λ options also files tell stored s lists stand calm_shelf calm_outlet calm_net calm_disks.
          serve_completed g.D.Disk g.H.Shelf g.N.Listener g.N.Link.Link c.in-Serve.options c.open_and_serve.result.status c.args.shelf.now c.args.disks c.open_and_serve.result.disks c.args.outlet
          c.open_and_serve.result.outlet c.args.net c.open_and_serve.result.net c.open_and_serve.result.journal c.open_and_serve.result.receipts.items done.runs
          (λ disk at harm it. c.files_open_one_way.ensures.harm files stored s disk at harm lists stand (done.damaged_only disk at harm it files tell))
          (λ it. calm_shelf (done.shelf_fault it)) (λ it. calm_outlet (done.outlet_fault it)) (λ it. calm_net (done.net_fault it))
          (λ disk count it. calm_disks disk (done.store_fault disk count it).rose);
    }
