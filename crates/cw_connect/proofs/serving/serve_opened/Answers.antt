use Rattle.std.proofs.Common.{◌∙◌, refl, subst, sym}
use Rattle.cw_connect.specs.Served.{IsServeDue}
use Rattle.cw_connect.specs.declared.status.Status.{Status}
use Rattle.cw_open.specs.Reopened.{disk_in}
use Rattle.cw_turns.specs.Going.{start_of}
use Rattle.cw_world.specs.Ending.{disks_of}
use Rattle.cw_connect.proofs.Server.{failed_at, is_net, is_outlet, is_store, serve_due, talked_under}
use Rattle.cw_connect.proofs.serving.serve_opened.Goals as goal

pub returns-clause-over : goal.returns-clause-over
returns-clause-over g c =
    let ran = c.serve-world.ensures in
    let behind = c.give_back-disks.ensures.left (start_of g.D.Disk c.args.world) ran.goes_on in
    record {
      left = c.serve-world.result.world.state;
      name = c.serve-world.result.world.name;
      reached = behind.reached;
      journal_is = c.give_back-disks.ensures.journal;
      whole = behind.whole;
      cut_off = λ disk count closed. let broken = behind.broken disk count closed in record {
        before = broken.before;
        next = broken.next;
        before_reached = broken.before_reached;
        next_reached = broken.next_reached;
        same = broken.same;
        disks = broken.stands;
      };
      few = ran.most;
      talked = talked_under g.N.Listener g.N.Link.Link c.args.net c.serve-world.result.net c.serve-world.result.receipts.items c.serve-world.result.end c.of_serve.result c.of_serve.ensures ran.talked;
      due = subst (λ (s : Status). IsServeDue g.N.Listener c.args.sizes.conns s c.serve-world.result.world.state c.args.net c.serve-world.result.net c.give_back-disks.result.1 c.serve-world.result.receipts.items) (sym c.of_serve.ensures)
          (serve_due g.N.Listener c.args.sizes.conns c.serve-world.result.world c.args.net c.serve-world.result.net c.give_back-disks.result.1 c.serve-world.result.receipts.items c.give_back-disks.ensures.journal
          c.serve-world.result.end ran.ledger ran.differs ran.done ran.store ran.closed);
    }

pub returns-clause-store_fault : goal.returns-clause-store_fault
returns-clause-store_fault g c = λ disk count is.
    let ran = c.serve-world.ensures in
    let behind = c.give_back-disks.ensures.left (start_of g.D.Disk c.args.world) ran.goes_on in
    let closed = ran.store disk count (is_store c.serve-world.result.end disk count (sym c.of_serve.ensures ∙ is)) in
    let failed = failed_at g.D.Disk (start_of g.D.Disk c.args.world) c.serve-world.result.world.state c.give_back-disks.result.0 (disk_in disk (disks_of c.args.world.logs)) disk count (behind.broken disk count closed) refl in
    record { now_is = failed.0; rose = failed.1 }

pub returns-clause-outlet_fault : goal.returns-clause-outlet_fault
returns-clause-outlet_fault g c = λ is. c.serve-world.ensures.outlet_fault (is_outlet c.serve-world.result.end (sym c.of_serve.ensures ∙ is))

pub returns-clause-net_fault : goal.returns-clause-net_fault
returns-clause-net_fault g c = λ is. c.serve-world.ensures.net_fault (is_net c.serve-world.result.end (sym c.of_serve.ensures ∙ is))

pub returns-clause-later_disks : goal.returns-clause-later_disks
returns-clause-later_disks g c = (c.give_back-disks.ensures.left (start_of g.D.Disk c.args.world) c.serve-world.ensures.goes_on).later
