use Rattle.std.proofs.Common.{◌∙◌, inl, inr, refl, subst}
use Rattle.cw_open.specs.Reopened.{disk_in}
use Rattle.cw_serve.specs.declared.sizes.Sizes.{Sizes}
use Rattle.cw_world.specs.Ending.{disks_of}
use Rattle.cw_cluster.specs.Breaking.{tell_all}
use Rattle.cw_connect.specs.Served.{IsServedOver}
use Rattle.cw_connect.proofs.Refused.{later_from, rose_from}
use Rattle.cw_connect.proofs.Server.{unloaded}
use Rattle.cw_connect.proofs.serving.open_and_serve.Goals as goal

pub returns-in-Ok-open_cluster-clause-runs : goal.returns-in-Ok-open_cluster-clause-runs
returns-in-Ok-open_cluster-clause-runs g c =
    let set = c.in-Ok-open_cluster.ensures.set in
    inr (record {
      setting = c.in-Ok-open_cluster.world.setting;
      opened = c.in-Ok-open_cluster.world.state;
      tells = tell_all g.D.Disk c.in-Ok-open_cluster.world.logs;
      set = record { feeds = set.feeds; loaded = λ held told. set.loaded held (c.load.ensures.kept ∙ told); set = set.set; names = set.names };
      from = c.in-Ok-open_cluster.ensures.from;
      over = subst (λ (sizes : Sizes). IsServedOver g.D.Disk g.N.Listener g.N.Link.Link sizes.conns c.in-Ok-open_cluster.world.setting c.in-Ok-open_cluster.world.state (tell_all g.D.Disk c.in-Ok-open_cluster.world.logs)
          c.serve_opened.result.status c.serve_opened.result.disks c.args.net c.serve_opened.result.net c.serve_opened.result.journal c.serve_opened.result.receipts.items) c.sizes_of-sizes.ensures c.serve_opened.ensures.over;
    })

pub returns-in-Ok-open_cluster-clause-store_fault : goal.returns-in-Ok-open_cluster-clause-store_fault
returns-in-Ok-open_cluster-clause-store_fault g c = λ disk count is.
    let failed = c.serve_opened.ensures.store_fault disk count is in
    record {
      now_is = failed.now_is;
      rose = rose_from (g.D.Disk.count (disk_in disk c.args.disks)) (g.D.Disk.count (disk_in disk (disks_of c.in-Ok-open_cluster.world.logs))) (g.D.Disk.count (disk_in disk c.serve_opened.result.disks))
          (c.in-Ok-open_cluster.ensures.later_disks disk) failed.rose;
    }

pub returns-in-Ok-open_cluster-clause-later_disks : goal.returns-in-Ok-open_cluster-clause-later_disks
returns-in-Ok-open_cluster-clause-later_disks g c = λ disk.
    later_from (g.D.Disk.count (disk_in disk c.args.disks)) (g.D.Disk.count (disk_in disk (disks_of c.in-Ok-open_cluster.world.logs))) (g.D.Disk.count (disk_in disk c.serve_opened.result.disks))
    (c.in-Ok-open_cluster.ensures.later_disks disk) (c.serve_opened.ensures.later_disks disk)

pub returns-in-Err-clause-runs : goal.returns-in-Err-clause-runs
returns-in-Err-clause-runs g c = inl (record {
  nothing = (refl, record { same_net = refl; no_journal = c.none-in-Err.ensures; no_receipts = c.new-in-Err.ensures.items });
  left = unloaded g.D.Disk c.args.disks c.in-Err.fault c.of_shelf.result c.of_shelf.ensures;
})
