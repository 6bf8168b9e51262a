use Rattle.std.proofs.Common.{◌≡◌, ◌-◌, length}
use Rattle.std.specs.List.{range_with_len}
use Rattle.cw_lines.specs.Players.{NoneFell}
use Rattle.cw_run.specs.Settling.{all_tick}
use Rattle.cw_cluster.specs.Turning.{LeadsTo, tick_each}
use Rattle.cw_cluster.proofs.settling.tick_workers.Given as goal

abbrev pub invariant-loop-w : goal.invariant-loop-w
invariant-loop-w g l = record {
  far : LeadsTo all_tick (tick_each (range_with_len l.w (length (g.T.Turning.ran l.fn.turning).cluster.rows - l.w))) l.most l.fn.before (g.T.Turning.ran l.fn.turning)
      l.moved (g.T.Turning.ran l.turning);
  setting : g.T.Turning.setting l.turning ≡ g.T.Turning.setting l.fn.turning;
  alive : g.T.Turning.alive l.turning;
  later : NoneFell (g.T.Turning.faults l.fn.turning) (g.T.Turning.faults l.turning);
}
