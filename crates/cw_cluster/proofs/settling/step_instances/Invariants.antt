use Rattle.std.proofs.Common.{◌≡◌, ◌-◌, length}
use Rattle.std.specs.List.{range_with_len}
use Rattle.cw_lines.specs.Players.{NoneFell}
use Rattle.cw_run.specs.Settling.{all_step}
use Rattle.cw_cluster.specs.Turning.{LeadsTo, step_each}
use Rattle.cw_cluster.proofs.settling.step_instances.Given as goal

abbrev pub invariant-loop-i : goal.invariant-loop-i
invariant-loop-i g l = record {
  far : LeadsTo (all_step (g.T.Turning.setting l.fn.turning)) (step_each (g.T.Turning.setting l.fn.turning) (range_with_len l.i (length (g.T.Turning.ran l.fn.turning).cluster.instances - l.i)))
      l.most l.fn.before (g.T.Turning.ran l.fn.turning) l.moved (g.T.Turning.ran l.turning);
  setting : g.T.Turning.setting l.turning ≡ g.T.Turning.setting l.fn.turning;
  alive : g.T.Turning.alive l.turning;
  later : NoneFell (g.T.Turning.faults l.fn.turning) (g.T.Turning.faults l.turning);
}
