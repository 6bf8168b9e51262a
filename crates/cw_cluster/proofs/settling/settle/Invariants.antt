use Rattle.std.proofs.Common.{◌≡◌, ◌-◌}
use Rattle.cw_lines.specs.Players.{NoneFell}
use Rattle.cw_cluster.proofs.Rounds.{SettlesTo}
use Rattle.cw_cluster.proofs.settling.settle.Given as goal

abbrev pub invariant-rounds : goal.invariant-rounds
invariant-rounds g l = record {
  far : SettlesTo (g.T.Turning.setting l.fn.turning) l.most (g.T.Turning.ran l.fn.turning) l.moved (g.T.Turning.ran l.turning);
  setting : g.T.Turning.setting l.turning ≡ g.T.Turning.setting l.fn.turning;
  alive : g.T.Turning.alive l.turning;
  later : NoneFell (g.T.Turning.faults l.fn.turning) (g.T.Turning.faults l.turning);
}

abbrev pub decreases-rounds : goal.decreases-rounds
decreases-rounds g l = l.most - l.moved
