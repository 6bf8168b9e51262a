use Rattle.std.proofs.Common.{◌≡◌, ◌-◌, length}
use Rattle.std.specs.List.{list_all, range_with_len}
use Rattle.cw_cluster.specs.Turning.{rests_at}
use Rattle.cw_cluster.proofs.settling.do_rest.Given as goal

abbrev pub invariant-loop-i : goal.invariant-loop-i
invariant-loop-i g l =
    list_all (λ i. rests_at (g.T.Turning.setting l.turning) i (g.T.Turning.ran l.turning).cluster) (range_with_len 0 (length (g.T.Turning.ran l.turning).cluster.instances)) ≡
    list_all (λ i. rests_at (g.T.Turning.setting l.turning) i (g.T.Turning.ran l.turning).cluster) (range_with_len l.i (length (g.T.Turning.ran l.turning).cluster.instances - l.i))
