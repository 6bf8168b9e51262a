use Rattle.std.proofs.Common.{◌≡◌, ◌-◌, length}
use Rattle.std.specs.List.{list_all, range_with_len}
use Rattle.cw_cluster.specs.Turning.{is_idle_at}
use Rattle.cw_cluster.proofs.settling.are_idle.Given as goal

abbrev pub invariant-loop-w : goal.invariant-loop-w
invariant-loop-w g l =
    list_all (λ w. is_idle_at w (g.T.Turning.ran l.turning).cluster) (range_with_len 0 (length (g.T.Turning.ran l.turning).cluster.rows)) ≡
    list_all (λ w. is_idle_at w (g.T.Turning.ran l.turning).cluster) (range_with_len l.w (length (g.T.Turning.ran l.turning).cluster.rows - l.w))
