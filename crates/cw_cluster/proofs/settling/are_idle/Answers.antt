use Rattle.std.proofs.Common.{◌≡◌, ◌<◌, true, length, rules, ◌∙◌, arith}
use Rattle.cw_cluster.specs.Turning.{is_idle_at}
use Rattle.cw_cluster.proofs.Turns.{all-next}
use Rattle.cw_cluster.proofs.settling.are_idle.Goals as goal

pub loop-w-preserved : goal.loop-w-preserved
loop-w-preserved g c =
    let s = (g.T.Turning.ran c.args.turning.now).cluster in
    let below : c.loop-w.w < length s.rows = omega (arith, c.workers-w-end.ensures) in
    let passes : is_idle_at c.loop-w.w s ≡ true = search rules in
    c.loop-w.invariant ∙ all-next (λ w. is_idle_at w s) (length s.rows) c.loop-w.w below passes
