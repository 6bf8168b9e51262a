use Rattle.std.proofs.Common.{◌≡◌, ◌<◌, true, length, rules, ◌∙◌, arith}
use Rattle.cw_cluster.specs.Turning.{rests_at}
use Rattle.cw_cluster.proofs.Turns.{all-next}
use Rattle.cw_cluster.proofs.settling.do_rest.Goals as goal

pub loop-i-preserved : goal.loop-i-preserved
loop-i-preserved g c =
    let s = (g.T.Turning.ran c.args.turning.now).cluster in
    let setting = g.T.Turning.setting c.args.turning.now in
    let below : c.loop-i.i < length s.instances = omega (arith, c.instances-i-end.ensures) in
    let passes : rests_at setting c.loop-i.i s ≡ true = search rules in
    c.loop-i.invariant ∙ all-next (λ i. rests_at setting i s) (length s.instances) c.loop-i.i below passes
