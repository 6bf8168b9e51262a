use Rattle.std.proofs.Common.{◌+◌, ◌-◌, ◌<◌, length, subst, ◌∙◌, arith}
use Rattle.std.specs.List.{range_with_len}
use Rattle.std.proofs.lemmas.Result.{err_from_is_err_and}
use Rattle.cw_lines.proofs.Counts.{fell_then}
use Rattle.cw_model.specs.State.{Setting}
use Rattle.cw_run.specs.Settling.{all_tick, ticks}
use Rattle.cw_cluster.specs.Turning.{moved_to, IsStage, IsCutStage, Stops, ticks_of}
use Rattle.cw_cluster.proofs.Turns.{each-next, each-stops, idle-tick_each}
use Rattle.cw_cluster.proofs.settling.tick_workers.Goals as goal

pub returns-in_err-moved-clause-turns : goal.returns-in_err-moved-clause-turns
returns-in_err-moved-clause-turns g c =
    let p = err_from_is_err_and c.from_residual.result c.from_residual.ensures.1 in
    let s = g.T.Turning.ran c.args.turning.now in
    let u = g.T.Turning.ran c.loop-w.turning in
    let t = g.T.Turning.ran c.tick_worker.new.turning in
    let n = length s.cluster.rows in
    let w = c.loop-w.w in
    let below : w < n = omega (arith, c.workers-w-end.ensures) in
    rw (p.1, p.2)
    (each-stops ticks all_tick n w c.args.most c.args.before s c.loop-w.moved u c.loop-w.invariant.far below (idle-tick_each (range_with_len (w + 1) (n - (w + 1))))
    (g.T.Turning.broken c.tick_worker.new.turning) (g.T.Turning.setting c.args.turning.now) t c.in_err-moved.field-0.0
    (subst (λ (v : Setting). Stops (g.T.Turning.broken c.tick_worker.new.turning) v (ticks c.args.most (moved_to c.loop-w.moved u) w) (IsStage (ticks_of w) c.args.most c.loop-w.moved u) (IsCutStage v (ticks_of w) c.args.most c.loop-w.moved u) t c.in_err-moved.field-0.0)
    c.loop-w.invariant.setting c.in_err-moved.ensures.turns))

pub loop-w-preserved : goal.loop-w-preserved
loop-w-preserved g c =
    let s = g.T.Turning.ran c.args.turning.now in
    let n = length s.cluster.rows in
    let below : c.loop-w.w < n = omega (arith, c.workers-w-end.ensures) in
    record {
      far = each-next ticks all_tick n c.loop-w.w c.args.most c.args.before s c.loop-w.moved (g.T.Turning.ran c.loop-w.turning) c.loop-w.invariant.far below
          c.in_ok-moved.moved (g.T.Turning.ran c.tick_worker.new.turning) c.in_ok-moved.ensures.turns;
      setting = c.in_ok-moved.ensures.setting ∙ c.loop-w.invariant.setting;
      alive = c.in_ok-moved.ensures.alive;
      later = fell_then (g.T.Turning.faults c.args.turning.now) (g.T.Turning.faults c.loop-w.turning) (g.T.Turning.faults c.tick_worker.new.turning) c.loop-w.invariant.later c.in_ok-moved.ensures.later;
    }
