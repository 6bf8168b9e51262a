use Rattle.std.proofs.Common.{◌+◌, ◌-◌, ◌<◌, Ok, Err, length, subst, ◌∙◌, arith}
use Rattle.std.specs.List.{range_with_len}
use Rattle.std.proofs.lemmas.Result.{err_from_is_err_and}
use Rattle.cw_lines.proofs.Counts.{fell_then}
use Rattle.cw_model.specs.State.{Setting}
use Rattle.cw_run.specs.Settling.{all_step, steps}
use Rattle.cw_cluster.specs.Turning.{TakesTurns, steps_of}
use Rattle.cw_cluster.proofs.Turns.{each-next, each-stops, idle-step_each}
use Rattle.cw_cluster.proofs.settling.step_instances.Goals as goal

pub returns-in_err-moved-clause-turns : goal.returns-in_err-moved-clause-turns
returns-in_err-moved-clause-turns g c =
    let p = err_from_is_err_and c.from_residual.result c.from_residual.ensures.1 in
    let s = g.T.Turning.ran c.args.turning.now in
    let u = g.T.Turning.ran c.loop-i.turning in
    let t = g.T.Turning.ran c.step_instance.new.turning in
    let setting = g.T.Turning.setting c.args.turning.now in
    let n = length s.cluster.instances in
    let i = c.loop-i.i in
    let below : i < n = omega (arith, c.instances-i-end.ensures) in
    rw (p.1, p.2)
    (each-stops (steps setting) (all_step setting) n i c.args.most c.args.before s c.loop-i.moved u c.loop-i.invariant.far below (idle-step_each setting (range_with_len (i + 1) (n - (i + 1))))
    (g.T.Turning.broken c.step_instance.new.turning) setting t c.in_err-moved.field-0.0
    (subst (λ (v : Setting). TakesTurns (g.T.Turning.broken c.step_instance.new.turning) v (steps_of v i) c.args.most c.loop-i.moved u t (Err c.in_err-moved.field-0.0))
    c.loop-i.invariant.setting c.in_err-moved.ensures.turns))

pub loop-i-preserved : goal.loop-i-preserved
loop-i-preserved g c =
    let s = g.T.Turning.ran c.args.turning.now in
    let u = g.T.Turning.ran c.loop-i.turning in
    let t = g.T.Turning.ran c.step_instance.new.turning in
    let setting = g.T.Turning.setting c.args.turning.now in
    let n = length s.cluster.instances in
    let below : c.loop-i.i < n = omega (arith, c.instances-i-end.ensures) in
    record {
      far = each-next (steps setting) (all_step setting) n c.loop-i.i c.args.most c.args.before s c.loop-i.moved u c.loop-i.invariant.far below c.in_ok-moved.moved t
          (subst (λ (v : Setting). TakesTurns (g.T.Turning.broken c.step_instance.new.turning) v (steps_of v c.loop-i.i) c.args.most c.loop-i.moved u t (Ok c.in_ok-moved.moved))
          c.loop-i.invariant.setting c.in_ok-moved.ensures.turns);
      setting = c.in_ok-moved.ensures.setting ∙ c.loop-i.invariant.setting;
      alive = c.in_ok-moved.ensures.alive;
      later = fell_then (g.T.Turning.faults c.args.turning.now) (g.T.Turning.faults c.loop-i.turning) (g.T.Turning.faults c.step_instance.new.turning) c.loop-i.invariant.later c.in_ok-moved.ensures.later;
    }
