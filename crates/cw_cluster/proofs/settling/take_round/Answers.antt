use Rattle.std.proofs.Common.{refl, subst}
use Rattle.std.proofs.lemmas.Result.{err_from_is_err_and}
use Rattle.cw_model.specs.State.{Setting}
use Rattle.cw_run.specs.Settling.{all_tick, all_step, round}
use Rattle.cw_cluster.specs.Turning.{TakesTurns, none_left}
use Rattle.cw_cluster.proofs.Turns.{leads-none, leads-behind, stops-then, takes-then, idle-none, idle-all_step}
use Rattle.cw_cluster.proofs.settling.take_round.Goals as goal

pub returns-in_err-ticked-clause-turns : goal.returns-in_err-ticked-clause-turns
returns-in_err-ticked-clause-turns g c =
    let p = err_from_is_err_and c.from_residual.result c.from_residual.ensures.1 in
    let s = g.T.Turning.ran c.args.turning.now in
    let setting = g.T.Turning.setting c.args.turning.now in
    rw (p.1, p.2)
    (stops-then (round setting) (round setting) all_tick (all_step setting) c.args.most c.args.moved s c.args.moved s (leads-none (round setting) c.args.most c.args.moved s c.requires.few)
    (λ k low high. refl) (g.T.Turning.broken c.tick_workers.new.turning) setting (g.T.Turning.ran c.tick_workers.new.turning) c.in_err-ticked.field-0.0 (idle-all_step setting)
    c.in_err-ticked.ensures.turns)

pub returns-clause-turns : goal.returns-clause-turns
returns-clause-turns g c =
    let s = g.T.Turning.ran c.args.turning.now in
    let u = g.T.Turning.ran c.tick_workers.new.turning in
    let t = g.T.Turning.ran c.step_instances.new.turning in
    let setting = g.T.Turning.setting c.args.turning.now in
    takes-then (round setting) (all_step setting) (all_step setting) none_left c.args.most c.args.moved s c.in_ok-ticked.ticked u
    (leads-behind setting c.args.most c.args.moved s c.in_ok-ticked.ticked u c.requires.few c.in_ok-ticked.ensures.turns)
    (λ k low high. refl) idle-none (g.T.Turning.broken c.step_instances.new.turning) setting t c.step_instances.result
    (subst (λ (v : Setting). TakesTurns (g.T.Turning.broken c.step_instances.new.turning) v (all_step v) c.args.most c.in_ok-ticked.ticked u t c.step_instances.result)
    c.in_ok-ticked.ensures.setting c.step_instances.ensures.turns) (λ to led. led)
