use Rattle.std.proofs.Common.{◌≡◌, true, refl, inr, rules}
use Rattle.std.proofs.lemmas.Result.{err_from_is_err_and}
use Rattle.cw_run.specs.Ran.{ran_step, IsCutIn}
use Rattle.cw_run.specs.Settling.{step_moves, may_step}
use Rattle.cw_run.proofs.Deliveries.{step-still-ran}
use Rattle.cw_cluster.specs.Turning.{steps_of}
use Rattle.cw_cluster.proofs.Turns.{leads-unmoved, stops-turn, stage-cut}
use Rattle.cw_cluster.proofs.settling.step_instance.Goals as goal

pub returns-in_err-step-clause-turns : goal.returns-in_err-step-clause-turns
returns-in_err-step-clause-turns g c =
    let p = err_from_is_err_and c.from_residual.result c.from_residual.ensures.1 in
    let s = g.T.Turning.ran c.args.turning.now in
    let setting = g.T.Turning.setting c.args.turning.now in
    let may : may_step c.args.i s.cluster ≡ true = search rules in
    rw (p.1, p.2)
    (stops-turn (steps_of setting c.args.i) step_moves (may_step c.args.i s.cluster) (ran_step setting c.args.i s) c.args.most c.args.moved s c.if-moved-most.false may (λ k. refl)
    (g.T.Turning.broken c.step.new.self) (IsCutIn c.args.i) setting (g.T.Turning.ran c.step.new.self) c.in_err-step.field-0.0 (inr (c.args.i, refl))
    (stage-cut setting c.args.i c.args.most c.args.moved s (g.T.Turning.ran c.step.new.self) c.if-moved-most.false may) c.in_err-step.ensures.turn)

pub returns-else-does_step_move-clause-turns : goal.returns-else-does_step_move-clause-turns
returns-else-does_step_move-clause-turns g c =
    let s = g.T.Turning.ran c.args.turning.now in
    let setting = g.T.Turning.setting c.args.turning.now in
    let may : may_step c.args.i s.cluster ≡ true = search rules in
    leads-unmoved (steps_of setting c.args.i) step_moves (may_step c.args.i s.cluster) (ran_step setting c.args.i s) c.args.most c.args.moved s c.if-moved-most.false may (λ k. refl)
    c.in_ok-step.field-0 (g.T.Turning.ran c.step.new.self) c.in_ok-step.ensures.turn (search rules) (step-still-ran setting c.args.i s)
