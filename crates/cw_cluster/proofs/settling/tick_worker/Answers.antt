use Rattle.std.proofs.Common.{◌≡◌, true, refl, inl, rules}
use Rattle.std.proofs.lemmas.Result.{err_from_is_err_and}
use Rattle.cw_model.specs.Lookups.{row_of}
use Rattle.cw_run.specs.Ran.{Ran, ran_tick}
use Rattle.cw_run.specs.Settling.{tick_moves}
use Rattle.cw_run.proofs.Deliveries.{tick-still-ran}
use Rattle.cw_cluster.specs.Turning.{ticks_of}
use Rattle.cw_cluster.proofs.Turns.{leads-unmoved, stops-turn}
use Rattle.cw_cluster.proofs.settling.tick_worker.Goals as goal

pub returns-in_err-tick-clause-turns : goal.returns-in_err-tick-clause-turns
returns-in_err-tick-clause-turns g c =
    let p = err_from_is_err_and c.from_residual.result c.from_residual.ensures.1 in
    let s = g.T.Turning.ran c.args.turning.now in
    let live : (row_of c.args.w s.cluster).live ≡ true = search rules in
    rw (p.1, p.2)
    (stops-turn (ticks_of c.args.w) tick_moves (row_of c.args.w s.cluster).live (ran_tick c.args.w s) c.args.most c.args.moved s c.if-moved-most.false live (λ k. refl)
    (g.T.Turning.broken c.tick.new.self) (λ (r t : Ran). ⊥) (g.T.Turning.setting c.args.turning.now) (g.T.Turning.ran c.tick.new.self) c.in_err-tick.field-0.0 (inl (c.args.w, refl)) (λ is. absurd is) c.in_err-tick.ensures.turn)

pub returns-else-does_tick_move-clause-turns : goal.returns-else-does_tick_move-clause-turns
returns-else-does_tick_move-clause-turns g c =
    let s = g.T.Turning.ran c.args.turning.now in
    let live : (row_of c.args.w s.cluster).live ≡ true = search rules in
    leads-unmoved (ticks_of c.args.w) tick_moves (row_of c.args.w s.cluster).live (ran_tick c.args.w s) c.args.most c.args.moved s c.if-moved-most.false live (λ k. refl)
    c.in_ok-tick.field-0 (g.T.Turning.ran c.tick.new.self) c.in_ok-tick.ensures.turn (search rules) (tick-still-ran c.args.w s)
