use Rattle.std.proofs.Common.{Ok, Err, subst, ◌∙◌}
use Rattle.std.proofs.lemmas.Result.{err_from_is_err_and}
use Rattle.cw_lines.proofs.Counts.{fell_then}
use Rattle.cw_model.specs.State.{Setting}
use Rattle.cw_run.specs.Settling.{round}
use Rattle.cw_cluster.specs.Turning.{TakesTurns}
use Rattle.cw_cluster.proofs.Rounds.{settles-next, settles-done, settles-stop}
use Rattle.cw_cluster.proofs.settling.settle.Goals as goal

pub returns-in_err-now-clause-settles : goal.returns-in_err-now-clause-settles
returns-in_err-now-clause-settles g c =
    let p = err_from_is_err_and c.from_residual.result c.from_residual.ensures.1 in
    let s = g.T.Turning.ran c.args.turning.now in
    let u = g.T.Turning.ran c.rounds.turning in
    let t = g.T.Turning.ran c.take_round.new.turning in
    let setting = g.T.Turning.setting c.args.turning.now in
    rw (p.1, p.2)
    (settles-stop setting c.args.most s c.rounds.moved u c.rounds.invariant.far (g.T.Turning.broken c.take_round.new.turning) t c.in_err-now.field-0.0
    (subst (λ (v : Setting). TakesTurns (g.T.Turning.broken c.take_round.new.turning) v (round v) c.args.most c.rounds.moved u t (Err c.in_err-now.field-0.0)) c.rounds.invariant.setting c.in_err-now.ensures.turns))

pub returns-then-now-moved-clause-settles : goal.returns-then-now-moved-clause-settles
returns-then-now-moved-clause-settles g c =
    let s = g.T.Turning.ran c.args.turning.now in
    let u = g.T.Turning.ran c.rounds.turning in
    let t = g.T.Turning.ran c.take_round.new.turning in
    settles-done (g.T.Turning.setting c.args.turning.now) c.args.most s c.rounds.moved u c.rounds.invariant.far c.in_ok-now.now t
    (subst (λ (v : Setting). TakesTurns (g.T.Turning.broken c.take_round.new.turning) v (round v) c.args.most c.rounds.moved u t (Ok c.in_ok-now.now)) c.rounds.invariant.setting c.in_ok-now.ensures.turns)
    c.if-now-moved.true

pub rounds-preserved : goal.rounds-preserved
rounds-preserved g c =
    let s = g.T.Turning.ran c.args.turning.now in
    let u = g.T.Turning.ran c.rounds.turning in
    let t = g.T.Turning.ran c.take_round.new.turning in
    record {
      far = settles-next (g.T.Turning.setting c.args.turning.now) c.args.most s c.rounds.moved u c.rounds.invariant.far c.in_ok-now.now t
          (subst (λ (v : Setting). TakesTurns (g.T.Turning.broken c.take_round.new.turning) v (round v) c.args.most c.rounds.moved u t (Ok c.in_ok-now.now)) c.rounds.invariant.setting c.in_ok-now.ensures.turns)
          c.if-now-moved.false;
      setting = c.in_ok-now.ensures.setting ∙ c.rounds.invariant.setting;
      alive = c.in_ok-now.ensures.alive;
      later = fell_then (g.T.Turning.faults c.args.turning.now) (g.T.Turning.faults c.rounds.turning) (g.T.Turning.faults c.take_round.new.turning) c.rounds.invariant.later c.in_ok-now.ensures.later;
    }
