use Rattle.std.proofs.Common.{ℕ, [], ◌∷◌, ◌++◌, sym, subst, arith, length-append}
use Rattle.cw_io.specs.Told.{with_front}
use Rattle.cw_conn.specs.Talked.{Moment, moment, Talked}
use Rattle.cw_conn.specs.Steps.{Exchanged}
use Rattle.cw_conn.proofs.Talks.{went_on, talked_behind}
use Rattle.cw_conn.proofs.serving.serve_conn.Goals as goal

pub returns-in-Some-clause-talked : goal.returns-in-Some-clause-talked
returns-in-Some-clause-talked g c =
    let start : Moment = moment (g.L.Link.left c.args.link.now) (g.L.Link.held c.args.link.now) (g.K.Desk.entries c.args.desk.now) in
    let before : Moment = moment (with_front c.loop-number.kept.items (g.L.Link.left c.loop-number.link)) (g.L.Link.held c.loop-number.link) (g.K.Desk.entries c.loop-number.desk) in
    let now : Moment = moment (with_front c.exchange.new.kept.items (g.L.Link.left c.exchange.new.link)) (g.L.Link.held c.exchange.new.link) (g.K.Desk.entries c.exchange.new.desk) in
    let went = c.loop-number.invariant.went in (
      c.exchange.new.kept.items,
      talked_behind went.0 c.in-Some.end start before now went.2
          (subst (λ (n : ℕ). Talked n c.in-Some.end before now) (sym went.1) c.in-Some.ensures.off),
    )

pub loop-number-preserved : goal.loop-number-preserved
loop-number-preserved g c =
    let start : Moment = moment (g.L.Link.left c.args.link.now) (g.L.Link.held c.args.link.now) (g.K.Desk.entries c.args.desk.now) in
    let before : Moment = moment (with_front c.loop-number.kept.items (g.L.Link.left c.loop-number.link)) (g.L.Link.held c.loop-number.link) (g.K.Desk.entries c.loop-number.desk) in
    let now : Moment = moment (with_front c.exchange.new.kept.items (g.L.Link.left c.exchange.new.link)) (g.L.Link.held c.exchange.new.link) (g.K.Desk.entries c.exchange.new.desk) in
    let went = c.loop-number.invariant.went in
    let on = c.in_default.ensures.on in
    let few = c.in_default.ensures.few in
    record {
      bounded = omega (arith, few);
      later = omega (arith, c.exchange.ensures.later, c.loop-number.invariant.later);
      went = (
        went.0 ++ on.0 ∷ [],
        omega (arith, went.1, length-append went.0 (on.0 ∷ [])),
        went_on went.0 on.0 start before now went.2 (subst (λ (n : ℕ). Exchanged n on.0 before now) (sym went.1) on.1) on.2 (omega (arith, went.1, few)),
      );
    }
