use Rattle.std.proofs.Common.{sym, ap, ◌∙◌}
use Rattle.cw_model.specs.State.{Cluster}
use Rattle.cw_turns.proofs.Submitted.{closed-on, closed-turn, turn-on}
use Rattle.cw_turns.proofs.answering.take.Goals as goal

pub tell_closed-requires-clause-closed : goal.tell_closed-requires-clause-closed
tell_closed-requires-clause-closed g c = ap (λ (s : Cluster). s.closed) (sym c.cluster.ensures.state) ∙ sym c.closed.ensures ∙ c.in-Some.is

pub returns-in-Some-clause-turn : goal.returns-in-Some-clause-turn
returns-in-Some-clause-turn g c = closed-turn g.D.Disk c.args.w c.args.call c.args.world.now c.tell_closed.new.world c.tell_closed.result
    c.is_safe.ensures.facts c.requires c.in-Some.disk c.in-Some.count
    (ap (λ (s : Cluster). s.closed) (sym c.cluster.ensures.state) ∙ sym c.closed.ensures ∙ c.in-Some.is) c.tell_closed.ensures

pub returns-in-Some-clause-goes_on : goal.returns-in-Some-clause-goes_on
returns-in-Some-clause-goes_on g c = λ start. closed-on g.D.Disk c.args.w c.args.call c.args.world.now c.tell_closed.new.world c.tell_closed.result
    c.is_safe.ensures.facts c.requires c.in-Some.disk c.in-Some.count
    (ap (λ (s : Cluster). s.closed) (sym c.cluster.ensures.state) ∙ sym c.closed.ensures ∙ c.in-Some.is) start c.tell_closed.ensures

pub returns-in-None-clause-goes_on : goal.returns-in-None-clause-goes_on
returns-in-None-clause-goes_on g c =
    let alive = ap (λ (s : Cluster). s.closed) (sym c.cluster.ensures.state) ∙ sym c.closed.ensures ∙ c.in-None.is in
    λ start goes. turn-on g.D.Disk c.args.w c.args.call c.args.world.now c.turn.new.world c.turn.result
    c.is_safe.ensures.facts c.requires start c.holds_name.ensures alive (c.is_safe.ensures.holds alive) c.turn.ensures.turn goes
