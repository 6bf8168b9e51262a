use Rattle.std.proofs.Common.{◌∙◌, ℕ, Result, Ok, Err, sym, ap}
use Rattle.cw_model.specs.declared.fault.WorldFault.{WorldFault}
use Rattle.cw_model.specs.declared.tick.Tick.TheVariants as outcome
use Rattle.cw_model.specs.TickRules.{told}
use Rattle.cw_model.specs.EventsGroups.{close_round}
use Rattle.cw_model.specs.State.{Cluster}
use Rattle.cw_group.specs.Group.{GroupState}
use Rattle.cw_model.specs.declared.tick.Tick.{Tick}
use Rattle.cw_herder.proofs.Ticked.{does-tick}
use Rattle.cw_herder.proofs.rounds.close.Goals as goal

abbrev closed : Unit {0} → Cluster → Tick
closed done t = outcome.Close t.group.round

pub returns-in-Ok : goal.returns-in-Ok
returns-in-Ok g c = does-tick g.D.Disk (close_round c.args.w) (closed) c.args.w c.args.world.now c.close_round.new.self c.close_round.result (Ok (outcome.Close c.round.result)) c.requires.live (c.requires.turn.follows)
    (ap (λ (n : ℕ). Ok (outcome.Close n)) (c.round.ensures ∙ ap (λ (g : GroupState). g.round) c.group.ensures ∙ ap (λ (s : Cluster). s.group.round) c.cluster.ensures.state) ∙ sym (ap (λ (r : Result (Unit {0}) WorldFault). told r (λ x. (closed) x c.close_round.new.self.state)) c.in-Ok.is)) c.close_round.ensures

pub returns-in-Err : goal.returns-in-Err
returns-in-Err g c = does-tick g.D.Disk (close_round c.args.w) (closed) c.args.w c.args.world.now c.close_round.new.self c.close_round.result (Err c.in-Err.fault) c.requires.live (c.requires.turn.follows)
    (sym (ap (λ (r : Result (Unit {0}) WorldFault). told r (λ x. (closed) x c.close_round.new.self.state)) c.in-Err.is)) c.close_round.ensures
