use Rattle.std.proofs.Common.{◌∙◌, ℕ, Result, Ok, Err, sym, ap, subst}
use Rattle.cw_model.specs.declared.fault.WorldFault.{WorldFault}
use Rattle.cw_model.specs.declared.tick.Tick.TheVariants as outcome
use Rattle.cw_model.specs.TickRules.{told}
use Rattle.cw_model.specs.EventsGroups.{store_plan}
use Rattle.cw_model.specs.State.{Cluster}
use Rattle.cw_group.specs.Group.{GroupState}
use Rattle.cw_model.specs.declared.tick.Tick.{Tick}
use Rattle.cw_world.specs.World.{WorldState, DoesOrWants}
use Rattle.cw_herder.proofs.Asked.{at-own}
use Rattle.cw_herder.proofs.Ticked.{wants-tick}
use Rattle.cw_herder.proofs.rounds.plan.Goals as goal

abbrev planned : Unit {0} → Cluster → Tick
planned done t = outcome.Planned t.group.round

pub returns-in-Ok : goal.returns-in-Ok
returns-in-Ok g c = wants-tick g.D.Disk (store_plan c.args.w) (planned) c.args.w c.args.world.now c.store_plan.new.self c.store_plan.result (Ok (outcome.Planned c.round.result)) c.requires.live (c.requires.turn.follows)
    (ap (λ (n : ℕ). Ok (outcome.Planned n)) (c.round.ensures ∙ ap (λ (g : GroupState). g.round) c.group.ensures ∙ ap (λ (s : Cluster). s.group.round) c.cluster-in-Ok.ensures.state) ∙ sym (ap (λ (r : Result (Unit {0}) WorldFault). told r (λ x. (planned) x c.store_plan.new.self.state)) c.in-Ok.is))
    (subst (λ (v : WorldState g.row.D.Denot). DoesOrWants (store_plan c.args.w) v c.store_plan.new.self c.store_plan.result)
    (at-own c.args.world.now c.moment-now.result (c.moment-now.ensures ∙ ap (λ (s : Cluster). s.moment) c.cluster.ensures.state)) c.store_plan.ensures)

pub returns-in-Err : goal.returns-in-Err
returns-in-Err g c = wants-tick g.D.Disk (store_plan c.args.w) (planned) c.args.w c.args.world.now c.store_plan.new.self c.store_plan.result (Err c.in-Err.fault) c.requires.live (c.requires.turn.follows)
    (sym (ap (λ (r : Result (Unit {0}) WorldFault). told r (λ x. (planned) x c.store_plan.new.self.state)) c.in-Err.is))
    (subst (λ (v : WorldState g.row.D.Denot). DoesOrWants (store_plan c.args.w) v c.store_plan.new.self c.store_plan.result)
    (at-own c.args.world.now c.moment-now.result (c.moment-now.ensures ∙ ap (λ (s : Cluster). s.moment) c.cluster.ensures.state)) c.store_plan.ensures)
