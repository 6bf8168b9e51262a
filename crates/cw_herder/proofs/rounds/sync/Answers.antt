use Rattle.std.proofs.Common.{◌∙◌, ℕ, Result, Ok, Err, sym, ap}
use Rattle.cw_model.specs.declared.fault.WorldFault.{WorldFault}
use Rattle.cw_model.specs.declared.tick.Tick.TheVariants as outcome
use Rattle.cw_model.specs.TickRules.{told}
use Rattle.cw_model.specs.EventsGroups.{sync}
use Rattle.cw_model.specs.State.{Cluster}
use Rattle.cw_group.specs.Group.{GroupState}
use Rattle.cw_model.specs.declared.tick.Tick.{Tick}
use Rattle.cw_herder.proofs.Ticked.{wants-tick}
use Rattle.cw_herder.proofs.rounds.sync.Goals as goal

abbrev synced : Unit {0} → Cluster → Tick
synced done t = outcome.Sync t.group.round

pub returns-in-Ok : goal.returns-in-Ok
returns-in-Ok g c = wants-tick g.D.Disk (sync c.args.w) (synced) c.args.w c.args.world.now c.sync.new.self c.sync.result (Ok (outcome.Sync c.round.result)) c.requires.live (c.requires.turn.follows)
    (ap (λ (n : ℕ). Ok (outcome.Sync n)) (c.round.ensures ∙ ap (λ (g : GroupState). g.round) c.group.ensures ∙ ap (λ (s : Cluster). s.group.round) c.cluster.ensures.state) ∙ sym (ap (λ (r : Result (Unit {0}) WorldFault). told r (λ x. (synced) x c.sync.new.self.state)) c.in-Ok.is)) c.sync.ensures

pub returns-in-Err : goal.returns-in-Err
returns-in-Err g c = wants-tick g.D.Disk (sync c.args.w) (synced) c.args.w c.args.world.now c.sync.new.self c.sync.result (Err c.in-Err.fault) c.requires.live (c.requires.turn.follows)
    (sym (ap (λ (r : Result (Unit {0}) WorldFault). told r (λ x. (synced) x c.sync.new.self.state)) c.in-Err.is)) c.sync.ensures
