use Rattle.std.proofs.Common.{ℕ, Result, Ok, Err, sym, ap}
use Rattle.cw_model.specs.declared.fault.WorldFault.{WorldFault}
use Rattle.cw_model.specs.declared.tick.Tick.TheVariants as outcome
use Rattle.cw_model.specs.TickRules.{told}
use Rattle.cw_model.specs.EventsGroups.{join}
use Rattle.cw_model.specs.State.{Cluster}
use Rattle.cw_model.specs.declared.tick.Tick.{Tick}
use Rattle.cw_herder.proofs.Ticked.{wants-tick}
use Rattle.cw_herder.proofs.rounds.join.Goals as goal

abbrev joined : ℕ → Cluster → Tick
joined round t = outcome.Join round

pub join-requires-clause-may : goal.join-requires-clause-may
join-requires-clause-may g c = c.rules_make_events_that_may_be_made.ensures.join c.args.world.now.state c.args.w c.requires.turn.may

pub returns-in-Ok : goal.returns-in-Ok
returns-in-Ok g c = wants-tick g.D.Disk (join c.args.w) (joined) c.args.w c.args.world.now c.join.new.self c.join.result (Ok (outcome.Join c.in-Ok.round)) c.requires.live (c.requires.turn.follows)
    (sym (ap (λ (r : Result (ℕ) WorldFault). told r (λ x. (joined) x c.join.new.self.state)) c.in-Ok.is)) c.join.ensures.does

pub returns-in-Err : goal.returns-in-Err
returns-in-Err g c = wants-tick g.D.Disk (join c.args.w) (joined) c.args.w c.args.world.now c.join.new.self c.join.result (Err c.in-Err.fault) c.requires.live (c.requires.turn.follows)
    (sym (ap (λ (r : Result (ℕ) WorldFault). told r (λ x. (joined) x c.join.new.self.state)) c.in-Err.is)) c.join.ensures.does
