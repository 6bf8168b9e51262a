use Rattle.std.proofs.Common.{ℕ, Result, Ok, Err, sym, ap}
use Rattle.cw_model.specs.declared.fault.WorldFault.{WorldFault}
use Rattle.cw_model.specs.declared.tick.Tick.TheVariants as outcome
use Rattle.cw_model.specs.TickRules.{told}
use Rattle.cw_model.specs.EventsItems.{start_item}
use Rattle.cw_types.specs.declared.ids.Item.{Item}
use Rattle.cw_model.specs.State.{Cluster}
use Rattle.cw_model.specs.declared.tick.Tick.{Tick}
use Rattle.cw_herder.proofs.Ticked.{wants-tick}
use Rattle.cw_herder.proofs.items.start.Goals as goal

abbrev started : Item → ℕ → Cluster → Tick
started item number t = outcome.Start item number

pub start_item-requires-clause-may : goal.start_item-requires-clause-may
start_item-requires-clause-may g c = c.rules_make_events_that_may_be_made.ensures.start c.args.world.now.state c.args.w c.args.item c.requires.turn.may

pub returns-in-Ok : goal.returns-in-Ok
returns-in-Ok g c = wants-tick g.D.Disk (start_item c.args.w c.args.item) (started c.args.item) c.args.w c.args.world.now c.start_item.new.self c.start_item.result (Ok (outcome.Start c.args.item c.in-Ok.number)) c.requires.live (c.requires.turn.follows)
    (sym (ap (λ (r : Result (ℕ) WorldFault). told r (λ x. (started c.args.item) x c.start_item.new.self.state)) c.in-Ok.is)) c.start_item.ensures

pub returns-in-Err : goal.returns-in-Err
returns-in-Err g c = wants-tick g.D.Disk (start_item c.args.w c.args.item) (started c.args.item) c.args.w c.args.world.now c.start_item.new.self c.start_item.result (Err c.in-Err.fault) c.requires.live (c.requires.turn.follows)
    (sym (ap (λ (r : Result (ℕ) WorldFault). told r (λ x. (started c.args.item) x c.start_item.new.self.state)) c.in-Err.is)) c.start_item.ensures
