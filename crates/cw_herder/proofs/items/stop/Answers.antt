use Rattle.std.proofs.Common.{Result, Ok, Err, sym, ap}
use Rattle.cw_model.specs.declared.fault.WorldFault.{WorldFault}
use Rattle.cw_model.specs.declared.tick.Tick.TheVariants as outcome
use Rattle.cw_model.specs.TickRules.{told}
use Rattle.cw_model.specs.EventsItems.{stop_item}
use Rattle.cw_herder.proofs.Asked.{stop-rule}
use Rattle.cw_types.specs.declared.ids.Item.{Item}
use Rattle.cw_model.specs.State.{Cluster}
use Rattle.cw_model.specs.declared.tick.Tick.{Tick}
use Rattle.cw_herder.proofs.Ticked.{does-tick}
use Rattle.cw_herder.proofs.items.stop.Goals as goal

abbrev stopped : Item → Unit {0} → Cluster → Tick
stopped item done t = outcome.Stop item

pub returns-in-Ok : goal.returns-in-Ok
returns-in-Ok g c = does-tick g.D.Disk (stop_item c.args.number) (stopped c.args.item) c.args.w c.args.world.now c.stop_item.new.self c.stop_item.result (Ok (outcome.Stop c.args.item)) c.requires.live (stop-rule c.args.w c.args.world.now.state c.args.item c.args.number c.requires.turn)
    (sym (ap (λ (r : Result (Unit {0}) WorldFault). told r (λ x. (stopped c.args.item) x c.stop_item.new.self.state)) c.in-Ok.is)) c.stop_item.ensures

pub returns-in-Err : goal.returns-in-Err
returns-in-Err g c = does-tick g.D.Disk (stop_item c.args.number) (stopped c.args.item) c.args.w c.args.world.now c.stop_item.new.self c.stop_item.result (Err c.in-Err.fault) c.requires.live (stop-rule c.args.w c.args.world.now.state c.args.item c.args.number c.requires.turn)
    (sym (ap (λ (r : Result (Unit {0}) WorldFault). told r (λ x. (stopped c.args.item) x c.stop_item.new.self.state)) c.in-Err.is)) c.stop_item.ensures
