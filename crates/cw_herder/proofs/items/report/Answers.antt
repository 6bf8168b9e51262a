use Rattle.std.proofs.Common.{Result, Ok, Err, sym, ap}
use Rattle.cw_model.specs.declared.fault.WorldFault.{WorldFault}
use Rattle.cw_model.specs.declared.tick.Tick.TheVariants as outcome
use Rattle.cw_model.specs.TickRules.{told}
use Rattle.cw_model.specs.EventsReports.{put_status}
use Rattle.cw_types.specs.declared.logs.LogName.TheVariants.{Status}
use Rattle.cw_herder.proofs.Asked.{may-report}
use Rattle.cw_types.specs.declared.ids.Item.{Item}
use Rattle.cw_keys.specs.declared.state.State.{State}
use Rattle.cw_model.specs.State.{Cluster}
use Rattle.cw_model.specs.declared.tick.Tick.{Tick}
use Rattle.cw_herder.proofs.Ticked.{writes-tick}
use Rattle.cw_herder.proofs.items.report.Goals as goal

abbrev reported : Item → State → Unit {0} → Cluster → Tick
reported item state done t = outcome.Report item state

pub put_status-requires-clause-may : goal.put_status-requires-clause-may
put_status-requires-clause-may g c = may-report c.args.w c.args.world.now.state c.args.item c.requires.turn.may
    (c.rules_make_events_that_may_be_made.ensures.report c.args.world.now.state c.args.w)

pub returns-in-Ok : goal.returns-in-Ok
returns-in-Ok g c = writes-tick g.D.Disk (put_status c.args.w c.args.item) (reported c.args.item c.args.state) c.args.w c.args.world.now c.put_status.new.self c.put_status.result (Ok (outcome.Report c.args.item c.args.state)) c.requires.live (c.requires.turn.follows)
    (sym (ap (λ (r : Result (Unit {0}) WorldFault). told r (λ x. (reported c.args.item c.args.state) x c.put_status.new.self.state)) c.in-Ok.is)) Status c.put_status.ensures

pub returns-in-Err : goal.returns-in-Err
returns-in-Err g c = writes-tick g.D.Disk (put_status c.args.w c.args.item) (reported c.args.item c.args.state) c.args.w c.args.world.now c.put_status.new.self c.put_status.result (Err c.in-Err.fault) c.requires.live (c.requires.turn.follows)
    (sym (ap (λ (r : Result (Unit {0}) WorldFault). told r (λ x. (reported c.args.item c.args.state) x c.put_status.new.self.state)) c.in-Err.is)) Status c.put_status.ensures
