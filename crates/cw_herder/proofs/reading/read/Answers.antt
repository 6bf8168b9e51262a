use Rattle.std.proofs.Common.{◌<◌, length, ◌∙◌, ℕ, Result, Ok, Err, sym, ap, subst}
use Rattle.cw_model.specs.declared.fault.WorldFault.{WorldFault}
use Rattle.cw_model.specs.declared.tick.Tick.TheVariants as outcome
use Rattle.cw_model.specs.TickRules.{told}
use Rattle.cw_model.specs.EventsItems.{read_config}
use Rattle.cw_model.specs.Lookups.{row_of}
use Rattle.cw_model.specs.State.{Cluster}
use Rattle.cw_model.specs.declared.tick.Tick.{Tick}
use Rattle.cw_model.specs.declared.row.Row.{Row}
use Rattle.cw_herder.proofs.Asked.{read-there, done-is}
use Rattle.cw_herder.proofs.Ticked.{wants-tick}
use Rattle.cw_herder.proofs.reading.read.Goals as goal

abbrev read_to : ℕ → Unit {0} → Cluster → Tick
read_to w done t = outcome.Read (row_of w t).prefix

pub row_of-requires : goal.row_of-requires
row_of-requires g c = subst (λ (s : Cluster). c.args.w < length s.rows) (sym c.cluster.ensures.state)
    (read-there c.args.w c.args.world.now.state c.read_config.new.self.state c.read_config.result
    (c.read_config.ensures.done (done-is c.read_config.result tt c.in-Ok.is)) c.requires.there)

pub returns-in-Ok : goal.returns-in-Ok
returns-in-Ok g c = wants-tick g.D.Disk (read_config c.args.w) (read_to c.args.w) c.args.w c.args.world.now c.read_config.new.self c.read_config.result (Ok (outcome.Read c.row_of.result.now.prefix)) c.requires.live (c.requires.turn.follows)
    (ap (λ (r : Row). Ok (outcome.Read r.prefix)) (c.row_of.ensures ∙ ap (λ (s : Cluster). row_of c.args.w s) c.cluster.ensures.state) ∙ sym (ap (λ (r : Result (Unit {0}) WorldFault). told r (λ x. (read_to c.args.w) x c.read_config.new.self.state)) c.in-Ok.is)) c.read_config.ensures

pub returns-in-Err : goal.returns-in-Err
returns-in-Err g c = wants-tick g.D.Disk (read_config c.args.w) (read_to c.args.w) c.args.w c.args.world.now c.read_config.new.self c.read_config.result (Err c.in-Err.fault) c.requires.live (c.requires.turn.follows)
    (sym (ap (λ (r : Result (Unit {0}) WorldFault). told r (λ x. (read_to c.args.w) x c.read_config.new.self.state)) c.in-Err.is)) c.read_config.ensures
