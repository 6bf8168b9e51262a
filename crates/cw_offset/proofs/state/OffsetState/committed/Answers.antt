use Rattle.std.proofs.Common.{◌∙◌, sym, ap}
use Rattle.cw_offset.specs.Rows.{value_in}
use Rattle.cw_offset.proofs.Pushed.{committed-settled}
use Rattle.cw_offset.proofs.state.OffsetState.committed.Goals as goal

pub returns-in-None : goal.returns-in-None
returns-in-None c = rw (← c.self.view_is) (ap value_in (sym c.in-None.is ∙ c.settled.ensures ∙ c.self.invariant.kept.settled c.args.part.now) ∙ sym (committed-settled c.args.part.now c.self.inside.calls.items))

pub returns-in-Some : goal.returns-in-Some
returns-in-Some c = rw (← c.self.view_is) (ap value_in (sym c.in-Some.is ∙ c.settled.ensures ∙ c.self.invariant.kept.settled c.args.part.now) ∙ sym (committed-settled c.args.part.now c.self.inside.calls.items))
