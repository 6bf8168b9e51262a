use Rattle.std.proofs.Common.{sym, subst, ◌∙◌}
use Rattle.cw_types.specs.Faults.{Rose}
use Rattle.cw_turns.specs.Going.{GoesOn}
use Rattle.cw_serve.proofs.ending.finish.Goals as goal

pub returns-clause-goes_on : goal.returns-clause-goes_on
returns-clause-goes_on g c = subst (GoesOn g.D.Disk g.J.Begun.start) (sym (c.conclude.ensures.handed.0 ∙ c.gather-told.ensures.world))
    c.into_left.ensures.goes_on

pub returns-clause-outlet_fault : goal.returns-clause-outlet_fault
returns-clause-outlet_fault g c = λ is.
    subst (λ left. Rose g.J.Begun.faults (g.U.Outlet.faults left)) (sym c.conclude.ensures.handed.1)
    (c.into_parts-outlet.ensures.rose (c.conclude.ensures.outlet_fault is))

pub returns-clause-same : goal.returns-clause-same
returns-clause-same g c = c.conclude.ensures.same _ c.gather-told.ensures.same
