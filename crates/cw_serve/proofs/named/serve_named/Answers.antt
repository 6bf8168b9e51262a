use Rattle.std.proofs.Common.{sym, subst}
use Rattle.cw_turns.specs.Going.{GoesOn}
use Rattle.cw_serve.proofs.named.serve_named.Goals as goal

pub returns-in_default-clause-goes_on : goal.returns-in_default-clause-goes_on
returns-in_default-clause-goes_on g c = subst (GoesOn g.D.Disk g.J.Begun.start) (sym c.unserved.ensures.world)
    (c.make_all-made.ensures.goes_on g.J.Begun.start c.requires.goes_on)

pub returns-in_default-clause-served : goal.returns-in_default-clause-served
returns-in_default-clause-served g c = c.unserved.ensures.served c.args.given.sizes.conns

pub returns-in_default-clause-talked : goal.returns-in_default-clause-talked
returns-in_default-clause-talked g c = c.unserved.ensures.talked

pub new-requires-clause-goes_on : goal.new-requires-clause-goes_on
new-requires-clause-goes_on g c = c.make_all-made.ensures.goes_on g.J.Begun.start c.requires.goes_on

pub returns-clause-served : goal.returns-clause-served
returns-clause-served g c = c.serve_all.ensures.served c.args.given.outlet c.requires.outlet
