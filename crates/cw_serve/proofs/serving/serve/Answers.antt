use Rattle.std.proofs.Common.{sym, subst}
use Rattle.cw_turns.specs.Going.{GoesOn, start_of}
use Rattle.cw_serve.proofs.Begun.{begun}
use Rattle.cw_serve.proofs.serving.serve.Goals as goal

pub returns-in_default-clause-differs : goal.returns-in_default-clause-differs
returns-in_default-clause-differs g c = (c.unserved.ensures.served c.args.sizes.conns).differs

pub returns-in_default-clause-done : goal.returns-in_default-clause-done
returns-in_default-clause-done g c =
    let served = c.unserved.ensures.served c.args.sizes.conns in
    λ is. (served.alive is, served.done is)

pub returns-in_default-clause-given : goal.returns-in_default-clause-given
returns-in_default-clause-given g c = (c.unserved.ensures.served c.args.sizes.conns).given

pub returns-in_default-clause-most : goal.returns-in_default-clause-most
returns-in_default-clause-most g c = (c.unserved.ensures.served c.args.sizes.conns).most

pub returns-in_default-clause-store : goal.returns-in_default-clause-store
returns-in_default-clause-store g c = (c.unserved.ensures.served c.args.sizes.conns).store

pub returns-in_default-clause-outlet_fault : goal.returns-in_default-clause-outlet_fault
returns-in_default-clause-outlet_fault g c = (c.unserved.ensures.served c.args.sizes.conns).outlet_fault

pub returns-in_default-clause-net_fault : goal.returns-in_default-clause-net_fault
returns-in_default-clause-net_fault g c = (c.unserved.ensures.served c.args.sizes.conns).net_fault

pub returns-in_default-clause-later_outlet : goal.returns-in_default-clause-later_outlet
returns-in_default-clause-later_outlet g c = (c.unserved.ensures.served c.args.sizes.conns).later_outlet

pub returns-in_default-clause-later_net : goal.returns-in_default-clause-later_net
returns-in_default-clause-later_net g c = (c.unserved.ensures.served c.args.sizes.conns).later_net

pub returns-in_default-clause-ledger : goal.returns-in_default-clause-ledger
returns-in_default-clause-ledger g c = (c.unserved.ensures.served c.args.sizes.conns).ledger

pub returns-in_default-clause-talked : goal.returns-in_default-clause-talked
returns-in_default-clause-talked g c = c.unserved.ensures.talked

pub returns-in_default-clause-goes_on : goal.returns-in_default-clause-goes_on
returns-in_default-clause-goes_on g c = subst (GoesOn g.D.Disk (start_of g.D.Disk c.args.world)) (sym c.unserved.ensures.world)
    (begun g.D.Disk c.args.world c.requires.alive c.requires.names)
