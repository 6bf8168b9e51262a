use Rattle.std.proofs.Common.{sym, ap, ◌∙◌, set}
use Rattle.cw_assign.specs.Plan.{Hand}
use Rattle.cw_assign.proofs.Dealing.{give-set}
use Rattle.cw_assign.proofs.seat.give.Goals as goal

pub returns : goal.returns
returns c =
    ap (λ (hand : Hand). set c.args.seats.now c.least-at.result hand) c.in_ok-take.ensures
    ∙ sym (give-set c.args.item c.args.seats.now c.least-at.result c.index-seats-at.result c.least-at.ensures.within c.least-at.ensures.least c.least-at.ensures.first)
