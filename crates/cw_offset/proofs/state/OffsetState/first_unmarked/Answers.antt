use Rattle.std.proofs.Common.{◌∙◌}
use Rattle.cw_offset.proofs.Firsts.{first_is}
use Rattle.cw_offset.proofs.state.OffsetState.first_unmarked.Goals as goal

pub returns : goal.returns
returns g c = rw (← c.self.view_is) (c.first_ended.ensures.first
    ∙ first_is (g.T.Decided.verdict_of c.args.txn.now) c.self.inside.tables c.self.inside.calls.items c.self.invariant.kept c.first_ended.ensures.ordered)
