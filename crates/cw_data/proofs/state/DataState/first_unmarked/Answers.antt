use Rattle.std.proofs.Common.{List, ap, ◌∙◌}
use Rattle.cw_data.specs.declared.entry.DataEntry.{DataEntry}
use Rattle.cw_data.specs.Log.{first_unmarked}
use Rattle.cw_data.specs.Tables.{marks_in}
use Rattle.cw_data.specs.Unmarked.{first_ended}
use Rattle.cw_data.proofs.Firsts.{first_is}
use Rattle.cw_data.proofs.state.DataState.first_unmarked.Goals as goal

pub returns : goal.returns
returns g c =
    c.first_ended.ensures.first
    ∙ ap (λ (l : List DataEntry). first_ended (g.T.Decided.verdict_of c.args.txn.now) l c.self.inside.tables.unmarked.order.entries) c.deref.ensures.value
    ∙ first_is (g.T.Decided.verdict_of c.args.txn.now) (marks_in c.self.inside.tables.marks) c.self.inside.entries.items c.self.invariant.kept.marks c.self.inside.tables.unmarked.order c.first_ended.ensures.ordered c.self.invariant.kept.unmarked.order
    ∙ ap (λ log. first_unmarked (g.T.Decided.verdict_of c.args.txn.now) log.entries) c.self.view_is
