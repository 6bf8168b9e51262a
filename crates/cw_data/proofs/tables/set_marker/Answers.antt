use Rattle.std.proofs.Common.{rules, Some}
use Rattle.cw_data.proofs.RowLemmas.{marks_in-set}
use Rattle.cw_data.proofs.tables.set_marker.Goals as goal

pub returns-in-Some-clause-marked : goal.returns-in-Some-clause-marked
returns-in-Some-clause-marked c = marks_in-set c.args.marks.now (c.get_mut.follows.lender (Some c.args.committed)) c.args.tag.now (Some c.args.committed) (λ q. search rules)
