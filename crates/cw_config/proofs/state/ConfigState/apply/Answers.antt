use Rattle.cw_config.proofs.MadeRows.{keeps-same}
use Rattle.cw_config.proofs.state.ConfigState.apply.Goals as goal

pub invariant_of-self : goal.invariant_of-self
invariant_of-self c = keeps-same c.self.inside.tables c.make_row.new.self c.self.inside.records.items c.make_row.ensures.same c.self.invariant

pub add-requires-clause-kept : goal.add-requires-clause-kept
add-requires-clause-kept c = keeps-same c.self.inside.tables c.make_row.new.self c.self.inside.records.items c.make_row.ensures.same c.self.invariant
