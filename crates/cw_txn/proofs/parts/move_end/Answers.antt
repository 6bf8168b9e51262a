use Rattle.std.proofs.Common.{◌∙◌, is_some, ap}
use Rattle.cw_txn.proofs.MovedRows.{moved_there, parts_kept}
use Rattle.cw_txn.proofs.parts.move_end.Goals as goal

pub returns-clause-moved : goal.returns-clause-moved
returns-clause-moved c = moved_there c.args.parts.now c.move_row.new.parts c.args.span.now (is_some c.move_row.result) (ap is_some c.move_row.ensures.before) c.move_row.ensures.moved (ap is_some c.move_row.ensures.before ∙ c.requires)

pub returns-clause-kept : goal.returns-clause-kept
returns-clause-kept c = parts_kept c.args.parts.now c.move_row.new.parts c.args.span.now (is_some c.move_row.result) (ap is_some c.move_row.ensures.before) c.move_row.ensures.moved
