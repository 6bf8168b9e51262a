use Rattle.std.proofs.Common.{is_some, ap}
use Rattle.cw_txn.proofs.MovedRows.{moved_there, moved_in_new}
use Rattle.cw_txn.proofs.parts.put_end.Goals as goal

pub returns-in-Some-clause-moved : goal.returns-in-Some-clause-moved
returns-in-Some-clause-moved c = moved_there c.args.parts.now c.move_row.new.parts c.args.span.now (is_some c.move_row.result) (ap is_some c.move_row.ensures.before) c.move_row.ensures.moved (ap is_some c.in-Some.is)

pub returns-in_ok-insert-in-None-clause-moved : goal.returns-in_ok-insert-in-None-clause-moved
returns-in_ok-insert-in-None-clause-moved c = moved_in_new c.args.parts.now c.move_row.new.parts c.args.span.now (is_some c.move_row.result) (ap is_some c.move_row.ensures.before) c.move_row.ensures.moved
    c.insert.new.self c.in_ok-copy-in-None.field-0 c.in_ok-copy-in-None.ensures (ap is_some c.in-None.is) (rw c.ended.ensures at c.in_ok-insert-in-None.ensures.updates.0)
