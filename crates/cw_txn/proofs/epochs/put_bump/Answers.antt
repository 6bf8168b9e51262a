use Rattle.cw_txn.proofs.MovedRows.{raised_there, raised_in_new}
use Rattle.cw_txn.proofs.epochs.put_bump.Goals as goal

pub returns-then-raise_row : goal.returns-then-raise_row
returns-then-raise_row c = raised_there c.args.epochs.now c.raise_row.new.epochs c.args.tid.now c.raise_row.result c.raise_row.ensures.there c.raise_row.ensures.raised c.if-raise_row.true

pub returns : goal.returns
returns c = raised_in_new c.args.epochs.now c.raise_row.new.epochs c.args.tid.now c.raise_row.result c.raise_row.ensures.there c.raise_row.ensures.raised
    c.insert.new.self c.in_ok-copy.field-0 c.in_ok-copy.ensures c.if-raise_row.false c.in_ok-insert.ensures.updates.0
