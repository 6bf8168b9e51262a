use Rattle.std.proofs.Common.{◌∙◌, ap}
use Rattle.cw_offset.specs.Rows.{later}
use Rattle.cw_offset.proofs.Changed.{moved_by}
use Rattle.cw_offset.proofs.tables.settle.Goals as goal

pub returns-clause-settled : goal.returns-clause-settled
returns-clause-settled c =
    moved_by c.args.parts.now c.set_row.new.table c.args.part.now c.args.put c.later.result c.set_row.ensures (c.later.ensures ∙ ap (λ s. later s c.args.put) c.value_at-was.ensures)
