use Rattle.std.proofs.Common.{ℕ, ap, unwrap_or}
use Rattle.cw_txn.specs.declared.history.History.{History}
use Rattle.std.specs.BTreeMap.{get, is_at}
use Rattle.cw_types.specs.declared.ids.PartKey.{PartKey}
use Rattle.cw_types.specs.Same.{same_part, part_order}
use Rattle.cw_txn.specs.History.{unset}
use Rattle.cw_types.proofs.SameLemmas.{part_at, same_part-flip, same_part-Decides}
use Rattle.cw_tables.proofs.RowLemmas.{value-moved}
use Rattle.cw_txn.proofs.parts.set_history.Goals as goal

pub returns-clause-moved : goal.returns-clause-moved
returns-clause-moved c = value-moved (get part_order) (λ (a b : PartKey). is_at (part_order a) b) same_part part_at same_part-flip same_part-Decides unset
    c.args.parts.now c.set_row.new.table c.args.set.now.part _ c.set_row.ensures
    (λ (h : History). record { base = unwrap_or c.args.set.now.to 0; end = c.args.set.now.to })
    (ap (λ (n : ℕ). record { base = n; end = c.args.set.now.to }) c.unwrap_or.ensures)
