use Rattle.std.proofs.Common.{get_or, sym, subst}
use Rattle.cw_txn.specs.declared.entry.SetOffset.{SetOffset}
use Rattle.cw_txn.specs.Tables.{HasPart}
use Rattle.cw_txn.proofs.parts.set_histories.Goals as goal

pub set_history-requires : goal.set_history-requires
set_history-requires c = subst (λ (set : SetOffset). HasPart c.loop-set.parts set.part) (sym c.set-item.is)
    (c.loop-set.invariant.1 (get_or c.args.list.now c.loop-set.set-index c.set-item.result).part (c.requires c.loop-set.set-index c.set-item.result c.loop-set-test.true))
