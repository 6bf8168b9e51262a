use Rattle.std.proofs.Common.{get_or, sym, subst}
use Rattle.cw_types.specs.declared.ids.Span.{Span}
use Rattle.cw_txn.specs.Tables.{HasPart}
use Rattle.cw_txn.proofs.parts.move_ends.Goals as goal

pub move_end-requires : goal.move_end-requires
move_end-requires c = subst (λ (span : Span). HasPart c.loop-span.parts span.part) (sym c.span-item.is)
    (c.loop-span.invariant.1 (get_or c.args.spans.now c.loop-span.span-index c.span-item.result).part (c.requires c.loop-span.span-index c.span-item.result c.loop-span-test.true))
