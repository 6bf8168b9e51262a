use Rattle.std.proofs.Common.{◌≡◌, ◌&&◌, cond, take, Some}
use Rattle.std.specs.List.{list_any}
use Rattle.std.specs.BTreeMap.{get}
use Rattle.cw_types.specs.declared.ids.PartKey.{PartKey}
use Rattle.cw_types.specs.declared.ids.Span.{Span}
use Rattle.cw_types.specs.Same.{part_order, same_part}
use Rattle.cw_compact.specs.Stored.{marked_at, stores_at}
use Rattle.cw_compact.proofs.outcomes.put_spans.Given as goal

abbrev pub invariant-loop-span : goal.invariant-loop-span
invariant-loop-span l = (q : PartKey) → get part_order l.changes q
    ≡ cond (list_any (λ (span : Span). same_part q span.part && (marked_at l.stored.rows l.tag && stores_at l.stored.rows l.tag q)) (take l.span-index l.spans))
    (Some l.place) (get part_order l.initial.changes q)
