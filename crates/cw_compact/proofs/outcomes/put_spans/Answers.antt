use Rattle.std.proofs.Common.{◌&&◌, Bool, cond, List, Some, ap, ◌∙◌, arith}
use Rattle.std.specs.List.{list_any}
use Rattle.std.specs.BTreeMap.{get}
use Rattle.std.proofs.lemmas.List.{take_all}
use Rattle.cw_types.specs.declared.ids.PartKey.{PartKey}
use Rattle.cw_types.specs.declared.ids.Span.{Span}
use Rattle.cw_types.specs.Same.{part_order, same_part}
use Rattle.cw_compact.specs.Stored.{marked_at, stores_at}
use Rattle.cw_compact.proofs.Joined.{more}
use Rattle.cw_compact.proofs.Entered.{part_more, any_and}
use Rattle.cw_compact.proofs.outcomes.put_spans.Goals as goal

pub loop-span-preserved : goal.loop-span-preserved
loop-span-preserved c =
    let rows = c.args.stored.now.rows in
    part_more (λ (q : PartKey) (span : Span). same_part q span.part && (marked_at rows c.args.tag.now && stores_at rows c.args.tag.now q)) c.args.place (get part_order c.args.changes.now)
    c.args.spans.now c.loop-span.span-index c.span-item.result c.loop-span.changes c.put_span.new.changes
    (more c.args.spans.now c.loop-span.span-index c.span-item.result c.loop-span-test.true c.span-item.is) c.loop-span.invariant c.in_ok-put_span.ensures

pub returns : goal.returns
returns c = λ q.
    let rows = c.args.stored.now.rows in
    let ok : Bool = marked_at rows c.args.tag.now && stores_at rows c.args.tag.now q in
    c.loop-span.invariant q
    ∙ ap (λ (l : List Span). cond (list_any (λ (span : Span). same_part q span.part && ok) l) (Some c.args.place) (get part_order c.args.changes.now q)) (take_all c.loop-span.span-index c.args.spans.now (omega arith))
    ∙ ap (λ (b : Bool). cond b (Some c.args.place) (get part_order c.args.changes.now q)) (any_and (λ (span : Span). same_part q span.part) ok c.args.spans.now)
