use Rattle.std.proofs.Common.{◌&&◌, Some, subst, sym, ◌∙◌}
use Rattle.std.specs.BTreeMap.{get, Updates}
use Rattle.cw_types.specs.declared.ids.PartKey.{PartKey}
use Rattle.cw_types.specs.Same.{part_order}
use Rattle.cw_compact.specs.Stored.{marked_at, stores_at}
use Rattle.cw_compact.proofs.Entered.{part_at_place, where_it_is}
use Rattle.cw_compact.proofs.outcomes.put_span.Goals as goal

pub returns : goal.returns
returns c = λ q.
    let rows = c.args.stored.now.rows in
    part_at_place c.args.span.now.part q c.args.changes.now c.insert.new.self c.args.place
    (subst (λ (p : PartKey). Updates part_order c.args.changes.now c.insert.new.self p (Some c.args.place)) c.in_ok-copy.ensures c.in_ok-insert.ensures.updates)
    ∙ where_it_is c.args.span.now.part q (λ (p : PartKey). marked_at rows c.args.tag.now && stores_at rows c.args.tag.now p) (Some c.args.place) (get part_order c.args.changes.now q)
    (sym c.replaces.ensures ∙ c.if-not-replaces.false)
