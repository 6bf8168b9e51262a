use Rattle.std.proofs.Common.{cond, List, Some, ap, subst, ◌∙◌, arith}
use Rattle.std.specs.List.{list_any}
use Rattle.std.specs.BTreeMap.{get, Updates}
use Rattle.std.proofs.lemmas.List.{take_all}
use Rattle.cw_types.specs.declared.ids.PartKey.{PartKey}
use Rattle.cw_types.specs.Same.{part_order, same_part}
use Rattle.cw_txn.specs.declared.entry.SetOffset.{SetOffset}
use Rattle.cw_compact.proofs.Joined.{more}
use Rattle.cw_compact.proofs.Entered.{part_more, part_at_place}
use Rattle.cw_compact.proofs.outcomes.put_sets.Goals as goal

pub loop-set-preserved : goal.loop-set-preserved
loop-set-preserved c =
    part_more (λ (q : PartKey) (set : SetOffset). same_part q set.part) c.args.place (get part_order c.args.changes.now)
    c.args.list.now c.loop-set.set-index c.set-item.result c.loop-set.changes c.insert.new.self
    (more c.args.list.now c.loop-set.set-index c.set-item.result c.loop-set-test.true c.set-item.is) c.loop-set.invariant
    (λ q. part_at_place c.set-item.result.part q c.loop-set.changes c.insert.new.self c.args.place
    (subst (λ (p : PartKey). Updates part_order c.loop-set.changes c.insert.new.self p (Some c.args.place)) c.in_ok-copy.ensures c.in_ok-insert.ensures.updates))

pub returns : goal.returns
returns c = λ q.
    c.loop-set.invariant q
    ∙ ap (λ (l : List SetOffset). cond (list_any (λ (set : SetOffset). same_part q set.part) l) (Some c.args.place) (get part_order c.args.changes.now q)) (take_all c.loop-set.set-index c.args.list.now (omega arith))
