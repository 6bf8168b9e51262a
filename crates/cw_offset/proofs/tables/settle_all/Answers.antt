use Rattle.std.proofs.Common.{rules, ◌≡◌, ◌∙◌, ap, map}
use Rattle.std.specs.Option.{is_some}
use Rattle.std.specs.List.{list_any}
use Rattle.std.specs.BTreeMap.{keys, get, is_at}
use Rattle.std.specs.Map.Iter.{deref}
use Rattle.std.proofs.lemmas.Map.Iter.{iter_end}
use Rattle.cw_types.specs.Same.{part_order}
use Rattle.cw_offset.specs.Rows.{settled_at}
use Rattle.cw_offset.proofs.Changed.{seen_more, seen_all, unseen}
use Rattle.cw_offset.proofs.tables.settle_all.Goals as goal

pub loop-part-preserved : goal.loop-part-preserved
loop-part-preserved c = (
  (λ q. seen_more c.args.under.now q (settled_at c.args.parts.now q) c.loop-part.yielded c.in-Some.part (settled_at c.loop-part.parts q) c.put_of.result (settled_at c.settle.new.parts q)
      (c.loop-part.invariant.0 q) c.put_of.ensures (c.settle.ensures.settled q)),
  (λ q has. c.settle.ensures.kept q (c.loop-part.invariant.1 q has)),
)

pub returns-clause-settled : goal.returns-clause-settled
returns-clause-settled c q =
    let all : map deref c.loop-part.yielded ≡ keys c.args.under.now.parts = search (rules, iter_end) in
    let has : is_some (get part_order c.args.under.now.parts q) ≡ list_any (λ x. is_at (part_order q) x) (keys c.args.under.now.parts) =
    c.keys-part-items.ensures.has q ∙ ap (list_any (λ x. is_at (part_order q) x)) c.keys-part-items.ensures.rest in
    c.loop-part.invariant.0 q
    ∙ seen_all c.args.under.now q (settled_at c.args.parts.now q) c.loop-part.yielded (keys c.args.under.now.parts) all (unseen c.args.under.now.parts (keys c.args.under.now.parts) q has)
