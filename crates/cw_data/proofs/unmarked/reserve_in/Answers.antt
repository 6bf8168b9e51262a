use Rattle.std.proofs.Common.{rules, ◌≡◌, cond, length, Some, sym, ap, arith}
use Rattle.std.specs.BTreeMap.{get, is_at}
use Rattle.cw_types.specs.declared.ids.Tag.{Tag}
use Rattle.cw_types.specs.Same.{tag_order}
use Rattle.cw_data.proofs.RowLemmas.{places_same, room_same}
use Rattle.cw_data.proofs.unmarked.reserve_in.Goals as goal

pub returns-in-Some-clause-same : goal.returns-in-Some-clause-same
returns-in-Some-clause-same c q =
    let set : (q : Tag) → get tag_order (c.get_mut.follows.lender c.reserve.new.self) q ≡ cond (is_at (tag_order c.args.tag.now) q) (Some c.reserve.new.self) (get tag_order c.args.places.now q) = λ q. search rules in
    places_same c.args.places.now (c.get_mut.follows.lender c.reserve.new.self) c.args.tag.now c.reserve.new.self set c.in-Some.row.now (sym c.in-Some.ensures.value) c.reserve.ensures.items q

pub returns-in-Some-clause-kept : goal.returns-in-Some-clause-kept
returns-in-Some-clause-kept c n q was =
    let set : (q : Tag) → get tag_order (c.get_mut.follows.lender c.reserve.new.self) q ≡ cond (is_at (tag_order c.args.tag.now) q) (Some c.reserve.new.self) (get tag_order c.args.places.now q) = λ q. search rules in
    room_same c.args.places.now (c.get_mut.follows.lender c.reserve.new.self) c.args.tag.now c.reserve.new.self set c.in-Some.row.now (sym c.in-Some.ensures.value) (λ m less. omega (arith, less, ap length c.reserve.ensures.items, c.reserve.ensures.capacity)) n q was
