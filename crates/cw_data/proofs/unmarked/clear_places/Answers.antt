use Rattle.std.proofs.Common.{rules, ◌≡◌, [], cond, length, Some, sym, ap, arith}
use Rattle.std.specs.BTreeMap.{get, is_at}
use Rattle.cw_types.specs.declared.ids.Tag.{Tag}
use Rattle.cw_types.specs.Same.{tag_order}
use Rattle.cw_data.proofs.RowLemmas.{places_moved, room_same}
use Rattle.cw_data.proofs.unmarked.clear_places.Goals as goal

pub returns-in-Some-clause-places : goal.returns-in-Some-clause-places
returns-in-Some-clause-places c q =
    let set : (q : Tag) → get tag_order (c.get_mut.follows.lender c.clear.new.self) q ≡ cond (is_at (tag_order c.args.tag.now) q) (Some c.clear.new.self) (get tag_order c.args.places.now q) = λ q. search rules in
    places_moved c.args.places.now (c.get_mut.follows.lender c.clear.new.self) c.args.tag.now c.clear.new.self set c.in-Some.row.now (sym c.in-Some.ensures.value) (λ l. []) c.clear.ensures.items q

pub returns-in-Some-clause-room : goal.returns-in-Some-clause-room
returns-in-Some-clause-room c n q was =
    let set : (q : Tag) → get tag_order (c.get_mut.follows.lender c.clear.new.self) q ≡ cond (is_at (tag_order c.args.tag.now) q) (Some c.clear.new.self) (get tag_order c.args.places.now q) = λ q. search rules in
    room_same c.args.places.now (c.get_mut.follows.lender c.clear.new.self) c.args.tag.now c.clear.new.self set c.in-Some.row.now (sym c.in-Some.ensures.value) (λ m less. omega (arith, less, ap length c.clear.ensures.items, c.clear.ensures.capacity)) n q was
