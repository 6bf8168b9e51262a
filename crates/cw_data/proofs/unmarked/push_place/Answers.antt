use Rattle.std.proofs.Common.{rules, ◌≡◌, ◌++◌, ◌∷◌, [], cond, length, Some, sym, ap, arith, length-append}
use Rattle.std.specs.BTreeMap.{get, is_at}
use Rattle.cw_types.specs.declared.ids.Tag.{Tag}
use Rattle.cw_types.specs.Same.{tag_order}
use Rattle.cw_data.proofs.RowLemmas.{places_moved, room_moved}
use Rattle.cw_data.proofs.unmarked.push_place.Goals as goal

pub returns-in-Some-clause-places : goal.returns-in-Some-clause-places
returns-in-Some-clause-places c q =
    let set : (q : Tag) → get tag_order (c.get_mut.follows.lender c.push_made.new.items) q ≡ cond (is_at (tag_order c.args.tag.now) q) (Some c.push_made.new.items) (get tag_order c.args.places.now q) = λ q. search rules in
    places_moved c.args.places.now (c.get_mut.follows.lender c.push_made.new.items) c.args.tag.now c.push_made.new.items set c.in-Some.row.now (sym c.in-Some.ensures.value) (λ l. l ++ c.args.place ∷ []) c.push_made.ensures.pushed q

pub returns-in-Some-clause-room : goal.returns-in-Some-clause-room
returns-in-Some-clause-room c n q was =
    let set : (q : Tag) → get tag_order (c.get_mut.follows.lender c.push_made.new.items) q ≡ cond (is_at (tag_order c.args.tag.now) q) (Some c.push_made.new.items) (get tag_order c.args.places.now q) = λ q. search rules in
    room_moved c.args.places.now (c.get_mut.follows.lender c.push_made.new.items) c.args.tag.now c.push_made.new.items set c.in-Some.row.now (sym c.in-Some.ensures.value) 1
    (λ m less. omega (arith, less, ap length c.push_made.ensures.pushed, length-append c.in-Some.row.now.items (c.args.place ∷ []), c.push_made.ensures.room)) n q was
