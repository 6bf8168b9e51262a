use Rattle.std.proofs.Common.{rules, ◌≡◌, ◌∙◌, [], cond, length, Some, None, ap, arith}
use Rattle.std.specs.BTreeMap.{get, is_at}
use Rattle.cw_types.specs.declared.ids.Tag.{Tag}
use Rattle.cw_types.specs.Same.{tag_order}
use Rattle.cw_data.proofs.RowLemmas.{places_new, room_new}
use Rattle.cw_data.proofs.unmarked.make_room.Goals as goal

pub returns-then-not-has_row-clause-same : goal.returns-then-not-has_row-clause-same
returns-then-not-has_row-clause-same c q =
    let set : (q : Tag) → get tag_order c.insert.new.self q ≡ cond (is_at (tag_order c.in_ok-copy.field-0) q) (Some c.reserve.new.self) (get tag_order c.args.places.now q) = λ q. search rules in
    let none : get tag_order c.args.places.now c.args.tag.now ≡ None = search rules in
    places_new c.args.places.now c.insert.new.self c.in_ok-copy.field-0 c.reserve.new.self set (ap (get tag_order c.args.places.now) c.in_ok-copy.ensures ∙ none) (c.reserve.ensures.items ∙ c.new-row.ensures.items) q

pub returns-then-not-has_row-clause-kept : goal.returns-then-not-has_row-clause-kept
returns-then-not-has_row-clause-kept c n q was =
    let set : (q : Tag) → get tag_order c.insert.new.self q ≡ cond (is_at (tag_order c.in_ok-copy.field-0) q) (Some c.reserve.new.self) (get tag_order c.args.places.now q) = λ q. search rules in
    let none : get tag_order c.args.places.now c.args.tag.now ≡ None = search rules in
    let items : c.reserve.new.self.items ≡ [] = c.reserve.ensures.items ∙ c.new-row.ensures.items in
    room_new c.args.places.now c.insert.new.self c.in_ok-copy.field-0 c.reserve.new.self set (ap (get tag_order c.args.places.now) c.in_ok-copy.ensures ∙ none) items (omega (arith, ap length items)) n q was
