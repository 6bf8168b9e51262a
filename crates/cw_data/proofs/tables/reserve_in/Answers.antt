use Rattle.std.proofs.Common.{rules, ◌≡◌, ℕ, List, cond, Some, sym, ap, length, arith}
use Rattle.std.specs.BTreeMap.{get, is_at}
use Rattle.cw_data.specs.Rows.{TopicAt}
use Rattle.cw_data.specs.Tables.{name_order, RoomAt}
use Rattle.cw_data.proofs.Waiting.{same_topic}
use Rattle.cw_data.proofs.RowLemmas.{at_changed, row_of}
use Rattle.cw_data.proofs.tables.reserve_in.Goals as goal

pub returns-in-Some-clause-kept : goal.returns-in-Some-clause-kept
returns-in-Some-clause-kept c marks entries q was =
    let set : (q : List ℕ) → get name_order (c.get_mut.follows.lender c.reserve.new.self) q ≡ cond (is_at (name_order c.args.name.now) q) (Some c.reserve.new.self) (get name_order c.args.topics.now q) = λ q. search rules in
    at_changed c.args.topics.now (c.get_mut.follows.lender c.reserve.new.self) c.args.name.now c.reserve.new.self set (TopicAt marks entries) q
    (λ same. same_topic marks entries q c.in-Some.topic.now c.reserve.new.self c.reserve.ensures.same.0 c.reserve.ensures.same.1 c.reserve.ensures.same.2 c.reserve.ensures.same.3
    (row_of (TopicAt marks entries) c.args.topics.now c.args.name.now q c.in-Some.topic.now (sym c.in-Some.ensures.value) same was))
    (λ other. was)

pub returns-in-Some-clause-room : goal.returns-in-Some-clause-room
returns-in-Some-clause-room c n q was =
    let set : (q : List ℕ) → get name_order (c.get_mut.follows.lender c.reserve.new.self) q ≡ cond (is_at (name_order c.args.name.now) q) (Some c.reserve.new.self) (get name_order c.args.topics.now q) = λ q. search rules in
    at_changed c.args.topics.now (c.get_mut.follows.lender c.reserve.new.self) c.args.name.now c.reserve.new.self set (λ name o. RoomAt n o) q
    (λ same.
    let room = row_of (λ name o. RoomAt n o) c.args.topics.now c.args.name.now q c.in-Some.topic.now (sym c.in-Some.ensures.value) same was in
    omega (arith, room, c.reserve.ensures.room, ap length c.reserve.ensures.same.0))
    (λ other. was)
