use Rattle.std.proofs.Common.{rules, ◌≡◌, ◌∙◌, ℕ, List, [], cond, Some, None, ap, subst, arith}
use Rattle.std.specs.BTreeMap.{get, is_at}
use Rattle.std.proofs.lemmas.Slice.Eq.{bytes_eq-Decides}
use Rattle.cw_data.specs.Log.{records}
use Rattle.cw_data.specs.Rows.{TopicAt}
use Rattle.cw_data.specs.Tables.{name_order, RoomAt}
use Rattle.cw_data.proofs.Waiting.{same_topic}
use Rattle.cw_data.proofs.RowLemmas.{at_changed}
use Rattle.cw_data.proofs.tables.make_topic.Goals as goal

pub returns-then-not-has_row-clause-kept : goal.returns-then-not-has_row-clause-kept
returns-then-not-has_row-clause-kept c marks entries q was =
    let set : (q : List ℕ) → get name_order c.insert.new.self q ≡ cond (is_at (name_order c.in_ok-copy.field-0) q) (Some c.reserve.new.self) (get name_order c.args.topics.now q) = λ q. search rules in
    let none : get name_order c.args.topics.now c.args.name.now ≡ None = search rules in
    at_changed c.args.topics.now c.insert.new.self c.in_ok-copy.field-0 c.reserve.new.self set (TopicAt marks entries) q
    (λ same.
    let empty : records q entries ≡ [] = subst (TopicAt marks entries q) (ap (get name_order c.args.topics.now) (same ∙ c.in_ok-copy.ensures) ∙ none) was in
    same_topic marks entries q c.new-topic.result c.reserve.new.self c.reserve.ensures.same.0 c.reserve.ensures.same.1 c.reserve.ensures.same.2 c.reserve.ensures.same.3 (c.new-topic.ensures marks entries q empty))
    (λ other. was)

pub returns-then-not-has_row-clause-room : goal.returns-then-not-has_row-clause-room
returns-then-not-has_row-clause-room c n q le was =
    let set : (q : List ℕ) → get name_order c.insert.new.self q ≡ cond (is_at (name_order c.in_ok-copy.field-0) q) (Some c.reserve.new.self) (get name_order c.args.topics.now q) = λ q. search rules in
    at_changed c.args.topics.now c.insert.new.self c.in_ok-copy.field-0 c.reserve.new.self set (λ name o. RoomAt n o) q
    (λ same. omega (arith, le ((bytes_eq-Decides q c.args.name.now).1 (same ∙ c.in_ok-copy.ensures)), c.in_ok-reserve.ensures.more))
    (λ other. was)

pub returns-clause-room : goal.returns-clause-room
returns-clause-room c n q le was = c.reserve_in.ensures.room n q was
