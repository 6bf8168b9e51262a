use Rattle.std.proofs.Common.{rules, ◌≡◌, ◌∙◌, ℕ, List, [], cond, Some, sym, ap, subst, arith}
use Rattle.std.specs.BTreeMap.{get, is_at}
use Rattle.std.proofs.lemmas.Slice.Eq.{bytes_eq-Decides}
use Rattle.cw_data.specs.Log.{records}
use Rattle.cw_data.specs.Rows.{TopicAt, WaitsAt}
use Rattle.cw_data.specs.Tables.{name_order, marks_in, RoomAt}
use Rattle.cw_data.proofs.RowLemmas.{at_changed, others_stay, row_of}
use Rattle.cw_data.proofs.tables.advance.Goals as goal

pub advance-requires : goal.advance-requires
advance-requires c =
    let was = subst (WaitsAt (marks_in c.args.marks.now) c.args.entries.now c.args.topic.now) (sym c.in-Some.ensures.value) c.requires in
    record { behind = was.behind; within = was.within }

pub returns-in-Some-clause-advanced : goal.returns-in-Some-clause-advanced
returns-in-Some-clause-advanced c name is =
    let set : (q : List ℕ) → get name_order (c.get_mut.follows.lender c.advance.new.self) q ≡ cond (is_at (name_order c.args.topic.now) q) (Some c.advance.new.self) (get name_order c.args.topics.now q) = λ q. search rules in
    let same = (bytes_eq-Decides name c.args.topic.now).0 is in
    at_changed c.args.topics.now (c.get_mut.follows.lender c.advance.new.self) c.args.topic.now c.advance.new.self set (TopicAt (marks_in c.args.marks.now) c.args.entries.now) name
    (λ one. c.advance.ensures.topic name (subst (WaitsAt (marks_in c.args.marks.now) c.args.entries.now name) (ap (get name_order c.args.topics.now) same ∙ sym c.in-Some.ensures.value)
    (subst (λ n. WaitsAt (marks_in c.args.marks.now) c.args.entries.now n (get name_order c.args.topics.now n)) (sym same) c.requires)))
    (λ other. cc)

pub returns-in-Some-clause-others : goal.returns-in-Some-clause-others
returns-in-Some-clause-others c name other =
    let set : (q : List ℕ) → get name_order (c.get_mut.follows.lender c.advance.new.self) q ≡ cond (is_at (name_order c.args.topic.now) q) (Some c.advance.new.self) (get name_order c.args.topics.now q) = λ q. search rules in
    others_stay c.args.topics.now (c.get_mut.follows.lender c.advance.new.self) c.args.topic.now c.advance.new.self set name other

pub returns-in-Some-clause-room : goal.returns-in-Some-clause-room
returns-in-Some-clause-room c n name was =
    let set : (q : List ℕ) → get name_order (c.get_mut.follows.lender c.advance.new.self) q ≡ cond (is_at (name_order c.args.topic.now) q) (Some c.advance.new.self) (get name_order c.args.topics.now q) = λ q. search rules in
    at_changed c.args.topics.now (c.get_mut.follows.lender c.advance.new.self) c.args.topic.now c.advance.new.self set (λ name o. RoomAt n o) name
    (λ same.
    let room = row_of (λ name o. RoomAt n o) c.args.topics.now c.args.topic.now name c.in-Some.kept.now (sym c.in-Some.ensures.value) same was in
    omega (arith, room, c.advance.ensures.same.0, c.advance.ensures.same.1))
    (λ other. was)

pub returns-in-None-clause-advanced : goal.returns-in-None-clause-advanced
returns-in-None-clause-advanced c name is =
    let stay : get name_order c.get_mut.follows.lender-at-none name ≡ get name_order c.args.topics.now name = search rules in
    let same = (bytes_eq-Decides name c.args.topic.now).0 is in
    let none : records c.args.topic.now c.args.entries.now ≡ [] = subst (WaitsAt (marks_in c.args.marks.now) c.args.entries.now c.args.topic.now) (sym c.in-None.ensures.value) c.requires in
    subst (TopicAt (marks_in c.args.marks.now) c.args.entries.now name) (sym (stay ∙ ap (get name_order c.args.topics.now) same ∙ sym c.in-None.ensures.value))
    (subst (λ n. records n c.args.entries.now ≡ []) (sym same) none)
