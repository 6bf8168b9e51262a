use Rattle.std.proofs.Common.{rules, ◌≡◌, ◌∙◌, ℕ, ◌+◌, Bool, List, [], cond, length, take, Some, sym, ap, subst, arith}
use Rattle.std.specs.Str.{bytes_eq}
use Rattle.std.specs.BTreeMap.{get, is_at}
use Rattle.std.proofs.lemmas.Slice.Eq.{bytes_eq-Decides}
use Rattle.cw_data.specs.declared.entry.DataEntry.{DataEntry}
use Rattle.cw_data.specs.declared.entry.DataEntry.TheVariants.{Batch as InBatch}
use Rattle.cw_data.specs.Log.{records_of}
use Rattle.cw_data.specs.Rows.{TopicAt}
use Rattle.cw_data.specs.Tables.{name_order, marks_in, RoomAt}
use Rattle.cw_data.proofs.Waiting.{topic_stays, count_is}
use Rattle.cw_data.proofs.RowLemmas.{at_changed, row_of}
use Rattle.cw_data.proofs.tables.add_to.Goals as goal

pub returns-in-Some-clause-topics : goal.returns-in-Some-clause-topics
returns-in-Some-clause-topics c name =
    let set : (q : List ℕ) → get name_order (c.get_mut.follows.lender c.add.new.self) q ≡ cond (is_at (name_order c.args.batch.now.topic) q) (Some c.add.new.self) (get name_order c.args.topics.now q) = λ q. search rules in
    at_changed c.args.topics.now (c.get_mut.follows.lender c.add.new.self) c.args.batch.now.topic c.add.new.self set (TopicAt (marks_in c.args.marks.now) c.args.entries.now) name
    (λ same. c.add.ensures.topic name (InBatch c.args.batch.now) c.requires.last (ap length c.as_slice-count.ensures ∙ sym (count_is c.args.batch.now name same))
    (row_of (TopicAt (marks_in c.args.marks.now) (take c.args.place c.args.entries.now)) c.args.topics.now c.args.batch.now.topic name c.in-Some.topic.now (sym c.in-Some.ensures.value) same (c.requires.topics name)))
    (λ other. subst (λ (l : List DataEntry). TopicAt (marks_in c.args.marks.now) l name (get name_order c.args.topics.now name)) (sym c.requires.last.last)
    (topic_stays (marks_in c.args.marks.now) (take c.args.place c.args.entries.now) (InBatch c.args.batch.now) name (get name_order c.args.topics.now name)
    (ap (λ b. cond b (records_of c.args.batch.now) []) other) (c.requires.topics name)))

pub returns-in-Some-clause-room : goal.returns-in-Some-clause-room
returns-in-Some-clause-room c n name was =
    let set : (q : List ℕ) → get name_order (c.get_mut.follows.lender c.add.new.self) q ≡ cond (is_at (name_order c.args.batch.now.topic) q) (Some c.add.new.self) (get name_order c.args.topics.now q) = λ q. search rules in
    at_changed c.args.topics.now (c.get_mut.follows.lender c.add.new.self) c.args.batch.now.topic c.add.new.self set (λ name o. RoomAt n o) name
    (λ same.
    let there = row_of (λ q o. RoomAt (n + cond (bytes_eq q c.args.batch.now.topic) 1 0) o) c.args.topics.now c.args.batch.now.topic name c.in-Some.topic.now (sym c.in-Some.ensures.value) same was in
    let room = subst (λ (b : Bool). RoomAt (n + cond b 1 0) (Some c.in-Some.topic.now)) ((bytes_eq-Decides name c.args.batch.now.topic).1 same) there in
    omega (arith, room, c.add.ensures.room, c.add.ensures.more))
    (λ other.
    let e : n + 0 ≡ n = omega arith in
    subst (λ k. RoomAt k (get name_order c.args.topics.now name)) e (subst (λ (b : Bool). RoomAt (n + cond b 1 0) (get name_order c.args.topics.now name)) other was))
