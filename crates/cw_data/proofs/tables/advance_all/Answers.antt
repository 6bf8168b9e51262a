use Rattle.std.proofs.Common.{ℕ, ◌+◌, List, drop, get_or, sym, subst, arith}
use Rattle.std.specs.BTreeMap.{get}
use Rattle.std.proofs.lemmas.List.{drop_more, drop_all}
use Rattle.cw_data.specs.Rows.{batch_at, WaitsAt}
use Rattle.cw_data.specs.Tables.{marks_in, name_order, is_in_topic, NextAt}
use Rattle.cw_data.proofs.Waiting.{by_bool, waits_from_topic, next_from_topic, next_on, topic_from}
use Rattle.cw_data.proofs.tables.advance_all.Goals as goal

pub advance_at-requires : goal.advance_at-requires
advance_at-requires c = c.loop-place.invariant.waits

pub loop-place-preserved : goal.loop-place-preserved
loop-place-preserved c =
    let place = get_or c.args.places.now c.loop-place.place-index 0 in
    record {
      waits = λ name. by_bool (is_in_topic name (batch_at c.args.entries.now (get_or c.args.places.now c.loop-place.place-index 0)))
          (λ is. waits_from_topic (marks_in c.args.marks.now) c.args.entries.now name (get name_order c.advance_at.new.topics name) (c.advance_at.ensures.advanced name is))
          (λ isnt. subst (WaitsAt (marks_in c.args.marks.now) c.args.entries.now name) (sym (c.advance_at.ensures.others name isnt)) (c.loop-place.invariant.waits name));
      next = λ name. by_bool (is_in_topic name (batch_at c.args.entries.now (get_or c.args.places.now c.loop-place.place-index 0)))
          (λ is. next_from_topic (marks_in c.args.marks.now) c.args.entries.now name (drop (c.loop-place.place-index + 1) c.args.places.now) (get name_order c.advance_at.new.topics name) (c.advance_at.ensures.advanced name is))
          (λ isnt. subst (NextAt (marks_in c.args.marks.now) c.args.entries.now name (drop (c.loop-place.place-index + 1) c.args.places.now)) (sym (c.advance_at.ensures.others name isnt))
          (next_on (marks_in c.args.marks.now) c.args.entries.now name place (drop (c.loop-place.place-index + 1) c.args.places.now) (get name_order c.loop-place.topics name) isnt
          (subst (λ (l : List ℕ). NextAt (marks_in c.args.marks.now) c.args.entries.now name l (get name_order c.loop-place.topics name))
          (drop_more c.args.places.now c.loop-place.place-index 0 c.loop-place-test.true) (c.loop-place.invariant.next name))));
      rows = λ name had. c.advance_at.ensures.rows name (c.loop-place.invariant.rows name had);
      room = λ n name had. c.advance_at.ensures.room n name (c.loop-place.invariant.room n name had);
    }

pub returns-clause-topics : goal.returns-clause-topics
returns-clause-topics c name =
    topic_from (marks_in c.args.marks.now) c.args.entries.now name (get name_order c.loop-place.topics name) (c.loop-place.invariant.waits name)
    (subst (λ (l : List ℕ). NextAt (marks_in c.args.marks.now) c.args.entries.now name l (get name_order c.loop-place.topics name))
    (drop_all c.loop-place.place-index c.args.places.now (omega arith)) (c.loop-place.invariant.next name))
