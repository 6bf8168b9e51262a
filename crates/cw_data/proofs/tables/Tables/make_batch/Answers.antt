use Rattle.std.proofs.Common.{ℕ, ◌+◌, ◌≤◌, List, sym, subst, arith}
use Rattle.std.specs.List.{count_by}
use Rattle.std.specs.BTreeMap.{get}
use Rattle.std.proofs.lemmas.Slice.Eq.{bytes_eq-Decides}
use Rattle.cw_types.specs.Same.{tag_order}
use Rattle.cw_data.specs.Tables.{is_batch_of}
use Rattle.cw_data.specs.Unmarked.{HasRoomFor}
use Rattle.cw_data.proofs.Places.{on_any}
use Rattle.cw_data.proofs.tables.Tables.make_batch.Goals as goal

pub returns-clause-topics : goal.returns-clause-topics
returns-clause-topics c q was =
    c.make_topic.ensures.room (count_by (is_batch_of q) c.args.reserved.now) q
    (λ same. subst (λ (n : List ℕ). count_by (is_batch_of n) c.args.reserved.now ≤ c.batches_of-more.result + 1) (sym ((bytes_eq-Decides q c.args.batch.now.topic).0 same)) (omega (arith, c.batches_of-more.ensures))) was

pub returns-clause-room : goal.returns-clause-room
returns-clause-room c = on_any c.make_topic.result
    (subst (λ n. HasRoomFor (n + 1) (get tag_order c.make_room.new.self.places c.args.batch.now.tag)) c.batches_with-more.ensures c.in_ok-make_room.ensures.there)
