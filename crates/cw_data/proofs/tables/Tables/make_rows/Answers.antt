use Rattle.std.proofs.Common.{◌≡◌, ℕ, ◌+◌, ◌++◌, ◌∷◌, [], length, List, Bool, cond, OnOk, IsSome, refl, sym, ap, subst, arith}
use Rattle.std.specs.Str.{bytes_eq}
use Rattle.std.specs.List.{count_by}
use Rattle.std.specs.BTreeMap.{get}
use Rattle.std.specs.Ordering.{nat_cmp}
use Rattle.std.proofs.lemmas.Bool.{true≢false}
use Rattle.std.proofs.lemmas.Slice.Eq.{bytes_eq-Decides}
use Rattle.cw_types.specs.declared.ids.Tag.{Tag}
use Rattle.cw_types.specs.Same.{tag_order}
use Rattle.cw_types.proofs.SameLemmas.{same_tag-Decides}
use Rattle.cw_data.specs.declared.entry.DataEntry.TheVariants.{Batch as InBatch, Mark}
use Rattle.cw_data.specs.declared.entry.EntryRef.{EntryRef}
use Rattle.cw_data.specs.Tables.{marks_in, name_order, RoomAt, HasRoom, is_batch_of, entry_of}
use Rattle.cw_data.specs.Unmarked.{is_batch_with, HasRoomFor}
use Rattle.cw_data.proofs.Waiting.{by_bool}
use Rattle.cw_data.proofs.Waits.{roomier_twice, has_more}
use Rattle.cw_data.proofs.Places.{reads_as_before, same_room, more_room, rows_kept, on_both, on_three}
use Rattle.cw_data.proofs.tables.Tables.make_rows.Goals as goal

pub returns-in_err-make_row-clause-kept : goal.returns-in_err-make_row-clause-kept
returns-in_err-make_row-clause-kept c =
    reads_as_before c.args.self.now (record { marks = c.args.self.now.marks; unmarked = c.make_row.new.self; topics = c.args.self.now.topics }) (λ q. refl) c.make_row.ensures.roomier (λ marks entries name was. was)

pub returns-in_err-make_row-clause-has : goal.returns-in_err-make_row-clause-has
returns-in_err-make_row-clause-has c =
    same_room c.args.self.now (record { marks = c.args.self.now.marks; unmarked = c.make_row.new.self; topics = c.args.self.now.topics }) (λ entry had. had) c.make_row.ensures.roomier c.args.reserved.now (λ name room. room) c.requires

pub returns-in-Batch-clause-kept : goal.returns-in-Batch-clause-kept
returns-in-Batch-clause-kept c =
    reads_as_before c.args.self.now c.make_batch.new.self (λ q. ap (λ m. marks_in m q) c.make_batch.ensures.marks)
    (roomier_twice c.args.self.now.unmarked c.make_row.new.self c.make_batch.new.self.unmarked c.make_row.ensures.roomier c.make_batch.ensures.roomier) c.make_batch.ensures.kept

pub returns-in-Batch-clause-has : goal.returns-in-Batch-clause-has
returns-in-Batch-clause-has c =
    same_room c.args.self.now c.make_batch.new.self
    (rows_kept c.args.self.now c.make_batch.new.self c.make_batch.ensures.rows (λ q had. subst (λ m. IsSome (get tag_order m q)) (sym c.make_batch.ensures.marks) had))
    (roomier_twice c.args.self.now.unmarked c.make_row.new.self c.make_batch.new.self.unmarked c.make_row.ensures.roomier c.make_batch.ensures.roomier)
    c.args.reserved.now c.make_batch.ensures.topics c.requires

pub returns-in-Batch-clause-more : goal.returns-in-Batch-clause-more
returns-in-Batch-clause-more c =
    let has : HasRoom c.make_batch.new.self c.args.reserved.now = returns-in-Batch-clause-has c in
    let next : c.make_batch.new.self.unmarked.next ≡ c.args.self.now.unmarked.next = omega (arith, c.make_batch.ensures.roomier.next, c.make_row.ensures.roomier.next) in
    let at : c.args.self.now.unmarked.next + length c.args.reserved.now ≡ c.make_batch.new.self.unmarked.next + length c.args.reserved.now = omega (arith, next) in
    let there : IsSome (get nat_cmp c.make_batch.new.self.unmarked.order (c.make_batch.new.self.unmarked.next + length c.args.reserved.now)) =
    subst (λ n. IsSome (get nat_cmp c.make_batch.new.self.unmarked.order n)) at (c.make_batch.ensures.roomier.rows (c.args.self.now.unmarked.next + length c.args.reserved.now) c.in_ok-make_row.ensures.there) in
    subst (λ (e : EntryRef). OnOk c.make_batch.result (HasRoom c.make_batch.new.self (c.args.reserved.now ++ entry_of e ∷ []))) (sym c.in-Batch.is)
    (on_three c.make_batch.result c.make_batch.ensures.there c.make_batch.ensures.room c.make_batch.ensures.more (λ topic room more.
    more_room c.make_batch.new.self c.args.reserved.now (InBatch c.in-Batch.batch.now) has topic
    (has_more c.make_batch.new.self.unmarked c.args.reserved.now (InBatch c.in-Batch.batch.now) has.unmarked there (omega (arith, at, c.in_ok-make_row.ensures.small))
    (λ q is. subst (λ (t : Tag). HasRoomFor (count_by (is_batch_with t) c.args.reserved.now + 1) (get tag_order c.make_batch.new.self.unmarked.places t)) (sym ((same_tag-Decides q c.in-Batch.batch.now.tag).0 is)) room))
    (λ name. by_bool (bytes_eq name c.in-Batch.batch.now.topic)
    (λ same.
    let here : RoomAt (count_by (is_batch_of name) c.args.reserved.now + 1) (get name_order c.make_batch.new.self.topics name) =
    subst (λ (n : List ℕ). RoomAt (count_by (is_batch_of n) c.args.reserved.now + 1) (get name_order c.make_batch.new.self.topics n)) (sym ((bytes_eq-Decides name c.in-Batch.batch.now.topic).0 same)) more in
    subst (λ (b : Bool). RoomAt (count_by (is_batch_of name) c.args.reserved.now + cond b 1 0) (get name_order c.make_batch.new.self.topics name)) (sym same) here)
    (λ other.
    let none : count_by (is_batch_of name) c.args.reserved.now ≡ count_by (is_batch_of name) c.args.reserved.now + 0 = omega arith in
    subst (λ (b : Bool). RoomAt (count_by (is_batch_of name) c.args.reserved.now + cond b 1 0) (get name_order c.make_batch.new.self.topics name)) (sym other)
    (subst (λ n. RoomAt n (get name_order c.make_batch.new.self.topics name)) none (has.topics name))))))

pub returns-in-Mark-clause-kept : goal.returns-in-Mark-clause-kept
returns-in-Mark-clause-kept c =
    reads_as_before c.args.self.now (record { marks = c.make_tag.new.marks; unmarked = c.make_row.new.self; topics = c.args.self.now.topics }) c.make_tag.ensures.same c.make_row.ensures.roomier (λ marks entries name was. was)

pub returns-in-Mark-clause-has : goal.returns-in-Mark-clause-has
returns-in-Mark-clause-has c =
    same_room c.args.self.now (record { marks = c.make_tag.new.marks; unmarked = c.make_row.new.self; topics = c.args.self.now.topics })
    (rows_kept c.args.self.now (record { marks = c.make_tag.new.marks; unmarked = c.make_row.new.self; topics = c.args.self.now.topics }) (λ name had. had) c.make_tag.ensures.rows)
    c.make_row.ensures.roomier c.args.reserved.now (λ name room. room) c.requires

pub returns-in-Mark-clause-more : goal.returns-in-Mark-clause-more
returns-in-Mark-clause-more c =
    let has = returns-in-Mark-clause-has c in
    let at : c.args.self.now.unmarked.next + length c.args.reserved.now ≡ c.make_row.new.self.next + length c.args.reserved.now = omega (arith, c.make_row.ensures.roomier.next) in
    let there : IsSome (get nat_cmp c.make_row.new.self.order (c.make_row.new.self.next + length c.args.reserved.now)) = subst (λ n. IsSome (get nat_cmp c.make_row.new.self.order n)) at c.in_ok-make_row.ensures.there in
    subst (λ (e : EntryRef). OnOk c.make_tag.result (HasRoom (record { marks = c.make_tag.new.marks; unmarked = c.make_row.new.self; topics = c.args.self.now.topics }) (c.args.reserved.now ++ entry_of e ∷ []))) (sym c.in-Mark.is)
    (on_both c.make_tag.result c.make_tag.ensures.there c.make_tag.ensures.there (λ tag again.
    more_room (record { marks = c.make_tag.new.marks; unmarked = c.make_row.new.self; topics = c.args.self.now.topics }) c.args.reserved.now (Mark c.in-Mark.tag.now c.in-Mark.committed) has tag
    (has_more c.make_row.new.self c.args.reserved.now (Mark c.in-Mark.tag.now c.in-Mark.committed) has.unmarked there (omega (arith, at, c.in_ok-make_row.ensures.small)) (λ q is. absurd (true≢false (sym is))))
    (λ name.
    let none : count_by (is_batch_of name) c.args.reserved.now ≡ count_by (is_batch_of name) c.args.reserved.now + 0 = omega arith in
    subst (λ n. RoomAt n (get name_order c.args.self.now.topics name)) none (c.requires.topics name))))
