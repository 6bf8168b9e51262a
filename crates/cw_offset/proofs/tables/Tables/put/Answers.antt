use Rattle.std.proofs.Common.{refl, ◌≡◌}
use Rattle.cw_offset.specs.declared.call.OffsetCall.TheVariants.{Put}
use Rattle.cw_offset.specs.declared.under.Under.{Under}
use Rattle.cw_offset.specs.Rows.{begun}
use Rattle.cw_offset.specs.Tables.{under_at, Puts}
use Rattle.cw_offset.proofs.Done.{put_keeps}
use Rattle.cw_offset.proofs.Rooms.{one_there, under_has, changed_under, changed_parts, parts_as_before, put_parts, not_before}
use Rattle.cw_offset.proofs.tables.Tables.put.Goals as goal

pub begin_at-begins-requires : goal.begin_at-begins-requires
begin_at-begins-requires c =
    under_has (under_at c.args.self.now.waiting c.args.tag) c.args.part.now (c.requires.rows (Put c.args.tag c.args.part.now c.args.to) (one_there (Put c.args.tag c.args.part.now c.args.to))).1

pub put_under-requires : goal.put_under-requires
put_under-requires c =
    changed_parts (λ (was now : Under). now ≡ begun c.args.self.now.next was) c.args.tag c.args.self.now.waiting c.begin_at-begins.new.waiting c.begin_at-begins.ensures.changes
    (λ q has. parts_as_before (begun c.args.self.now.next c.begin_at-begins.ensures.changes.was) c.begin_at-begins.ensures.changes.now c.begin_at-begins.ensures.changes.change q has)
    c.args.tag c.args.part.now (c.requires.rows (Put c.args.tag c.args.part.now c.args.to) (one_there (Put c.args.tag c.args.part.now c.args.to))).1

pub returns-clause-kept : goal.returns-clause-kept
returns-clause-kept c calls kept =
    put_keeps c.args.self.now _ calls kept c.args.tag refl c.args.part.now c.args.to c.begin_at-begins.new.waiting c.begin_at-begins.ensures.changes c.put_under.ensures
    c.begin_at-begins.result c.begin_at-begins.ensures.begins c.fill_place.ensures.rows refl
    (c.requires.rows (Put c.args.tag c.args.part.now c.args.to) (one_there (Put c.args.tag c.args.part.now c.args.to))).0

pub returns-clause-room : goal.returns-clause-room
returns-clause-room c =
    let begins = c.begin_at-begins.ensures.changes in
    record {
      next = refl;
      parts = λ q has. has;
      under = λ t has. changed_under (Puts c.args.self.now.next c.args.part.now c.args.to) c.args.tag c.begin_at-begins.new.waiting c.put_under.new.waiting c.put_under.ensures t
          (changed_under (λ (was now : Under). now ≡ begun c.args.self.now.next was) c.args.tag c.args.self.now.waiting c.begin_at-begins.new.waiting begins t has);
      parts_in = λ t q has. changed_parts (Puts c.args.self.now.next c.args.part.now c.args.to) c.args.tag c.begin_at-begins.new.waiting c.put_under.new.waiting c.put_under.ensures
          (λ p had. put_parts c.args.self.now.next c.args.part.now c.args.to c.put_under.ensures.was c.put_under.ensures.now c.put_under.ensures.change p had) t q
          (changed_parts (λ (was now : Under). now ≡ begun c.args.self.now.next was) c.args.tag c.args.self.now.waiting c.begin_at-begins.new.waiting begins
          (λ p had. parts_as_before (begun c.args.self.now.next begins.was) begins.now begins.change p had) t q has);
      places = λ n lt has. c.fill_place.ensures.kept n (not_before c.args.self.now.next n lt) has;
    }
